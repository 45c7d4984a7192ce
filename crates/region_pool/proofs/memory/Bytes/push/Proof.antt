-- `push` writes the first byte of the room behind those that are written. Assumes `Logic`.
use mathlib.Core.Path.{◌≡◌, refl, sym, ap, ◌∙◌}
use Prim.Native.Nat.{ℕ, suc, ◌+◌, ◌-◌, ◌<◌, ◌^◌}
use native.Mathlib.Omega.{arith}
use mathlib.Core.List.{List, [], ◌∷◌, ◌++◌}
use lib.ListN.{length, length-append}
use base.Fraction.{full_share}
use mir.Syntax.{w8, w64, ty_int}
use mir.Val.{Val, vint, vptr, vunit}
use base.Logic.{SProp, never, id⊢}
use base.Fml.{Lft, Share, ftrue, fat, flft, froom}
use prog.Wp.{Env, WpFn}
use contract.Monad.{fact}
use contract.Running.{tables}
use types.Kit.{‵, raw, ◌⊛◌, prop, at_ret, ◌$◌, ◌∵◌, !, qed, move, keep, use1, use2, split, join, rewrite, regoal, suffices, fsplit, fsplit3, fjoin, fjoin3, feq_i, feq_l, flt_i, flt_l, frame, done}
use types.Part.{whole, sub}
use types.Run.{init, stop, fld, of_opd, bin, unit_lit, assigns_last, first, blocks, exec, returns, enter}
use types.ByLocal.{alloc_all, pass_all, free_all, look_at, take_at, give_at, get, get_in, through, sets, env}
use denote.Builtin.{u8, usize}
use denote.Memory.{part_at}
use denote.Param.{layout}
use denote.Plain.{uint_in}
use denote.RattleType.{owns}
use denote.RawPtr.{Ptr, in_a_block}
use denote.Signature.{plain, types_at}
use denote.Steps.{nothing, heard, opens, closes}
use denote.Triple.Entry.{alive}
use denote.Triple.Walked.{says, Stays, stay_dropped, stay_ref, walk_of, ends_at, Goes-dropped, Goes-ref}
use Rattle.std.proofs.raw_atomic.Walks.{proved_at}
use Rattle.std.proofs.RcSteps.{word-Good}
use Rattle.std.proofs.VecSteps.Shapes.{after}
use Rattle.region_pool.specs.Ownership.{bytes_of, bytes_own}
use Rattle.region_pool.specs.declared.memory.Bytes.{Bytes}
use Rattle.region_pool.specs.contracts.memory.Bytes as bytes
use Rattle.region_pool.specs.contracts.memory.Start as start
use Rattle.region_pool.specs.contracts.memory.Bytes.push as F
use Rattle.region_pool.specs.contracts.memory.Bytes.push.Key.{name as #self}
use Rattle.region_pool.proofs.Rows.{word, word_had, Row, glue, byte_room}
use Rattle.region_pool.proofs.memory.Bytes.push.Statement.{statement}
use Rattle.region_pool.proofs.memory.Bytes.push.Code as code

abbrev stayed : Stays F.ended.signature.params F.ended.kept
stayed = (stay_ref (0 ∷ []) tt (plain (λ _. bytes.the_row)), (stay_dropped (plain (λ _. start.the_row)) F.ended.kept.1.0, (stay_dropped (plain (λ _. usize)) F.ended.kept.1.1.0, (stay_dropped (plain (λ _. u8)) F.ended.kept.1.1.1.0, tt))))

pub push_spec : {M : Type 1} → statement M
push_spec 𝓤 𝓛 𝓜 𝓡 wired =
    let c = F.clauses 𝓛 𝓜.mem 𝓡.returns in let C = (tables 𝓤 𝓛.H 𝓜 𝓡 𝓡.env).C in let Λ = (tables 𝓤 𝓛.H 𝓜 𝓡 𝓡.env).Λ in
    proved_at 𝓛 F.ended stayed c 𝓜 𝓡
    (Goes-ref 𝓛 1 0 tt (plain (λ _. bytes.the_row)), (Goes-dropped 𝓛 1 (plain (λ _. start.the_row)) F.ended.kept.1.0 (λ κs x f. refl), (Goes-dropped 𝓛 1 (plain (λ _. usize)) F.ended.kept.1.1.0 (λ κs x f. refl), (Goes-dropped 𝓛 1 (plain (λ _. u8)) F.ended.kept.1.1.1.0 (λ κs x f. refl), tt))))
    #self code.function (code.unfolded 𝓤 𝓛.H 𝓜 𝓡 wired) (λ z are.
    let Post : Val → SProp 𝓤 = (walk_of 𝓛 F.ended stayed c).post z in
    let a = z.0.3 in let vss = z.0.4 in let κ : Lft = z.0.0.0 in let q : Share = z.0.1.0 in
    let d = a.0.now in let place = a.0.ref_ptr in let at = a.1.1.0 in let byte = a.1.1.1.0 in let n = length d.items in
    let Asked : Type 0 = (a.1.0.ptr ≡ d.at) × (at ≡ length d.items) × (0 < d.spare) in
    qed 𝓛 ((raw (alive 𝓛 F.ended.signature z.0.0 z.0.1) ⊛ ‵ (owns (types_at F.ended.signature.params z.0.0) a vss)) ∷ raw (fact 𝓤 Asked) ∷ []) ∵
    move ! (1 ∷ []) $ heard ! Asked (λ asked. split ! $ use1 𝓛 (‵ (flft κ q) ⊛ ‵ ftrue) (id⊢ 𝓤 _) $ split ! $ move ! (2 ∷ []) $
    fsplit ! $ fsplit3 ! $ feq_l ! (λ is₀. move ! (2 ∷ []) $ fsplit ! $ word_had ! a.1.0.ptr vss.1.0 (λ is₁. fsplit ! $ fsplit ! $ feq_l ! (λ is₂. flt_l ! (λ fits_at. fsplit ! $ fsplit ! $ feq_l ! (λ is₃. flt_l ! (λ fits_byte. keep ! (1 ∷ 2 ∷ 3 ∷ []) $
    let fits_n : n < 2 ^ 64 = omega (arith, asked.1) in
    regoal ! (λ (us : List Val). prop (WpFn 𝓤 𝓛.H C Λ code.function us Post)) (λ i. is₀ i ++ (is₁ i ++ ((is₂ ∙ ap (λ k. vint w64 k ∷ []) asked.1) i ++ (is₃ i ++ [])))) refl $
    enter ! C Λ code.function (vptr place.0 place.1 ∷ word a.1.0.ptr ∷ vint w64 n ∷ vint w8 byte ∷ []) Post $
    alloc_all ! (λ l. pass_all ! refl ((tt, tt), (word-Good [] a.1.0.ptr, ((tt, record { fits = fits_n }), ((tt, record { fits = fits_byte }), tt)))) $
    let En : Env 𝓤 𝓛.H = env code.function.locals l in
    opens ! tt bytes.the_row {h = d} place.0 place.1 (λ vs. move ! (1 ∷ []) $ fsplit ! $ move ! (1 ∷ []) $
    in_a_block ! d.at (λ p. bytes_own p d.items d.spare) (id⊢ 𝓤 (never 𝓤)) (λ b o e. fsplit ! $ flt_l ! (λ small. fsplit ! $ move ! (1 ∷ []) $
    let left = d.spare - 1 in let more : d.spare ≡ suc left = omega (arith, asked.2) in
    let new : Bytes = record d { items = d.items ++ byte ∷ []; spare = left } in
    let longer : length new.items ≡ n + 1 = length-append d.items (byte ∷ []) in
    rewrite ! 0 (λ (k : ℕ). ‵ (froom (bytes_of k) b (n + o))) more refl $
    use1 𝓛 (‵ (froom (ty_int w8) b (n + o)) ⊛ ‵ (froom (bytes_of left) b (n + o + 1))) (byte_room 𝓛 b left (n + o)) $ split ! $
    take_at ! 2 $ rewrite ! 0 (λ (p : Ptr). ‵ (fat full_share (layout start.the_row) (l 2) 0 (word p))) (asked.0 ∙ e) refl $ give_at ! 2 $ first ! $ blocks ! $
    sets ! (bin ! (get_in ! (fld ! refl (stop !)) (sub ! 0 refl (whole !))) (get ! refl) tt) refl (tt, tt) $
    -- [room for the byte; the room behind; the bytes; no field; its cell; the open borrow, in three entries]
    assigns_last ! (of_opd ! (get ! refl)) (through ! refl (stop !)) (init ! 0 refl (tt, record { fits = fits_byte })) $
    exec ! C Λ En (after 1 code.function.body) (at_ret En Post) $ sets ! (of_opd ! (unit_lit !)) refl (tt, tt) $
    use1 𝓛 (‵ (part_at u8 full_share byte b (n + o))) (uint_in 𝓛 full_share w8 byte b (n + o)) $ nothing ! $ move ! (1 ∷ 0 ∷ []) $ fjoin ! $ move ! (2 ∷ 0 ∷ []) $
    use2 𝓛 (‵ (Row 𝓛 b o new.items)) (glue 𝓛 b d.items (byte ∷ []) o (n + o) refl) $ move ! (1 ∷ []) $
    rewrite ! 0 (λ (k : ℕ). ‵ (froom (bytes_of left) b k)) {x = length new.items + o} (omega (arith, longer)) refl $ move ! (1 ∷ 0 ∷ []) $ fjoin ! $
    flt_i ! (length new.items + left) (2 ^ 63) (omega (arith, longer)) $ fjoin ! $
    rewrite ! 0 (λ (p : Ptr). ‵ (bytes_own p new.items left)) (sym e) refl $ move ! (1 ∷ 0 ∷ []) $ fjoin ! $ move ! (1 ∷ 0 ∷ []) $ closes ! tt bytes.the_row new vs place.0 place.1 $
    returns ! (look_at ! 0 refl) $ free_all ! refl $ keep ! (0 ∷ 1 ∷ 2 ∷ []) $ feq_i ! (List Val) (vunit ∷ []) (vunit ∷ []) refl $ move ! (1 ∷ 2 ∷ 3 ∷ 0 ∷ []) $
    suffices ! _ (ends_at 𝓛 F.ended stayed c z vunit tt (new, (tt, (tt, (tt, tt)))) (tt, (tt, (tt, (tt, tt))))) $ says ! (refl, refl, omega arith) $
    nothing ! $ move ! (3 ∷ 0 ∷ []) $ join ! $ frame ! $ feq_i ! (List Val) vss.0 (vptr place.0 place.1 ∷ []) is₀ $ fjoin3 ! $
    nothing ! $ nothing ! $ fjoin ! $ nothing ! $ fjoin ! $ nothing ! $ fjoin ! $ move ! (1 ∷ 0 ∷ []) $ fjoin ! $ done !))))))))))))
