-- `slice_mut` lends the bytes from one place on, and the owner of them all follows what is written. Assumes `Logic`.
use mathlib.Core.Path.{◌≡◌, refl, sym, ap, subst, ◌∙◌}
use Prim.Native.Nat.{ℕ, ◌+◌, ◌*◌, ◌<◌, ◌≤◌, ◌^◌}
use native.Mathlib.Omega.{arith}
use mathlib.Core.List.{List, [], ◌∷◌, ◌++◌}
use lib.ListN.{length, take, length-take, length-drop, length-append}
use lib.ListN.{drop as drop_l}
use lib.Seq.{take_at as take_front}
use seplogic.Ra.Ura.{Ura}
use base.Fraction.{full_share}
use mir.Syntax.{named, w64}
use mir.Val.{Val, vint, vptr}
use base.Logic.{SProp, ent, sep, never, id⊢}
use base.Fml.{Lft, GName, Share, Fml, ftrue, fsep, fat, flft, froom}
use prog.Wp.{Env, WpFn}
use contract.Monad.{fact}
use contract.Running.{tables}
use types.Logic.{Logic, sem}
use types.SemTy.{cells}
use types.Kit.{‵, raw, ◌⊛◌, some, later, await, pick, prop, at_ret, ◌$◌, ◌∵◌, !, qed, move, keep, use1, use2, split, join, group, rewrite, regoal, suffices, fsplit, fsplit3, fjoin, fjoin3, fpack, feq_l, flt_i, flt_l, frame, done}
use types.Part.{whole, sub, agg}
use types.Run.{stop, fld, of_opd, bin, and_then, no_more, first, blocks, exec, returns, enter}
use types.ByLocal.{alloc_all, pass_all, free_all, look_at, take_at, give_at, get, get_in, sets, sets_last, env}
use denote.Builtin.{u8, usize}
use denote.Array.{Array}
use denote.Follow.{follows}
use denote.FollowSlice.{Elements, lends_Elements}
use denote.Memory.{mem, cell_at, part_of}
use denote.Param.{layout}
use denote.RattleType.{owns}
use denote.RawPtr.{Ptr, block_ptr, in_a_block}
use denote.Ref.{MutBor}
use denote.Signature.{plain, mut_ref_to, types_at}
use denote.Slice.{MutSlice, slice_val}
use denote.Steps.{nothing, heard, opens}
use denote.Triple.Entry.{alive}
use denote.Triple.Walked.{says, Stays, stay_dropped, walk_of, ends_at, Goes-dropped, Goes-spent_ref}
use Rattle.std.proofs.raw_atomic.Walks.{proved_at}
use Rattle.std.proofs.RcSteps.{word-Good}
use Rattle.std.proofs.VecSteps.Shapes.{after}
use Rattle.region_pool.specs.Blocks.{with_part}
use Rattle.region_pool.specs.Ownership.{bytes_of, bytes_own}
use Rattle.region_pool.specs.declared.memory.Bytes.{Bytes}
use Rattle.region_pool.specs.contracts.memory.Bytes as bytes
use Rattle.region_pool.specs.contracts.memory.Start as start
use Rattle.region_pool.specs.contracts.memory.Bytes.slice_mut as F
use Rattle.region_pool.specs.contracts.memory.Bytes.slice_mut.Key.{name as #self}
use Rattle.region_pool.proofs.Rows.{None, word, word_had, Row, Around, run_out, run_in}
use Rattle.region_pool.proofs.memory.Bytes.slice_mut.Statement.{statement}
use Rattle.region_pool.proofs.memory.Bytes.slice_mut.Code as code

abbrev stayed : Stays F.ended.signature.params F.ended.kept
stayed = (stay_dropped (mut_ref_to (0 ∷ []) tt (plain (λ _. bytes.the_row))) F.ended.kept.0, (stay_dropped (plain (λ _. start.the_row)) F.ended.kept.1.0, (stay_dropped (plain (λ _. usize)) F.ended.kept.1.1.0, (stay_dropped (plain (λ _. usize)) F.ended.kept.1.1.1.0, tt))))

abbrev new : Bytes → ℕ → ℕ → List ℕ → Bytes
new d from len ws = record d { items = with_part d.items from len ws }

module _ {M : Type 1} {𝓤 : Ura M} (𝓛 : Logic 𝓤) (d : Bytes) (from len : ℕ) (within : from + len ≤ length d.items) (place : ℕ × ℕ) (vs : List Val) (b o : ℕ) (e : d.at ≡ block_ptr b o) (small : length d.items + d.spare < 2 ^ 63) where
  abbrev run : List ℕ
  run = take len (drop_l from d.items)

  -- all but the bytes that are lent
  abbrev Rest : Fml
  Rest = fsep (Around 𝓛 b o d.items from len within) (fsep (froom (bytes_of d.spare) b (length d.items + o)) (fsep (None.own_val tt vs) (cell_at full_share bytes.the_row.mir vs place.0 place.1)))

  back : length run ≡ len → (ws : List ℕ) → length ws ≡ length run → ent 𝓤 (sep 𝓤 (sem 𝓛 (cells (mem u8) ws b (from + o))) (sem 𝓛 Rest)) (sem 𝓛 ((mem bytes.the_row).own_at (new d from len ws) place.0 place.1))
  unfolding part_of
  back long ws same =
      let rest = drop_l (from + len) d.items in let plain_ws = take from d.items ++ (ws ++ rest) in
      let all : plain_ws ≡ with_part d.items from len ws = ap (λ l. take from d.items ++ (l ++ rest)) (sym (take_front ws (drop_l (length ws) run) len (same ∙ long))) in
      let as_long : length (with_part d.items from len ws) ≡ length d.items = sym (ap length all) ∙ omega (arith, length-append (take from d.items) (ws ++ rest), length-append ws rest, length-take from d.items, length-drop (from + len) d.items) in
      qed 𝓛 (‵ (cells (mem u8) ws b (from + o)) ∷ ‵ Rest ∷ []) ∵ move ! (1 ∷ []) $ fsplit3 ! $ move ! (1 ∷ 2 ∷ 3 ∷ 0 ∷ []) $ move ! (2 ∷ 3 ∷ []) $
      use2 𝓛 (‵ (Row 𝓛 b o plain_ws)) (run_in 𝓛 b o d.items from len within ws (sym (same ∙ long))) $ rewrite ! 0 (λ (l : List ℕ). ‵ (Row 𝓛 b o l)) all refl $
      move ! (1 ∷ []) $ rewrite ! 0 (λ (k : ℕ). ‵ (froom (bytes_of d.spare) b (k + o))) (sym as_long) refl $ move ! (1 ∷ 0 ∷ []) $ fjoin ! $
      flt_i ! (length (new d from len ws).items + d.spare) (2 ^ 63) (subst (λ k. k + d.spare < 2 ^ 63) (sym as_long) small) $ fjoin ! $
      rewrite ! 0 (λ (p : Ptr). ‵ (bytes_own p (new d from len ws).items d.spare)) (sym e) refl $ move ! (1 ∷ []) $ fsplit ! $ move ! (0 ∷ 2 ∷ []) $ fjoin ! $ move ! (1 ∷ 0 ∷ []) $ fjoin ! $
      fpack ! (List Val) (λ us. fsep (cell_at full_share bytes.the_row.mir us place.0 place.1) (bytes.the_row.own_val (new d from len ws) us)) vs $ done !

pub slice_mut_spec : {M : Type 1} → statement M
slice_mut_spec 𝓤 𝓛 𝓜 𝓡 wired =
    let c = F.clauses 𝓛 𝓜.mem 𝓡.returns in let C = (tables 𝓤 𝓛.H 𝓜 𝓡 𝓡.env).C in let Λ = (tables 𝓤 𝓛.H 𝓜 𝓡 𝓡.env).Λ in
    proved_at 𝓛 F.ended stayed c 𝓜 𝓡
    (Goes-spent_ref 𝓛 1 (0 ∷ []) tt (plain (λ _. bytes.the_row)), (Goes-dropped 𝓛 1 (plain (λ _. start.the_row)) F.ended.kept.1.0 (λ κs x f. refl), (Goes-dropped 𝓛 1 (plain (λ _. usize)) F.ended.kept.1.1.0 (λ κs x f. refl), (Goes-dropped 𝓛 1 (plain (λ _. usize)) F.ended.kept.1.1.1.0 (λ κs x f. refl), tt))))
    #self code.function (code.unfolded 𝓤 𝓛.H 𝓜 𝓡 wired) (λ z are.
    let Post : Val → SProp 𝓤 = (walk_of 𝓛 F.ended stayed c).post z in
    let a = z.0.3 in let vss = z.0.4 in let κ : Lft = z.0.0.0 in let q : Share = z.0.1.0 in
    let d = a.0.now in let place = a.0.ref_ptr in let γ = a.0.ghost_name in let from = a.1.1.0 in let len = a.1.1.1.0 in
    let Asked : Type 0 = (a.1.0.ptr ≡ d.at) × (from + len ≤ length d.items) in
    qed 𝓛 ((raw (alive 𝓛 F.ended.signature z.0.0 z.0.1) ⊛ ‵ (owns (types_at F.ended.signature.params z.0.0) a vss)) ∷ raw (fact 𝓤 Asked) ∷ []) ∵
    move ! (1 ∷ []) $ heard ! Asked (λ asked. split ! $ use1 𝓛 (‵ (flft κ q) ⊛ ‵ ftrue) (id⊢ 𝓤 _) $ split ! $ move ! (2 ∷ []) $
    let xs = take len (drop_l from d.items) in let within = asked.1 in
    let long : length xs ≡ len = omega (arith, asked.1, length-take len (drop_l from d.items), length-drop from d.items) in
    fsplit ! $ fsplit3 ! $ feq_l ! (λ is₀. move ! (2 ∷ []) $ fsplit ! $ word_had ! a.1.0.ptr vss.1.0 (λ is₁. fsplit ! $ fsplit ! $ feq_l ! (λ is₂. flt_l ! (λ fits_from. fsplit ! $ fsplit ! $ feq_l ! (λ is₃. flt_l ! (λ fits_len. keep ! (1 ∷ 2 ∷ 3 ∷ []) $
    regoal ! (λ (us : List Val). prop (WpFn 𝓤 𝓛.H C Λ code.function us Post)) (λ i. is₀ i ++ (is₁ i ++ (is₂ i ++ (is₃ i ++ [])))) refl $
    enter ! C Λ code.function (vptr place.0 place.1 ∷ word a.1.0.ptr ∷ vint w64 from ∷ vint w64 len ∷ []) Post $
    alloc_all ! (λ l. pass_all ! refl ((tt, tt), (word-Good [] a.1.0.ptr, ((tt, record { fits = fits_from }), ((tt, record { fits = fits_len }), tt)))) $
    let En : Env 𝓤 𝓛.H = env code.function.locals l in let view = bytes.the_row.coded.code d in
    opens ! tt bytes.the_row {h = d} place.0 place.1 (λ vs. move ! (1 ∷ []) $ fsplit ! $ move ! (1 ∷ []) $
    in_a_block ! d.at (λ p. bytes_own p d.items d.spare) (id⊢ 𝓤 (never 𝓤)) (λ b o e. fsplit ! $ flt_l ! (λ small. fsplit ! $
    let at : ℕ × ℕ = (b, from + o) in let lost = Rest 𝓛 d from len within place vs b o e small in let way = back 𝓛 d from len within place vs b o e small long in
    take_at ! 2 $ rewrite ! 0 (λ (p : Ptr). ‵ (fat full_share (layout start.the_row) (l 2) 0 (word p))) (asked.0 ∙ e) refl $ give_at ! 2 $ first ! $ blocks ! $
    sets ! (bin ! (get_in ! (fld ! refl (stop !)) (sub ! 0 refl (whole !))) (get ! refl) tt) refl (tt, tt) $
    use1 𝓛 (‵ (Row 𝓛 b (from + o) xs) ⊛ ‵ (Around 𝓛 b o d.items from len within)) (run_out 𝓛 b o d.items from len within) $ split ! $
    -- [the bytes to lend; those around; the room behind; no field; its cell; the open borrow, in three entries]
    sets_last ! (agg ! (and_then ! (get ! refl) (and_then ! (get ! refl) (no_more !)))) refl (tt, (tt, (record { fits = fits_len }, tt))) $
    exec ! C Λ En (after 1 code.function.body) (at_ret En Post) $
    sets ! (of_opd ! (get ! refl)) refl (tt, (tt, (record { fits = fits_len }, tt))) $
    move ! (3 ∷ 4 ∷ []) $ fjoin ! $ move ! (2 ∷ 3 ∷ 0 ∷ []) $ fjoin3 ! $ move ! (2 ∷ 3 ∷ 4 ∷ 1 ∷ 0 ∷ []) $ group ! 5 $
    let roomy : length xs * 1 < 2 ^ 63 = omega arith in let fitting : length xs < 2 ^ 64 = omega arith in
    use1 𝓛 (later (some (λ (δ : GName). raw (Elements 𝓛 bytes.the_row u8 (new d from len) (named 0) κ q place.0 place.1 b (from + o) γ xs (fitting, roomy) (sem 𝓛 lost) way δ))))
    (lends_Elements 𝓛 bytes.the_row u8 (new d from len) (named 0) κ q place.0 place.1 b (from + o) γ xs (fitting, roomy) (sem 𝓛 lost) way view view) $ await ! tt $ pick ! (λ δ.
    let r : MutBor (List ℕ) = record { ref_ptr = at; ghost_name = δ; now = xs } in
    returns ! (look_at ! 0 refl) $ free_all ! refl $ keep ! (0 ∷ []) $
    use1 𝓛 (‵ ((MutSlice (named 0) κ u8).own_val r (slice_val at (length xs) ∷ [])) ⊛ ‵ (flft κ q) ⊛ ‵ (follows bytes.the_row (Array u8 0) γ δ (new d from len))) (id⊢ 𝓤 _) $ split ! $ move ! (1 ∷ []) $ split ! $ move ! (2 ∷ []) $
    rewrite ! 0 (λ (k : ℕ). ‵ ((MutSlice (named 0) κ u8).own_val r (slice_val at k ∷ []))) long refl $
    suffices ! _ (ends_at 𝓛 F.ended stayed c z (slice_val at len) r (tt, (tt, (tt, (tt, tt)))) (tt, (tt, (tt, (tt, tt))))) $
    nothing ! $ nothing ! $ fjoin ! $ nothing ! $ fjoin ! $ nothing ! $ fjoin ! $ nothing ! $ fjoin ! $ join ! $ nothing ! $ move ! (2 ∷ 0 ∷ []) $ join ! $ join ! $ frame ! $ says ! refl $ done !)))))))))))))
