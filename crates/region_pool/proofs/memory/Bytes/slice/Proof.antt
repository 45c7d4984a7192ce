-- `slice` shows the bytes that a `&` to them all holds, from one place on. Assumes `Logic`.
use mathlib.Core.Path.{◌≡◌, refl, sym, ap, ◌∙◌}
use Prim.Native.Nat.{ℕ, ◌+◌, ◌*◌, ◌≤◌, ◌^◌}
use native.Mathlib.Omega.{arith}
use mathlib.Core.List.{List, [], ◌∷◌, ◌++◌}
use lib.ListN.{length, take, length-take, length-drop}
use lib.ListN.{drop as drop_l}
use mir.Val.{Val, vint, vptr}
use base.Logic.{SProp, never, id⊢}
use base.Fml.{Lft, Share}
use prog.Wp.{Env, WpFn}
use contract.Monad.{fact}
use contract.Running.{tables}
use types.Kit.{‵, raw, ◌⊛◌, prop, at_ret, ◌$◌, ◌∵◌, !, qed, move, drop, use1, split, regoal, suffices, fsplit, fjoin, feq_i, feq_l, flt_i, flt_l, done}
use types.Part.{whole, sub, agg}
use types.Run.{stop, fld, of_opd, bin, and_then, no_more, first, blocks, exec, returns, enter}
use types.ByLocal.{alloc_all, pass_all, free_all, look_at, get, get_in, sets, sets_last, env}
use denote.Exit.{yes}
use denote.Builtin.{u8, usize, RefOf}
use denote.Opens.{hide, unhide}
use denote.RattleType.{owns}
use denote.RawPtr.{in_a_block, block_ptr}
use denote.Signature.{plain, types_at}
use denote.Slice.{slice_val, elements_shared}
use denote.Steps.{nothing, heard}
use denote.Triple.Entry.{alive}
use denote.Triple.Walked.{says, Stays, stay_dropped, walk_of, ends_at, Goes-dropped}
use Rattle.std.proofs.raw_atomic.Walks.{proved_at}
use Rattle.std.proofs.VecSteps.Shapes.{after}
use Rattle.region_pool.specs.Ownership.{bytes_lent}
use Rattle.region_pool.specs.contracts.memory.Bytes as bytes
use Rattle.region_pool.specs.contracts.memory.Start as start
use Rattle.region_pool.specs.contracts.memory.Bytes.slice as F
use Rattle.region_pool.specs.contracts.memory.Bytes.slice.Key.{name as #self}
use Rattle.region_pool.proofs.Rows.{word, word_had, run_seen}
use Rattle.region_pool.proofs.memory.Bytes.slice.Statement.{statement}
use Rattle.region_pool.proofs.memory.Bytes.slice.Code as code

abbrev stayed : Stays F.ended.signature.params F.ended.kept
stayed = (stay_dropped (RefOf (0 ∷ []) tt (plain (λ _. bytes.the_row)) (λ _. tt)) yes, (stay_dropped (plain (λ _. start.the_row)) yes, (stay_dropped (plain (λ _. usize)) yes, (stay_dropped (plain (λ _. usize)) yes, tt))))

pub slice_spec : {M : Type 1} → statement M
slice_spec 𝓤 𝓛 𝓜 𝓡 wired =
    let c = F.clauses 𝓛 𝓜.mem 𝓡.returns in let C = (tables 𝓤 𝓛.H 𝓜 𝓡 𝓡.env).C in let Λ = (tables 𝓤 𝓛.H 𝓜 𝓡 𝓡.env).Λ in
    proved_at 𝓛 F.ended stayed c 𝓜 𝓡
    (Goes-dropped 𝓛 1 (RefOf (0 ∷ []) tt (plain (λ _. bytes.the_row)) (λ _. tt)) yes (λ κs x f. refl), (Goes-dropped 𝓛 1 (plain (λ _. start.the_row)) yes (λ κs x f. refl), (Goes-dropped 𝓛 1 (plain (λ _. usize)) yes (λ κs x f. refl), (Goes-dropped 𝓛 1 (plain (λ _. usize)) yes (λ κs x f. refl), tt))))
    #self code.function (code.unfolded 𝓤 𝓛.H 𝓜 𝓡 wired) (λ z are.
    let Post : Val → SProp 𝓤 = (walk_of 𝓛 F.ended stayed c).post z in
    let a = z.0.3 in let vss = z.0.4 in let κ : Lft = z.0.0.0 in let q : Share = z.0.1.0 in
    let d = a.0.now in let place = a.0.ref_ptr in let from = a.1.1.0 in let len = a.1.1.1.0 in
    let Asked : Type 0 = (a.1.0.ptr ≡ d.at) × (from + len ≤ length d.items) in
    qed 𝓛 ((raw (alive 𝓛 F.ended.signature z.0.0 z.0.1) ⊛ ‵ (owns (types_at F.ended.signature.params z.0.0) a vss)) ∷ raw (fact 𝓤 Asked) ∷ []) ∵
    move ! (1 ∷ []) $ heard ! Asked (λ asked. split ! $ move ! (1 ∷ []) $
    let run = take len (drop_l from d.items) in
    let long : length run ≡ len = omega (arith, asked.1, length-take len (drop_l from d.items), length-drop from d.items) in
    fsplit ! $ fsplit ! $ feq_l ! (λ is₀. unhide ! $ fsplit ! $ drop ! $
    in_a_block ! d.at (λ p. bytes_lent p d.items d.spare κ) (id⊢ 𝓤 (never 𝓤)) (λ b o e. fsplit ! $ flt_l ! (λ small.
    use1 𝓛 (‵ (elements_shared u8 run b (from + o) κ)) (run_seen 𝓛 b κ o d.items from len) $ hide ! $
    move ! (1 ∷ []) $ fsplit ! $ word_had ! a.1.0.ptr vss.1.0 (λ is₁. fsplit ! $ fsplit ! $ feq_l ! (λ is₂. flt_l ! (λ fits_from. fsplit ! $ fsplit ! $ feq_l ! (λ is₃. flt_l ! (λ fits_len. drop ! $
    -- [the bytes that are seen; the token]
    regoal ! (λ (us : List Val). prop (WpFn 𝓤 𝓛.H C Λ code.function us Post)) (λ i. is₀ i ++ ((is₁ ∙ ap (λ p. word p ∷ []) (asked.0 ∙ e)) i ++ (is₂ i ++ (is₃ i ++ [])))) refl $
    enter ! C Λ code.function (vptr place.0 place.1 ∷ word (block_ptr b o) ∷ vint _ from ∷ vint _ len ∷ []) Post $
    alloc_all ! (λ l. pass_all ! refl ((tt, tt), ((tt, (tt, tt)), ((tt, record { fits = fits_from }), ((tt, record { fits = fits_len }), tt)))) $
    let En : Env 𝓤 𝓛.H = env code.function.locals l in let at : ℕ × ℕ = (b, from + o) in
    first ! $ blocks ! $
    sets ! (bin ! (get_in ! (fld ! refl (stop !)) (sub ! 0 refl (whole !))) (get ! refl) tt) refl (tt, tt) $
    sets_last ! (agg ! (and_then ! (get ! refl) (and_then ! (get ! refl) (no_more !)))) refl (tt, (tt, (record { fits = fits_len }, tt))) $
    exec ! C Λ En (after 1 code.function.body) (at_ret En Post) $
    sets ! (of_opd ! (get ! refl)) refl (tt, (tt, (record { fits = fits_len }, tt))) $
    flt_i ! (length run * 1) (2 ^ 63) (omega arith) $ flt_i ! (length run) (2 ^ 64) (omega arith) $ fjoin ! $
    feq_i ! (List Val) (slice_val at len ∷ []) (slice_val at (length run) ∷ []) (ap (λ k. slice_val at k ∷ []) (sym long)) $ fjoin ! $ fjoin ! $
    returns ! (look_at ! 0 refl) $ free_all ! refl $
    suffices ! _ (ends_at 𝓛 F.ended stayed c z (slice_val at len) (record { ref_ptr = at; now = run }) (tt, (tt, (tt, (tt, tt)))) (tt, (tt, (tt, (tt, tt))))) $ says ! refl $
    nothing ! $ nothing ! $ fjoin ! $ nothing ! $ fjoin ! $ nothing ! $ fjoin ! $ nothing ! $ fjoin ! $ move ! (2 ∷ 0 ∷ 1 ∷ []) $ done !)))))))))))
