-- `deallocate` makes the bytes room again, and gives it back with the right to free it. Assumes `Logic`.
use Rattle.std.proofs.Common.{◌≡◌, ℕ, ◌*◌, List, [], ◌∷◌, ◌++◌, length, refl, sym, ap, ◌∙◌, arith, lit<, w64}
use mir.Syntax.{Ty, Fn, Args, a_type, dcons, dnil, place}
use mir.Val.{Val, vint, vptr, vunit}
use mir.MapTy.{inst_fn}
use base.Logic.{SProp, never, id⊢}
use base.Fml.{Lft, Share, ftrue, flft, froom}
use prog.Capped.{capped_is}
use prog.Wp.{Env, WpFn}
use contract.BorrowLft.{◌⊑◌, ⊑_trans}
use contract.Monad.{fact}
use contract.Running.{tables}
use types.Kit.{‵, raw, ◌⊛◌, given, later, prop, settles, at_ret, ◌$◌, ◌∵◌, !, qed, by, move, drop, use1, use3, split, join, learn, rewrite, regoal, fsplit, fjoin, feq_i, feq_l, flt_l, await}
use types.Part.{whole, sub}
use types.Run.{stop, fld, lit, unit_lit, of_opd, no_more, and_then, first, blocks, exec, returns, enter}
use types.ByLocal.{alloc_all, pass_all, free_all, look_at, get, get_in, sets, lands_last, env}
use denote.RattleType.{RattleType, owns}
use denote.RawPtr.{Ptr, block_ptr, in_a_block}
use denote.Param.{param, bounded}
use denote.Builtin.{usize, RefOf}
use denote.Signature.{plain, types_at}
use denote.Steps.{nothing, heard}
use denote.Triple.Entry.{alive}
use denote.Triple.Call.{calls_at_last}
use denote.Triple.Table.{framed}
use denote.Triple.Walked.{Stays, stay_dropped, walk_of, Goes-dropped}
use Rattle.std.proofs.alloc.Calls.{Al, seen, Goes-blank, Gives, at_gives, Gives-goes, Gives-Gives}
use Rattle.std.proofs.alloc.Shapes.{after}
use Rattle.std.proofs.raw_atomic.Walks.{proved_at, leaves}
use Rattle.region_pool.specs.Ownership.{bytes_of, bytes_own}
use Rattle.region_pool.specs.contracts.memory.Bytes as bytes
use Rattle.region_pool.specs.contracts.memory.Start as start
use Rattle.region_pool.specs.contracts.memory.Deed as deed
use Rattle.region_pool.specs.contracts.memory.Deed.deallocate.{ended, clauses}
use Rattle.region_pool.specs.contracts.memory.Deed.deallocate.Key.{name as #self}
use Rattle.region_pool.proofs.Rows.{none, mark, word, none_had, mark_had, word_had, to_room, then_runs, out_of_block}
use Rattle.region_pool.proofs.memory.Deed.deallocate.Statement.{statement}
use Rattle.region_pool.proofs.memory.Deed.deallocate.Code as compiled

pub deallocate_spec : {M : Type 1} → statement M
deallocate_spec 𝓤 𝓛 𝓜 𝓡 wired A L g d dd met md =
    let H = 𝓛.H in
    let T = ended A g d dd in
    let c = clauses A g d dd 𝓛 𝓜.mem 𝓡.returns in
    let args : Args = bounded (a_type ∷ []) (A, tt) (dcons d (dcons dd dnil)) in
    let fn : Fn = inst_fn args compiled.function in
    let Dd : RattleType = deed.the_row (param 0 A) g in
    let stays : Stays T.signature.params T.kept = (stay_dropped (RefOf (0 ∷ []) tt (plain (λ _. param 0 A)) (λ _. tt)) T.kept.0, (stay_dropped (plain (λ _. start.the_row)) T.kept.1.0, (stay_dropped (plain (λ _. usize)) T.kept.1.1.0, (stay_dropped (plain (λ _. bytes.the_row)) T.kept.1.1.1.0, (stay_dropped (plain (λ _. Dd)) T.kept.1.1.1.1.0, tt))))) in
    let C = (tables 𝓤 H 𝓜 𝓡 𝓡.env).C in
    let Λ = (tables 𝓤 H 𝓜 𝓡 𝓡.env).Λ in
    proved_at 𝓛 T stays c 𝓜 𝓡
    (Goes-dropped 𝓛 2 (RefOf (0 ∷ []) tt (plain (λ _. param 0 A)) (λ _. tt)) T.kept.0 (λ κs x f. refl), (Goes-dropped 𝓛 2 (plain (λ _. start.the_row)) T.kept.1.0 (λ κs x f. refl), (Goes-dropped 𝓛 2 (plain (λ _. usize)) T.kept.1.1.0 (λ κs x f. refl), (Goes-blank 𝓛 2 (plain (λ _. bytes.the_row)) T.kept.1.1.1.0 (λ κs x f. tt), (Goes-blank 𝓛 2 (plain (λ _. Dd)) T.kept.1.1.1.1.0 (λ κs x f. tt), tt)))))
    (#self args) fn (compiled.unfolded 𝓤 H 𝓜 𝓡 wired (A, tt) d dd) (λ z are.
    let Post : Val → SProp 𝓤 = (walk_of 𝓛 T stays c).post z in
    let a = z.0.3 in
    let vss = z.0.4 in
    let Y : Al = record { row = A; laws = L; g = g; d = d; drops = dd } in
    let κ : Lft = z.0.0.0 in
    let q : Share = z.0.1.0 in
    let h = a.0.now in
    let lent = a.0.ref_ptr in
    let x = a.1.0 in
    let n = a.1.1.0 in
    let m = a.1.1.1.0 in
    let k = a.1.1.1.1.0 in
    let τ : Ty = bytes_of n in
    let Asked : Type 0 = (m.at ≡ x.ptr) × (length m.items ≡ n) × (m.spare ≡ 0) × (k.at ≡ x.ptr) × (k.len ≡ n) × (k.alloc ≡ h) in
    qed 𝓛 ((raw (alive 𝓛 T.signature z.0.0 z.0.1) ⊛ ‵ (owns (types_at T.signature.params z.0.0) a vss)) ∷ (raw (fact 𝓤 (z.0.0.1.0 ⊑ A.lives)) ⊛ raw (fact 𝓤 Asked)) ∷ []) ∵
    move ! (1 ∷ []) $ split ! $ heard ! (z.0.0.1.0 ⊑ A.lives) (λ le. heard ! Asked (λ asked. split ! $ move ! (1 ∷ []) $
    fsplit ! $ fsplit ! $ feq_l ! (λ is₀. use1 𝓛 (‵ (seen Y κ lent h)) (id⊢ 𝓤 _) $ move ! (1 ∷ []) $ fsplit ! $ word_had ! x.ptr vss.1.0 (λ is₁. fsplit ! $ fsplit ! $ feq_l ! (λ is₂. flt_l ! (λ fits.
    fsplit ! $ fsplit ! $ none_had ! vss.1.1.1.0 (λ is₃. in_a_block ! m.at (λ p. bytes_own p m.items m.spare) (id⊢ 𝓤 (never 𝓤)) (λ b o e. fsplit ! $ flt_l ! (λ small. fsplit ! $
    use1 𝓛 (‵ (froom (bytes_of (length m.items)) b o)) (to_room 𝓛 b m.items o) $ rewrite ! 0 (λ (j : ℕ). ‵ (froom (bytes_of j) b o)) asked.1 refl $ move ! (1 ∷ []) $ drop ! $
    -- [room for the bytes; the deed, and no more; the `&` to the handle; the tokens]
    move ! (1 ∷ []) $ fsplit ! $ fsplit ! $ mark_had ! vss.1.1.1.1.0 (λ is₄. rewrite ! 0 (λ (u : A.Denot × ℕ × Ptr). ‵ (g.dealloc_token u.0 (bytes_of u.1) u.2)) (λ i. (asked.5 i, asked.4 i, (asked.3 ∙ sym asked.0 ∙ e) i)) refl $
    move ! (1 ∷ []) $ drop ! $ move ! (3 ∷ []) $ use1 𝓛 (‵ (flft κ q) ⊛ ‵ (flft z.0.0.1.0 z.0.1.1.0) ⊛ ‵ ftrue) (id⊢ 𝓤 _) $ split ! $ move ! (4 ∷ 0 ∷ []) $ join ! $ move ! (3 ∷ 2 ∷ []) $
    let y = at_gives Y 𝓛 𝓜.mem 𝓡.returns κ q lent h b o n 1 τ in
    regoal ! (λ (us : List Val). prop (WpFn 𝓤 H C Λ fn us Post)) (λ i. is₀ i ++ ((is₁ ∙ ap (λ p. word p ∷ []) (sym asked.0 ∙ e)) i ++ (is₂ i ++ (is₃ i ++ (is₄ i ++ []))))) refl $
    enter ! C Λ fn (vptr lent.0 lent.1 ∷ word (block_ptr b o) ∷ vint w64 n ∷ none ∷ mark ∷ []) Post $
    alloc_all ! (λ l. pass_all ! refl ((tt, tt), ((tt, (tt, tt)), ((tt, record { fits = fits }), ((tt, tt), ((tt, (tt, tt)), tt))))) $ let En : Env 𝓤 𝓛.H = env fn.locals l in
    first ! $ blocks ! $
    use3 𝓛 (raw ((Gives Y 𝓛 𝓜.mem 𝓡.returns).pre y)) (Gives-goes Y 𝓛 𝓜.mem 𝓡.returns κ q lent h (⊑_trans κ z.0.0.1.0 A.lives z.0.2.0 le) b o n 1 τ (capped_is (n * 1) (omega arith) ∙ omega arith) refl fits (lit< tt)) $
    calls_at_last ! (framed 𝓤 H 𝓜 (tables 𝓤 H 𝓜 𝓡 𝓡.env)) (Gives Y 𝓛 𝓜.mem 𝓡.returns) (met.deallocate dd) y (and_then ! (get ! refl) (and_then ! (get_in ! (fld ! refl (stop !)) (sub ! 0 refl (whole !))) (and_then ! (get ! refl) (and_then ! (lit ! tt) (no_more !))))) (λ v.
    use1 𝓛 (later (given (v ≡ vunit) (‵ (flft κ q)))) (Gives-Gives Y 𝓛 𝓜.mem 𝓡.returns κ q lent h b o n 1 τ v) $ await ! tt $ learn ! (λ ended_at. join ! $ regoal ! (λ (u : Val). settles En (place 6 []) u (out_of_block 𝓛 (then_runs 𝓛 C Λ En (after 1 fn.body) (at_ret En Post)))) ended_at refl $ lands_last ! refl (tt, tt) $
    exec ! C Λ En (after 1 fn.body) (at_ret En Post) $
    sets ! (of_opd ! (unit_lit !)) refl (tt, tt) $
    returns ! (look_at ! 0 refl) $ free_all ! refl $
    feq_i ! (List Val) (vunit ∷ []) (vunit ∷ []) refl $ nothing ! $ nothing ! $ nothing ! $ fjoin ! $ nothing ! $ fjoin ! $ nothing ! $ fjoin ! $ nothing ! $ fjoin ! $ nothing ! $ fjoin ! $ move ! (3 ∷ 0 ∷ 2 ∷ 1 ∷ []) $
    by ! (leaves 𝓛 T stays c z vunit tt (tt, (tt, (tt, (tt, (tt, tt))))) (tt, (tt, (tt, (tt, (tt, tt))))))))))))))))))))
