-- What the walks over a block's bytes share. Assumes `Logic`.
--     none_had, mark_had, word_had, none_made, mark_made, word_made      a struct of no field, one of such a field, and one of a pointer
--     three_of      a tuple of three
--     then_runs, out_of_block      what follows a part of a body
--     run_out, run_in, run_seen      some of the bytes are taken out of the row, put back, or seen
--     byte_room, to_room      room for bytes is room for one and for the rest; the bytes are room again
use mathlib.Core.Path.{◌≡◌, refl, sym, ap, subst, ◌∙◌}
use Prim.Native.Nat.{ℕ, zero, suc, ◌+◌, ◌≤◌}
use native.Mathlib.Omega.{arith}
use mathlib.Core.List.{List, [], ◌∷◌, ◌++◌}
use lib.ListN.{length, take, drop, take-append-drop, length-take, length-drop}
use lib.Seq.{drop-drop}
use seplogic.Ra.Ura.{Ura}
use base.Fraction.{full_share}
use mir.Syntax.{w8, ty_int}
use mir.Val.{Val, vint, vstruct, vcons, vnil, of_list}
use base.Logic.{ent, sep, emp, via, snd∗, id⊢, mono_r}
use base.Fml.{Fml, Lft, ftrue, fsep, fat, froom}
use prog.Wp.{Env, Calls, Loops, Wp, after_seq, after_block}
use mir.Syntax.{Body}
use types.Logic.{Logic, sem}
use types.SemTy.{cells}
use types.Kit.{Post, any_q, post, Item, Goal, Seq, Step, step, ‵, ◌⊛◌, ◌$◌, ◌∵◌, !, qed, by, move, keep, drop as skip, use1, use2, split, fsplit, fjoin, fpick, fpack, feq_i, feq_l, rewrite, done}
use denote.Builtin.{u8}
use denote.Memory.{mem, part_at, shared_of}
use denote.Plain.{uint_out}
use denote.RattleType.{RattleType, Valss}
use denote.RawPtr.{Ptr, RawPtr, ptr_val}
use denote.Slice.{elements_shared}
use denote.Steps.{nothing}
use denote.Shadow.{makes_shadow}
use denote.Struct.Declared as Declared
use denote.Struct.Struct.{Shape, Struct, within}
use denote.Struct.Tuple.{Tuple, tuple_type}
use Rattle.region_pool.specs.Ownership.{bytes_of}

abbrev pub none : Val
none = vstruct vnil

abbrev pub word : Ptr → Val
word p = vstruct (vcons (ptr_val p) vnil)

abbrev pub three_val : Val → Val → Val → Val
three_val u v w = vstruct (vcons u (vcons v (vcons w vnil)))

-- a struct by its fields alone: what it owns does not read its name
abbrev plain_shape : List RattleType → Shape
plain_shape Rs = record { name = []; args = []; types = []; fields = Rs }

abbrev pub None : RattleType
None = Struct (plain_shape [])

abbrev pub Mark : RattleType
Mark = Struct (plain_shape (None ∷ []))

abbrev pub mark : Val
mark = vstruct (vcons none vnil)

abbrev pub Word : RattleType
Word = Struct (plain_shape (RawPtr ∷ []))

module _ {M : Type 1} {𝓤 : Ura M} {𝓛 : Logic 𝓤} {K : Type 0} {Γ : List (Item 𝓤)} {G : Goal 𝓤 𝓛.H} where
  pub none_had : K → (vs : List Val) → (vs ≡ none ∷ [] → Seq K 𝓛 Γ G) → Seq K 𝓛 (‵ (None.own_val tt vs) ∷ Γ) G
  none_had t vs k = fpick t (λ vss. fsplit t $ feq_l t (λ e. skip t $ k e))

  pub none_made : K → Step K 𝓛 (‵ (None.own_val tt (none ∷ [])) ∷ Γ) G Γ G
  none_made t = step (λ s.
      nothing t $ feq_i t (List Val) (none ∷ []) (none ∷ []) refl $ fjoin t $ fpack t (Valss []) (within (plain_shape []) tt (none ∷ [])) tt $ s)

  pub mark_had : K → (vs : List Val) → (vs ≡ mark ∷ [] → Seq K 𝓛 Γ G) → Seq K 𝓛 (‵ (Mark.own_val (tt, tt) vs) ∷ Γ) G
  mark_had t vs k = fpick t (λ vss. fsplit t $ feq_l t (λ ev. fsplit t $ fpick t (λ uss. fsplit t $ feq_l t (λ e. skip t $ skip t $
      k (subst (λ (ws : List Val). vs ≡ vstruct (of_list (ws ++ [])) ∷ []) e ev)))))

  pub word_had : K → (p : Ptr) (vs : List Val) → (vs ≡ word p ∷ [] → Seq K 𝓛 Γ G) → Seq K 𝓛 (‵ (Word.own_val (p, tt) vs) ∷ Γ) G
  word_had t p vs k = fpick t (λ vss. fsplit t $ feq_l t (λ ev. fsplit t $ feq_l t (λ e. skip t $ k (subst (λ (ws : List Val). vs ≡ vstruct (of_list (ws ++ [])) ∷ []) e ev))))

  pub word_made : K → (p : Ptr) → Step K 𝓛 (‵ (Word.own_val (p, tt) (word p ∷ [])) ∷ Γ) G Γ G
  word_made t p = step (λ s.
      nothing t $ feq_i t (List Val) (ptr_val p ∷ []) (ptr_val p ∷ []) refl $ fjoin t $ feq_i t (List Val) (word p ∷ []) (word p ∷ []) refl $ fjoin t $
      fpack t (Valss (RawPtr ∷ [])) (within (plain_shape (RawPtr ∷ [])) (p, tt) (word p ∷ [])) (ptr_val p ∷ [], tt) $ s)

module _ {M : Type 1} {𝓤 : Ura M} (𝓛 : Logic 𝓤) where
  open 𝓛 use {H}

  pub mark_made : ent 𝓤 (emp 𝓤) (sem 𝓛 (Mark.own_val (tt, tt) (mark ∷ [])))
  mark_made = makes_shadow 𝓛 (Mark.own_val (tt, tt) (mark ∷ [])) (λ _. (tt, ((λ _. (tt, tt)), tt))) ((none ∷ [], tt), (refl, ((tt, (refl, tt)), tt)))

  pub three_of : (R S T : RattleType) (x : R.Denot) (y : S.Denot) (z : T.Denot) (u v w : Val)
      → ent 𝓤 (sep 𝓤 (sem 𝓛 (R.own_val x (u ∷ []))) (sep 𝓤 (sem 𝓛 (S.own_val y (v ∷ []))) (sem 𝓛 (T.own_val z (w ∷ []))))) (sem 𝓛 ((Tuple (R ∷ S ∷ T ∷ [])).own_val (x, y, z) (three_val u v w ∷ [])))
  three_of R S T x y z u v w =
      qed 𝓛 (‵ (R.own_val x (u ∷ [])) ∷ ‵ (S.own_val y (v ∷ [])) ∷ ‵ (T.own_val z (w ∷ [])) ∷ []) ∵ nothing ! $ move ! (3 ∷ 0 ∷ []) $ fjoin ! $ move ! (2 ∷ 0 ∷ []) $ fjoin ! $ move ! (1 ∷ 0 ∷ []) $ fjoin ! $
      feq_i ! (List Val) (three_val u v w ∷ []) (three_val u v w ∷ []) refl $ fjoin ! $
      fpack ! (Valss (R ∷ S ∷ T ∷ [])) (within (Declared.shape (tuple_type (R ∷ S ∷ T ∷ []))) (x, (y, (z, tt))) (three_val u v w ∷ [])) (u ∷ [], (v ∷ [], (w ∷ [], tt))) $ done !

  abbrev pub then_runs : Calls 𝓤 H → Loops 𝓤 H → Env 𝓤 H → Body → Post 𝓤 H → Post 𝓤 H
  then_runs C Λ E b q = any_q (after_seq 𝓤 H (Wp 𝓤 H C Λ E b (post 𝓤 H q)) (post 𝓤 H q))

  abbrev pub out_of_block : Post 𝓤 H → Post 𝓤 H
  out_of_block q = any_q (after_block 𝓤 H (post 𝓤 H q))

module _ {M : Type 1} {𝓤 : Ura M} (𝓛 : Logic 𝓤) (b : ℕ) where
  open 𝓛 use {H}

  abbrev pub Row : ℕ → List ℕ → Fml
  Row o xs = cells (mem u8) xs b o

  pub cut : (xs ys : List ℕ) (o at : ℕ) → at ≡ length xs + o → ent 𝓤 (sem 𝓛 (Row o (xs ++ ys))) (sep 𝓤 (sem 𝓛 (Row o xs)) (sem 𝓛 (Row at ys)))
  cut [] ys o at e = qed 𝓛 (‵ (Row o ys) ∷ []) ∵ rewrite ! 0 (λ (k : ℕ). ‵ (Row k ys)) {x = at} (omega arith) refl $ nothing ! $ done !
  cut (x ∷ xs) ys o at e = let more : at ≡ suc (length xs) + o = e in qed 𝓛 (‵ (Row o (x ∷ xs ++ ys)) ∷ []) ∵ fsplit ! $ move ! (1 ∷ []) $
      use1 𝓛 (‵ (Row (o + 1) xs) ⊛ ‵ (Row at ys)) (cut xs ys (o + 1) at (omega arith)) $ split ! $ move ! (2 ∷ 0 ∷ []) $ fjoin ! $ done !

  pub glue : (xs ys : List ℕ) (o at : ℕ) → at ≡ length xs + o → ent 𝓤 (sep 𝓤 (sem 𝓛 (Row o xs)) (sem 𝓛 (Row at ys))) (sem 𝓛 (Row o (xs ++ ys)))
  glue [] ys o at e = qed 𝓛 (‵ ftrue ∷ ‵ (Row at ys) ∷ []) ∵ skip ! $ rewrite ! 0 (λ (k : ℕ). ‵ (Row k ys)) {x = o} (omega arith) refl $ done !
  glue (x ∷ xs) ys o at e = let more : at ≡ suc (length xs) + o = e in qed 𝓛 (‵ (Row o (x ∷ xs)) ∷ ‵ (Row at ys) ∷ []) ∵ fsplit ! $ move ! (1 ∷ 2 ∷ []) $
      use2 𝓛 (‵ (Row (o + 1) (xs ++ ys))) (glue xs ys (o + 1) at (omega arith)) $ move ! (1 ∷ 0 ∷ []) $ fjoin ! $ done !

  module _ (o : ℕ) (xs : List ℕ) (i n : ℕ) (le : i + n ≤ length xs) where
    -- the bytes but for the n from number i on
    abbrev pub Around : Fml
    Around = fsep (Row o (take i xs)) (Row (n + (i + o)) (drop (i + n) xs))

    before : i + o ≡ length (take i xs) + o
    before = omega (arith, length-take i xs)

    pub run_out : ent 𝓤 (sem 𝓛 (Row o xs)) (sep 𝓤 (sem 𝓛 (Row (i + o) (take n (drop i xs)))) (sem 𝓛 Around))
    run_out =
        let run = take n (drop i xs) in
        qed 𝓛 (‵ (Row o xs) ∷ []) ∵
        rewrite ! 0 (λ (l : List ℕ). ‵ (Row o l)) (sym (take-append-drop i xs) ∙ ap (λ l. take i xs ++ l) (sym (take-append-drop n (drop i xs)) ∙ ap (λ l. run ++ l) (drop-drop n i xs))) refl $
        use1 𝓛 (‵ (Row o (take i xs)) ⊛ ‵ (Row (i + o) (run ++ drop (i + n) xs))) (cut (take i xs) (run ++ drop (i + n) xs) o (i + o) before) $ split ! $ move ! (1 ∷ []) $
        use1 𝓛 (‵ (Row (i + o) run) ⊛ ‵ (Row (n + (i + o)) (drop (i + n) xs))) (cut run (drop (i + n) xs) (i + o) (n + (i + o)) (omega (arith, length-take n (drop i xs), length-drop i xs))) $
        split ! $ move ! (2 ∷ 1 ∷ []) $ fjoin ! $ move ! (1 ∷ []) $ done !

    pub run_in : (ws : List ℕ) → n ≡ length ws → ent 𝓤 (sep 𝓤 (sem 𝓛 (Row (i + o) ws)) (sem 𝓛 Around)) (sem 𝓛 (Row o (take i xs ++ (ws ++ drop (i + n) xs))))
    run_in ws long = qed 𝓛 (‵ (Row (i + o) ws) ∷ ‵ Around ∷ []) ∵ move ! (1 ∷ []) $ fsplit ! $ move ! (2 ∷ 1 ∷ []) $
        use2 𝓛 (‵ (Row (i + o) (ws ++ drop (i + n) xs))) (glue ws (drop (i + n) xs) (i + o) (n + (i + o)) (omega arith)) $ move ! (1 ∷ 0 ∷ []) $
        by ! (glue (take i xs) (ws ++ drop (i + n) xs) o (i + o) before)

  pub byte_room : (n o : ℕ) → ent 𝓤 (H.room (bytes_of (suc n)) b o) (sep 𝓤 (H.room (ty_int w8) b o) (H.room (bytes_of n) b (o + 1)))
  byte_room n o = 𝓛.laws.room_uncons (ty_int w8) n b o

  pub to_room : (xs : List ℕ) (o : ℕ) → ent 𝓤 (sem 𝓛 (Row o xs)) (H.room (bytes_of (length xs)) b o)
  to_room [] o = 𝓛.laws.room_nil (ty_int w8) b o
  to_room (x ∷ xs) o = qed 𝓛 (‵ (part_at u8 full_share x b o) ∷ ‵ (Row (o + 1) xs) ∷ []) ∵
      use1 𝓛 (‵ (fat full_share (ty_int w8) b o (vint w8 x))) (uint_out 𝓛 full_share w8 x b o) $ use1 𝓛 (‵ (froom (ty_int w8) b o)) (𝓛.laws.at_room (ty_int w8) b o (vint w8 x)) $ move ! (1 ∷ []) $
      use1 𝓛 (‵ (froom (bytes_of (length xs)) b (o + 1))) (to_room xs (o + 1)) $ move ! (1 ∷ []) $ by ! (𝓛.laws.room_cons (ty_int w8) (length xs) b o)

  module _ (κ : Lft) where
    abbrev Seen : ℕ → List ℕ → Fml
    Seen o xs = elements_shared u8 xs b o κ

    from_on : (xs : List ℕ) (i o at : ℕ) → at ≡ i + o → ent 𝓤 (sem 𝓛 (Seen o xs)) (sem 𝓛 (Seen at (drop i xs)))
    from_on xs zero o at e = let same : o ≡ at = omega arith in subst (λ k. ent 𝓤 (sem 𝓛 (Seen o xs)) (sem 𝓛 (Seen k xs))) same (id⊢ 𝓤 _)
    from_on [] (suc i) o at e = id⊢ 𝓤 _
    from_on (x ∷ xs) (suc i) o at e =
        via 𝓤 (sem 𝓛 (Seen (o + 1) xs)) (snd∗ 𝓤 (sem 𝓛 (shared_of u8 x b o κ)) (sem 𝓛 (Seen (o + 1) xs))) (from_on xs i (o + 1) at (omega arith))

    up_to : (xs : List ℕ) (n o : ℕ) → ent 𝓤 (sem 𝓛 (Seen o xs)) (sem 𝓛 (Seen o (take n xs)))
    up_to xs zero o = qed 𝓛 (‵ (Seen o xs) ∷ []) ∵ keep ! [] $ done !
    up_to [] (suc n) o = id⊢ 𝓤 _
    up_to (x ∷ xs) (suc n) o = mono_r 𝓤 (sem 𝓛 (shared_of u8 x b o κ)) (up_to xs n (o + 1))

    pub run_seen : (o : ℕ) (xs : List ℕ) (i n : ℕ) → ent 𝓤 (sem 𝓛 (Seen o xs)) (sem 𝓛 (Seen (i + o) (take n (drop i xs))))
    run_seen o xs i n = via 𝓤 (sem 𝓛 (Seen (i + o) (drop i xs))) (from_on xs i o (i + o) refl) (up_to (drop i xs) n (i + o))
