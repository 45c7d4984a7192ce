-- What is read of a tree, where the items of other trees stand for what it includes.
use Rattle.std.proofs.Common.{◌≡◌, ℕ, ◌≤◌, List, Result, Ok, refl, ap, sym, ◌∙◌, arith}
use Rattle.outside.specs.Files.{Tree}
use Rattle.conf_items.specs.Outline.{closed, opened, with_setting}
use Rattle.conf_items.specs.declared.outline.Outline.{Outline}
use Rattle.conf_grammar.specs.Trees.{Items, NoItem, IncludeThen, OptionThen, SectionThen}
use Rattle.base_fields.specs.Results.{◌>>=◌}
use Rattle.conf_texts.specs.declared.fault.WalkFault.{WalkFault}
use Rattle.conf_texts.specs.declared.texts.Reading.{Reading}
use Rattle.conf_trees.specs.Said.{HasNoInclude}
use Rattle.conf_trees.specs.Spliced.{Spliced, joined, size_of}
use Rattle.conf_trees.specs.Walked.{Walk, tree_walked, with_outline}
use Rattle.conf_trees.proofs.ItemsSaid.{outlined}
use Rattle.base_fields.proofs.Binds.{bind_ok}
use Rattle.conf_trees.proofs.TreesFound.{ok_same}

outlined_joined : (t u : Items) (outline : Outline) → outlined (joined t u) outline ≡ outlined u (outlined t outline)
outlined_joined NoItem u outline = refl
outlined_joined (IncludeThen name rest) u outline = outlined_joined rest u outline
outlined_joined (OptionThen setting rest) u outline = outlined_joined rest u (with_setting outline setting)
outlined_joined (SectionThen head inside rest) u outline = outlined_joined rest u (closed (outlined inside (opened outline head)))

joined_no_include : (t u : Items) → HasNoInclude t → HasNoInclude u → HasNoInclude (joined t u)
joined_no_include NoItem u h k = k
joined_no_include (IncludeThen name rest) u h k = absurd h
joined_no_include (OptionThen setting rest) u h k = joined_no_include rest u h k
joined_no_include (SectionThen head inside rest) u h k = (h.0, joined_no_include rest u h.1 k)

-- ---- what was read is what a spliced tree says

pub spliced_read : (Stands : List ℕ → List (List ℕ) → Items → List (List ℕ) → Type 0) (included : Walk) →
    ((name : List ℕ) (reading after : Reading) → included name reading ≡ Ok after → (u : Items) × (Stands name reading.names u after.names) × (HasNoInclude u) × (after.outline ≡ outlined u reading.outline)) →
    (t : Items) (reading after : Reading) → tree_walked included t reading ≡ Ok after → (u : Items) × (Spliced Stands t reading.names u after.names) × (HasNoInclude u) × (after.outline ≡ outlined u reading.outline)
spliced_read Stands included stands NoItem reading after e =
    let same : after ≡ reading = sym (ok_same reading after e) in
    (NoItem, (refl, ap (λ r. r.names) same), tt, ap (λ r. r.outline) same)
spliced_read Stands included stands (IncludeThen name rest) reading after e =
    let both = bind_ok (included name.text reading) (tree_walked included rest) after e in
    let text = stands name.text reading both.0 both.1 in
    let more = spliced_read Stands included stands rest both.0 after both.2 in (
      joined text.0 more.0,
      (text.0, more.0, both.0.names, text.1, more.1, refl),
      joined_no_include text.0 more.0 text.2 more.2,
      more.3 ∙ ap (outlined more.0) text.3 ∙ sym (outlined_joined text.0 more.0 reading.outline),
    )
spliced_read Stands included stands (OptionThen setting rest) reading after e =
    let more = spliced_read Stands included stands rest (with_outline reading (with_setting reading.outline setting)) after e in
    (OptionThen setting more.0, (more.0, more.1, refl), more.2, more.3)
spliced_read Stands included stands (SectionThen head inside rest) reading after e =
    let opening : Reading = with_outline reading (opened reading.outline head) in
    let both = bind_ok (tree_walked included inside opening) (λ r. tree_walked included rest (with_outline r (closed r.outline))) after e in
    let within = spliced_read Stands included stands inside opening both.0 both.1 in
    let more = spliced_read Stands included stands rest (with_outline both.0 (closed both.0.outline)) after both.2 in (
      SectionThen head within.0 more.0,
      (within.0, more.0, both.0.names, within.1, more.1, refl),
      (within.2, more.2),
      more.3 ∙ ap (λ o. outlined more.0 (closed o)) within.3,
    )

-- ---- what a spliced tree says is read

-- the size of the texts up to here is the count of their bytes
abbrev pub read_of : Tree → List (List ℕ) → Outline → Reading
read_of file names outline = record { outline = outline; total = size_of file names; names = names }

pub spliced_grows : (Stands : List ℕ → List (List ℕ) → Items → List (List ℕ) → Type 0) (file : Tree) →
    ((name : List ℕ) (before after : List (List ℕ)) (u : Items) → Stands name before u after → size_of file before ≤ size_of file after) →
    (t : Items) (before after : List (List ℕ)) (u : Items) → Spliced Stands t before u after → size_of file before ≤ size_of file after
spliced_grows Stands file grows NoItem before after u h =
    let same : size_of file after ≡ size_of file before = ap (size_of file) h.1 in omega arith
spliced_grows Stands file grows (IncludeThen name rest) before after u h =
    let first : size_of file before ≤ size_of file h.2 = grows name.text before h.2 h.0 h.3 in
    let second : size_of file h.2 ≤ size_of file after = spliced_grows Stands file grows rest h.2 after h.1 h.4 in
    omega arith
spliced_grows Stands file grows (OptionThen setting rest) before after u h = spliced_grows Stands file grows rest before after h.0 h.1
spliced_grows Stands file grows (SectionThen head inside rest) before after u h =
    let first : size_of file before ≤ size_of file h.2 = spliced_grows Stands file grows inside before h.2 h.0 h.3 in
    let second : size_of file h.2 ≤ size_of file after = spliced_grows Stands file grows rest h.2 after h.1 h.4 in
    omega arith

pub spliced_said : (Stands : List ℕ → List (List ℕ) → Items → List (List ℕ) → Type 0) (file : Tree) (most : ℕ) (included : Walk) →
    ((name : List ℕ) (before after : List (List ℕ)) (u : Items) → Stands name before u after → size_of file before ≤ size_of file after) →
    ((name : List ℕ) (before after : List (List ℕ)) (u : Items) → Stands name before u after → size_of file after ≤ most → (outline : Outline) → included name (read_of file before outline) ≡ Ok (read_of file after (outlined u outline))) →
    (t : Items) (before after : List (List ℕ)) (u : Items) → Spliced Stands t before u after → size_of file after ≤ most → (outline : Outline) → tree_walked included t (read_of file before outline) ≡ Ok (read_of file after (outlined u outline))
spliced_said Stands file most included grows stands NoItem before after u h low outline =
    ap (λ names. Ok (read_of file names outline)) (sym h.1) ∙ ap (λ v. Ok (read_of file after (outlined v outline))) (sym h.0)
spliced_said Stands file most included grows stands (IncludeThen name rest) before after u h low outline =
    let rises : size_of file h.2 ≤ size_of file after = spliced_grows Stands file grows rest h.2 after h.1 h.4 in
    ap (λ w. w >>= tree_walked included rest) (stands name.text before h.2 h.0 h.3 (omega arith) outline)
    ∙ spliced_said Stands file most included grows stands rest h.2 after h.1 h.4 low (outlined h.0 outline)
    ∙ ap (λ o. Ok (read_of file after o)) (sym (outlined_joined h.0 h.1 outline))
    ∙ ap (λ v. Ok (read_of file after (outlined v outline))) (sym h.5)
spliced_said Stands file most included grows stands (OptionThen setting rest) before after u h low outline =
    spliced_said Stands file most included grows stands rest before after h.0 h.1 low (with_setting outline setting)
    ∙ ap (λ v. Ok (read_of file after (outlined v outline))) (sym h.2)
spliced_said Stands file most included grows stands (SectionThen head inside rest) before after u h low outline =
    let rises : size_of file h.2 ≤ size_of file after = spliced_grows Stands file grows rest h.2 after h.1 h.4 in
    let behind : Reading → Result Reading WalkFault = λ r. tree_walked included rest (with_outline r (closed r.outline)) in
    let within : Outline = outlined h.0 (opened outline head) in
    ap (λ w. w >>= behind) (spliced_said Stands file most included grows stands inside before h.2 h.0 h.3 (omega arith) (opened outline head))
    ∙ spliced_said Stands file most included grows stands rest h.2 after h.1 h.4 low (closed within)
    ∙ ap (λ v. Ok (read_of file after (outlined v outline))) (sym h.5)
