-- What a tree makes of an outline is what it says.
use Rattle.std.proofs.Common.{◌≡◌, ℕ, ◌+◌, ◌-◌, false, nat_eq, List, [], ◌∷◌, ◌++◌, Ok, if◌then◌else◌, arith, refl, ap, sym, ◌∙◌, append_assoc, append-nil}
use Rattle.std.proofs.lemmas.Bool.Decides.{nat_tests}
use Rattle.conf_items.specs.Outline.{closed, opened, with_inner_item, with_item, with_setting}
use Rattle.conf_items.specs.declared.items.Head.{Head}
use Rattle.conf_items.specs.declared.outline.OpenSections.TheVariants.{Nothing, Outer, Inner}
use Rattle.conf_items.specs.declared.outline.InnerItem.{InnerItem}
use Rattle.conf_items.specs.declared.outline.InnerItem.TheVariants as inside_item
use Rattle.conf_items.specs.declared.outline.Outline.{Outline}
use Rattle.conf_items.specs.declared.outline.SectionItem.{SectionItem}
use Rattle.conf_items.specs.declared.outline.SectionItem.TheVariants as section_item
use Rattle.conf_items.specs.declared.outline.Subsection.{Subsection}
use Rattle.conf_items.specs.declared.outline.TopItem.{TopItem}
use Rattle.conf_items.specs.declared.outline.TopItem.TheVariants as top
use Rattle.conf_items.specs.declared.outline.TopSection.{TopSection}
use Rattle.conf_grammar.specs.Trees.{Items, NoItem, IncludeThen, OptionThen, SectionThen}
use Rattle.base_fields.specs.Results.{◌>>=◌}
use Rattle.conf_texts.specs.declared.texts.Reading.{Reading}
use Rattle.conf_trees.specs.Said.{HasNoInclude, inner_items, items_of, section_items}
use Rattle.conf_trees.specs.Walked.{Walk, tree_walked, with_outline}
use Rattle.conf_trees.specs.Laws.{AddsItems}

-- what a tree makes of an outline, where a text in the place of an include adds nothing
abbrev pub outlined : Items → Outline → Outline
outlined NoItem outline = outline
outlined (IncludeThen name rest) outline = outlined rest outline
outlined (OptionThen setting rest) outline = outlined rest (with_setting outline setting)
outlined (SectionThen head inside rest) outline = outlined rest (closed (outlined inside (opened outline head)))

pub plain_walked : (included : Walk) (t : Items) → HasNoInclude t → (reading : Reading) → tree_walked included t reading ≡ Ok (with_outline reading (outlined t reading.outline))
plain_walked included NoItem h reading = refl
plain_walked included (IncludeThen name rest) h reading = absurd h
plain_walked included (OptionThen setting rest) h reading = plain_walked included rest h (with_outline reading (with_setting reading.outline setting))
plain_walked included (SectionThen head inside rest) h reading =
    let within : Outline = outlined inside (opened reading.outline head) in
    ap (λ w. w >>= λ r. tree_walked included rest (with_outline r (closed r.outline))) (plain_walked included inside h.0 (with_outline reading (opened reading.outline head)))
    ∙ plain_walked included rest h.1 (with_outline reading (closed within))

-- ---- past two sections

abbrev inner_at : List TopItem → TopSection → Subsection → ℕ → Outline
inner_at items outer inner deeper = record { items = items; inside = Inner outer inner deeper }

-- nothing is kept
deep : (t : Items) (items : List TopItem) (outer : TopSection) (inner : Subsection) (deeper : ℕ) → nat_eq deeper 0 ≡ false → outlined t (inner_at items outer inner deeper) ≡ inner_at items outer inner deeper
deep NoItem items outer inner deeper e = refl
deep (IncludeThen name rest) items outer inner deeper e = deep rest items outer inner deeper e
deep (OptionThen setting rest) items outer inner deeper e =
    ap (λ b. outlined rest (inner_at items outer (if b then with_inner_item inner (inside_item.Key setting) else inner) deeper)) e ∙ deep rest items outer inner deeper e
deep (SectionThen head inside rest) items outer inner deeper e =
    let more : nat_eq (deeper + 1) 0 ≡ false = grind (arith, nat_tests) in
    let back : deeper + 1 - 1 ≡ deeper = omega arith in
    let first : opened (inner_at items outer inner deeper) head ≡ inner_at items outer inner (deeper + 1) = ap (λ b. inner_at items outer (if b then with_inner_item inner (inside_item.Section head) else inner) (deeper + 1)) e in
    let ended : closed (inner_at items outer inner (deeper + 1)) ≡ inner_at items outer inner deeper =
    ap (λ b. record { items = items; inside = if b then Outer (with_item outer (section_item.Section inner)) else Inner outer inner (deeper + 1 - 1) }) more ∙ ap (inner_at items outer inner) back in
    ap (λ o. outlined rest (closed (outlined inside o))) first
    ∙ ap (λ o. outlined rest (closed o)) (deep inside items outer inner (deeper + 1) more)
    ∙ ap (outlined rest) ended
    ∙ deep rest items outer inner deeper e

-- ---- in a section in another

abbrev with_list : Subsection → List InnerItem → Subsection
with_list inner items = record inner { items = items }

in_inner : (t : Items) (items : List TopItem) (outer : TopSection) (inner : Subsection) → outlined t (inner_at items outer inner 0) ≡ inner_at items outer (with_list inner (inner.items ++ inner_items t)) 0
in_inner NoItem items outer inner = ap (λ xs. inner_at items outer (with_list inner xs) 0) (sym (append-nil inner.items))
in_inner (IncludeThen name rest) items outer inner = in_inner rest items outer inner
in_inner (OptionThen setting rest) items outer inner =
    in_inner rest items outer (with_inner_item inner (inside_item.Key setting))
    ∙ ap (λ xs. inner_at items outer (with_list inner xs) 0) (append_assoc inner.items (inside_item.Key setting ∷ []) (inner_items rest))
in_inner (SectionThen head inside rest) items outer inner =
    ap (λ o. outlined rest (closed o)) (deep inside items outer (with_inner_item inner (inside_item.Section head)) 1 refl)
    ∙ in_inner rest items outer (with_inner_item inner (inside_item.Section head))
    ∙ ap (λ xs. inner_at items outer (with_list inner xs) 0) (append_assoc inner.items (inside_item.Section head ∷ []) (inner_items rest))

-- ---- in a section at the top

abbrev outer_at : List TopItem → Head → List SectionItem → Outline
outer_at items head within = record { items = items; inside = Outer (record { head = head; items = within }) }

in_outer : (t : Items) (items : List TopItem) (head : Head) (within : List SectionItem) → outlined t (outer_at items head within) ≡ outer_at items head (within ++ section_items t)
in_outer NoItem items head within = ap (outer_at items head) (sym (append-nil within))
in_outer (IncludeThen name rest) items head within = in_outer rest items head within
in_outer (OptionThen setting rest) items head within =
    in_outer rest items head (within ++ section_item.Key setting ∷ [])
    ∙ ap (outer_at items head) (append_assoc within (section_item.Key setting ∷ []) (section_items rest))
in_outer (SectionThen other inside rest) items head within =
    let outer : TopSection = record { head = head; items = within } in
    let inner : Subsection = record { head = other; items = inner_items inside } in
    ap (λ o. outlined rest (closed o)) (in_inner inside items outer (record { head = other; items = [] }))
    ∙ in_outer rest items head (within ++ section_item.Section inner ∷ [])
    ∙ ap (outer_at items head) (append_assoc within (section_item.Section inner ∷ []) (section_items rest))

-- ---- at the top

abbrev top_at : List TopItem → Outline
top_at items = record { items = items; inside = Nothing }

pub at_top : (t : Items) (items : List TopItem) → outlined t (top_at items) ≡ top_at (items ++ items_of t)
at_top NoItem items = ap top_at (sym (append-nil items))
at_top (IncludeThen name rest) items = at_top rest items
at_top (OptionThen setting rest) items = at_top rest (items ++ top.Setting setting ∷ []) ∙ ap top_at (append_assoc items (top.Setting setting ∷ []) (items_of rest))
at_top (SectionThen head inside rest) items =
    let section : TopSection = record { head = head; items = section_items inside } in
    ap (λ o. outlined rest (closed o)) (in_outer inside items head [])
    ∙ at_top rest (items ++ top.Section section ∷ [])
    ∙ ap top_at (append_assoc items (top.Section section ∷ []) (items_of rest))

pub adds_items : AddsItems
adds_items t h included reading e =
    plain_walked included t h reading
    ∙ ap (λ inside. Ok (with_outline reading (outlined t (record { items = reading.outline.items; inside = inside })))) e
    ∙ ap (λ o. Ok (with_outline reading o)) (at_top t reading.outline.items)
