-- What is still to walk of a stack of texts, as texts are read, include others and end.
use Rattle.std.proofs.Common.{◌≡◌, ℕ, ◌+◌, ◌-◌, ◌<◌, ◌≤◌, ◌⊎◌, inl, inr, suc, List, [], ◌∷◌, ◌++◌, length, Ok, Err, ap, sym, ◌∙◌, refl, arith, length-append}
use Rattle.std.proofs.lemmas.Bool.{cases_lt}
use Rattle.base_fields.specs.declared.names.Pair.{Pair}
use Rattle.outside.specs.Files.{Tree}
use Rattle.conf_items.specs.Grammar.{start}
use Rattle.conf_texts.specs.Answers.{Refuses}
use Rattle.conf_walk.specs.Stack.{begun, rest_walked, resumed, stack_walked, then_walked}
use Rattle.base_fields.proofs.Binds.{bind-assoc, bind-ok, bind-same}
use Rattle.base_fields.specs.Results.{◌>>=◌}
use Rattle.conf_texts.specs.Texts.{nothing_read, text_read, with_text}
use Rattle.conf_walk.specs.Walk.{nestings, text_walked, texts_in, texts_of, tokens_walked}
use Rattle.conf_texts.specs.declared.fault.WalkFault.{WalkFault}
use Rattle.conf_texts.specs.declared.fault.WalkFault.TheVariants.{DeepInclude, NoMemory}
use Rattle.conf_walk.specs.declared.running.OpenText.{OpenText}
use Rattle.conf_texts.specs.declared.texts.Reading.{Reading}
use Rattle.conf_texts.specs.declared.texts.Text.{Text}
use Rattle.conf_walk.proofs.Refusals.{refuses-along, refuses-bind}

-- ---- the walk of a name

walked-deep : (vars : List Pair) (file : Tree) (left : ℕ) (name : List ℕ) (reading : Reading) → left ≡ 0 → text_walked vars file left name reading ≡ Err (DeepInclude name)
unfolding text_walked
walked-deep vars file left name reading e = rw e refl

walked-read : (vars : List Pair) (file : Tree) (more left : ℕ) (name : List ℕ) (reading : Reading) → more ≡ suc left →
    text_walked vars file more name reading ≡ (text_read file name reading >>= λ text. tokens_walked (text_walked vars file left) vars text text.tokens start (with_text reading text))
unfolding text_walked
walked-read vars file more left name reading e = rw e refl

-- ---- the stack

pub resumed-top : (vars : List Pair) (file : Tree) (left : ℕ) (texts : List OpenText) (text : OpenText) (reading : Reading) →
    resumed vars file left (texts ++ text ∷ []) reading ≡ (rest_walked (text_walked vars file (left - length texts)) vars text reading >>= resumed vars file left texts)
resumed-top vars file left [] text reading =
    let same : left - 0 ≡ left = omega arith in
    rw same (sym (bind-ok (rest_walked (text_walked vars file left) vars text reading)))
resumed-top vars file left (below ∷ texts) text reading =
    let same : left - length (below ∷ texts) ≡ left - 1 - length texts = omega arith in
    let rest = rest_walked (text_walked vars file left) vars below in
    let above = rest_walked (text_walked vars file (left - 1 - length texts)) vars text reading in
    rw same (ap (λ w. w >>= rest) (resumed-top vars file (left - 1) texts text reading) ∙ bind-assoc above (resumed vars file (left - 1) texts) rest)

-- a nesting that is too deep
pub enters-too-deep : (vars : List Pair) (file : Tree) (texts : List OpenText) (name : List ℕ) (reading : Reading) → 9 ≤ length texts →
    then_walked vars file texts name reading ≡ Err (DeepInclude name)
enters-too-deep vars file texts name reading deep =
    let none : nestings - length texts ≡ 0 = omega arith in
    ap (λ w. w >>= resumed vars file 8 texts) (walked-deep vars file (nestings - length texts) name reading none)

-- a text that isn't read
pub enter-refused : (vars : List Pair) (file : Tree) (texts : List OpenText) (name : List ℕ) (reading : Reading) (fault : WalkFault) → length texts < 9 → Refuses (text_read file name reading) fault →
    Refuses (then_walked vars file texts name reading) fault
enter-refused vars file texts name reading fault room h =
    let next : nestings - length texts ≡ suc (8 - length texts) = omega arith in
    let walked = text_walked vars file (nestings - length texts) name reading in
    refuses-bind walked (resumed vars file 8 texts) fault
    (refuses-along walked _ fault (walked-read vars file (nestings - length texts) (8 - length texts) name reading next)
    (refuses-bind (text_read file name reading) (λ text. tokens_walked (text_walked vars file (8 - length texts)) vars text text.tokens start (with_text reading text)) fault h))

-- so of a text that isn't opened, where so many are
pub opening-refused : (vars : List Pair) (file : Tree) (texts : List OpenText) (name : List ℕ) (reading : Reading) (fault : WalkFault) (depth : ℕ) → depth ≡ length texts →
    (nestings ≤ depth → (fault ≡ DeepInclude name) ⊎ (fault ≡ NoMemory)) → (depth < nestings → Refuses (text_read file name reading) fault) →
    Refuses (then_walked vars file texts name reading) fault
opening-refused vars file texts name reading fault depth same deep read =
    elim (cases_lt depth nestings) [
      | inl few ↦ enter-refused vars file texts name reading fault (omega (arith, few, same)) (read few)
      | inr many ↦ too-deep (deep many) (enters-too-deep vars file texts name reading (omega (arith, many, same)))
    ]
  where
    too-deep : (fault ≡ DeepInclude name) ⊎ (fault ≡ NoMemory) → then_walked vars file texts name reading ≡ Err (DeepInclude name) → Refuses (then_walked vars file texts name reading) fault
    too-deep why refused = elim why [ inl is ↦ rw is refused | inr is ↦ rw is tt ]

-- a text that is read
pub enters : (vars : List Pair) (file : Tree) (texts : List OpenText) (name : List ℕ) (reading : Reading) (source : Text) → length texts < 9 → text_read file name reading ≡ Ok source →
    then_walked vars file texts name reading ≡ stack_walked vars file (texts ++ begun source ∷ []) (with_text reading source)
enters vars file texts name reading source room h =
    let next : nestings - length texts ≡ suc (8 - length texts) = omega arith in
    let included = text_walked vars file (8 - length texts) in
    let walked : text_walked vars file (nestings - length texts) name reading ≡ rest_walked included vars (begun source) (with_text reading source) =
    walked-read vars file (nestings - length texts) (8 - length texts) name reading next ∙ ap (λ w. w >>= λ text. tokens_walked included vars text text.tokens start (with_text reading text)) h in
    ap (λ w. w >>= resumed vars file 8 texts) walked ∙ sym (resumed-top vars file 8 texts (begun source) (with_text reading source))

-- the text on top ends
pub top-ended : (vars : List Pair) (file : Tree) (texts : List OpenText) (text : OpenText) (reading after : Reading) →
    rest_walked (text_walked vars file (8 - length texts)) vars text reading ≡ Ok after →
    stack_walked vars file (texts ++ text ∷ []) reading ≡ stack_walked vars file texts after
top-ended vars file texts text reading after h = resumed-top vars file 8 texts text reading ∙ ap (λ w. w >>= resumed vars file 8 texts) h

-- the text on top includes another
pub top-includes : (vars : List Pair) (file : Tree) (texts : List OpenText) (text next : OpenText) (name : List ℕ) (reading after : Reading) →
    rest_walked (text_walked vars file (8 - length texts)) vars text reading ≡ (text_walked vars file (8 - length texts) name after >>= rest_walked (text_walked vars file (8 - length texts)) vars next) →
    stack_walked vars file (texts ++ text ∷ []) reading ≡ then_walked vars file (texts ++ next ∷ []) name after
top-includes vars file texts text next name reading after h =
    let many : length (texts ++ next ∷ []) ≡ length texts + 1 = length-append texts (next ∷ []) in
    let same : nestings - length (texts ++ next ∷ []) ≡ 8 - length texts = omega arith in
    let included = text_walked vars file (8 - length texts) in
    let below = resumed vars file 8 texts in
    let behind = λ (r : Reading). sym (resumed-top vars file 8 texts next r) in
    rw same (
    resumed-top vars file 8 texts text reading
    ∙ ap (λ w. w >>= below) h
    ∙ bind-assoc (included name after) (rest_walked included vars next) below
    ∙ bind-same (included name after) (λ r. rest_walked included vars next r >>= below) (resumed vars file 8 (texts ++ next ∷ [])) behind)

pub top-includes-at : (vars : List Pair) (file : Tree) (texts more : List OpenText) (text next : OpenText) (name said : List ℕ) (reading after : Reading) → more ≡ texts ++ next ∷ [] → said ≡ name →
    rest_walked (text_walked vars file (8 - length texts)) vars text reading ≡ (text_walked vars file (8 - length texts) name after >>= rest_walked (text_walked vars file (8 - length texts)) vars next) →
    stack_walked vars file (texts ++ text ∷ []) reading ≡ then_walked vars file more said after
top-includes-at vars file texts more text next name said reading after pushed same h = rw (pushed, same) (top-includes vars file texts text next name reading after h)

-- the text on top refuses
pub top-refused : (vars : List Pair) (file : Tree) (texts : List OpenText) (text : OpenText) (reading : Reading) (fault : WalkFault) →
    Refuses (rest_walked (text_walked vars file (8 - length texts)) vars text reading) fault → Refuses (stack_walked vars file (texts ++ text ∷ []) reading) fault
top-refused vars file texts text reading fault h =
    let rest = rest_walked (text_walked vars file (8 - length texts)) vars text reading in
    refuses-along (resumed vars file 8 (texts ++ text ∷ []) reading) (rest >>= resumed vars file 8 texts) fault (resumed-top vars file 8 texts text reading) (refuses-bind rest (resumed vars file 8 texts) fault h)

-- ---- the whole

-- the main text is read first
pub first-walked : (vars : List Pair) (file : Tree) (name : List ℕ) (texts : List OpenText) (reading : Reading) → texts ≡ [] → reading ≡ nothing_read →
    text_walked vars file nestings name nothing_read ≡ then_walked vars file texts name reading
first-walked vars file name texts reading empty new = rw (empty, new) (sym (bind-ok (text_walked vars file nestings name nothing_read)))

pub all-refused : (vars : List Pair) (file : Tree) (name : List ℕ) (fault : WalkFault) → Refuses (text_walked vars file nestings name nothing_read) fault → Refuses (texts_of vars file name) fault
all-refused vars file name fault h = refuses-bind (text_walked vars file nestings name nothing_read) (λ reading. Ok (texts_in reading)) fault h
