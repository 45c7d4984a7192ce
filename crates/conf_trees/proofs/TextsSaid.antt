-- What the texts of a configuration say is what one tree says.
use Rattle.std.proofs.Common.{◌≡◌, ℕ, zero, suc, ◌+◌, ◌≤◌, nat_le, true, Option, Some, List, [], ◌∷◌, ◌++◌, length, unwrap_or, Result, Ok, refl, ap, sym, subst, ◌∙◌, arith}
use Rattle.std.proofs.lemmas.Bool.Decides.{nat_tests}
use Rattle.std.proofs.lemmas.List.Sums.{sum_by_push}
use Rattle.base_fields.specs.declared.names.Pair.{Pair}
use Rattle.outside.specs.Files.{Tree, bytes_of}
use Rattle.conf_lexer.specs.Text.{tokens_of}
use Rattle.conf_lexer.specs.declared.tokens.Token.{Token}
use Rattle.conf_items.specs.Grammar.{start}
use Rattle.conf_items.specs.Outline.{closed, opened, with_setting}
use Rattle.conf_items.specs.declared.outline.OpenSections.TheVariants.{Nothing}
use Rattle.conf_items.specs.declared.outline.Outline.{Outline}
use Rattle.conf_grammar.specs.Trees.{Items, NoItem, IncludeThen, OptionThen, SectionThen}
use Rattle.base_fields.specs.Results.{◌>>=◌, or_else, refused_by}
use Rattle.conf_texts.specs.Texts.{in_limit, most_bytes, nothing_read, text_read, with_text}
use Rattle.conf_walk.specs.Walk.{nestings, text_walked, texts_in, tokens_walked}
use Rattle.conf_texts.specs.declared.fault.WalkFault.{WalkFault}
use Rattle.conf_texts.specs.declared.fault.WalkFault.TheVariants.{BadText, Missing}
use Rattle.conf_texts.specs.declared.texts.Reading.{Reading}
use Rattle.conf_texts.specs.declared.texts.Text.{Text}
use Rattle.conf_trees.specs.Laws.{SaidTexts, TextStands, TextsSay, TreeStands}
use Rattle.conf_trees.specs.Said.{HasNoInclude}
use Rattle.conf_trees.specs.Spliced.{IsTextOf, Outlines, Says, Spliced, size_of}
use Rattle.conf_trees.specs.Walked.{Walk, tree_walked, with_outline}
use Rattle.conf_trees.proofs.ItemsSaid.{at_top, outlined, plain_walked}
use Rattle.conf_trees.proofs.Splicing.{read_of, spliced_grows, spliced_read, spliced_said}
use Rattle.base_fields.proofs.Binds.{bind_ok, or_else_ok, refused_ok, when_ok}
use Rattle.conf_trees.proofs.TreesFound.{has_tree, ok_same}
use Rattle.conf_trees.proofs.TreesWalked.{walks_tree}

-- ---- what was read is said

text_found : (file : Tree) (name : List ℕ) (reading : Reading) (text : Text) → text_read file name reading ≡ Ok text → (IsTextOf file name (length reading.names) text) × (reading.total + length text.bytes ≤ most_bytes)
text_found file name reading text e =
    let whole : List ℕ → List Token → Text = λ bytes tokens. record { name = name; number = length reading.names; bytes = bytes; tokens = tokens } in
    let limit : List ℕ → Result ℕ WalkFault = λ bytes. in_limit (reading.total + length bytes) in
    let lexed : List ℕ → Result (List Token) WalkFault = λ bytes. refused_by (BadText name) (tokens_of bytes) in
    let made : List ℕ → List Token → Result Text WalkFault = λ bytes tokens. Ok (whole bytes tokens) in
    let first = bind_ok (or_else (file name) (Missing name)) (λ bytes. limit bytes >>= λ total. lexed bytes >>= made bytes) text e in
    let second = bind_ok (limit first.0) (λ total. lexed first.0 >>= made first.0) text first.2 in
    let third = bind_ok (lexed first.0) (made first.0) text second.2 in
    let same : whole first.0 third.0 ≡ text = ok_same (whole first.0 third.0) text third.2 in
    let test : nat_le (reading.total + length first.0) most_bytes ≡ true = (when_ok _ (reading.total + length first.0) second.0 _ second.1).0 in
    let count : length first.0 ≡ length text.bytes = ap (λ t. length t.bytes) same in
    let low : reading.total + length first.0 ≤ most_bytes = grind (arith, nat_tests) in (
      (
        or_else_ok (file name) first.0 (Missing name) first.1 ∙ ap (λ t. Some t.bytes) same,
        ap (λ t. tokens_of t.bytes) (sym same) ∙ refused_ok (BadText name) (tokens_of first.0) third.0 third.1 ∙ ap (λ t. Ok t.tokens) same,
        ap (λ t. t.name) (sym same),
        ap (λ t. t.number) (sym same),
      ),
      omega arith,
    )

text_says : (vars : List Pair) (file : Tree) (left : ℕ) (name : List ℕ) (reading after : Reading) → text_walked vars file left name reading ≡ Ok after →
    (u : Items) × (Says vars file left name reading.names u after.names) × (HasNoInclude u) × (after.outline ≡ outlined u reading.outline)
unfolding text_walked Says
text_says vars file zero name reading after e = absurd (cc)
text_says vars file (suc left) name reading after e =
    let included : Walk = text_walked vars file left in
    let both = bind_ok (text_read file name reading) (λ text. tokens_walked included vars text text.tokens start (with_text reading text)) after e in
    let text : Text = both.0 in
    let is = (text_found file name reading text both.1).0 in
    let found = has_tree vars text text.tokens included (with_text reading text) after both.2 in
    let walked : tree_walked included found.1 (with_text reading text) ≡ Ok after = sym (walks_tree vars text text.tokens found.0 found.1 found.2 found.3 included (with_text reading text)) ∙ both.2 in
    let tree = spliced_read (Says vars file left) included (λ n r a h. text_says vars file left n r a h) found.1 (with_text reading text) after walked in
    let names : Spliced (Says vars file left) found.1 (reading.names ++ name ∷ []) tree.0 after.names = subst (λ n. Spliced (Says vars file left) found.1 (reading.names ++ n ∷ []) tree.0 after.names) is.2 tree.1 in
    (tree.0, (text, found.1, is, (found.0, found.2, found.3), names), tree.2, tree.3)

outlines : (u : Items) (reading after : Reading) → HasNoInclude u → after.outline ≡ outlined u reading.outline → Outlines u reading after
outlines u reading after h e = (h, λ included. plain_walked included u h reading ∙ ap (λ o. Ok (with_outline reading o)) (sym e))

pub text_stands : TextStands
text_stands vars file left name reading after e =
    let said = text_says vars file left name reading after e in
    (said.0, said.1, outlines said.0 reading after said.2 said.3)

pub tree_stands : TreeStands
tree_stands vars file left t reading after e =
    let said = spliced_read (Says vars file left) (text_walked vars file left) (text_says vars file left) t reading after e in
    (said.0, said.1, outlines said.0 reading after said.2 said.3)

-- ---- the count of the bytes

record Counted (file : Tree) (reading : Reading) : Type 0 where
  total : reading.total ≡ size_of file reading.names
  low : reading.total ≤ most_bytes

tree_counted : (file : Tree) (included : Walk) → ((name : List ℕ) (reading after : Reading) → included name reading ≡ Ok after → Counted file reading → Counted file after) →
    (t : Items) (reading after : Reading) → tree_walked included t reading ≡ Ok after → Counted file reading → Counted file after
tree_counted file included counts NoItem reading after e h = subst (Counted file) (ok_same reading after e) h
tree_counted file included counts (IncludeThen name rest) reading after e h =
    let both = bind_ok (included name.text reading) (tree_walked included rest) after e in
    tree_counted file included counts rest both.0 after both.2 (counts name.text reading both.0 both.1 h)
tree_counted file included counts (OptionThen setting rest) reading after e h =
    tree_counted file included counts rest (with_outline reading (with_setting reading.outline setting)) after e (record { total = h.total; low = h.low })
tree_counted file included counts (SectionThen head inside rest) reading after e h =
    let opening : Reading = with_outline reading (opened reading.outline head) in
    let both = bind_ok (tree_walked included inside opening) (λ r. tree_walked included rest (with_outline r (closed r.outline))) after e in
    let within : Counted file both.0 = tree_counted file included counts inside opening both.0 both.1 (record { total = h.total; low = h.low }) in
    tree_counted file included counts rest (with_outline both.0 (closed both.0.outline)) after both.2 (record { total = within.total; low = within.low })

-- one more text
size_more : (file : Tree) (name : List ℕ) (before : List (List ℕ)) (text : Text) → file name ≡ Some text.bytes → size_of file (before ++ name ∷ []) ≡ size_of file before + length text.bytes
size_more file name before text e =
    let there : length (bytes_of file name) ≡ length text.bytes = ap (λ b. length (unwrap_or b [])) e in
    sum_by_push (λ n. length (bytes_of file n)) before name ∙ ap (λ n. size_of file before + n) there

text_counted : (vars : List Pair) (file : Tree) (left : ℕ) (name : List ℕ) (reading after : Reading) → text_walked vars file left name reading ≡ Ok after → reading.total ≡ size_of file reading.names → Counted file after
unfolding text_walked
text_counted vars file zero name reading after e h = absurd (cc)
text_counted vars file (suc left) name reading after e h =
    let included : Walk = text_walked vars file left in
    let both = bind_ok (text_read file name reading) (λ text. tokens_walked included vars text text.tokens start (with_text reading text)) after e in
    let text : Text = both.0 in
    let is = text_found file name reading text both.1 in
    let found = has_tree vars text text.tokens included (with_text reading text) after both.2 in
    let walked : tree_walked included found.1 (with_text reading text) ≡ Ok after = sym (walks_tree vars text text.tokens found.0 found.1 found.2 found.3 included (with_text reading text)) ∙ both.2 in
    let count : reading.total + length text.bytes ≡ size_of file (reading.names ++ text.name ∷ []) =
    ap (λ n. n + length text.bytes) h ∙ sym (size_more file name reading.names text is.0.0) ∙ ap (λ n. size_of file (reading.names ++ n ∷ [])) (sym is.0.2) in
    tree_counted file included (λ n r a w c. text_counted vars file left n r a w c.total) found.1 (with_text reading text) after walked (record { total = count; low = is.1 })

pub texts_say : TextsSay
texts_say vars file name texts e =
    let both = bind_ok (text_walked vars file nestings name nothing_read) (λ reading. Ok (texts_in reading)) texts e in
    let same : texts_in both.0 ≡ texts = ok_same (texts_in both.0) texts both.2 in
    let said = text_says vars file nestings name nothing_read both.0 both.1 in
    let counted : Counted file both.0 = text_counted vars file nestings name nothing_read both.0 both.1 refl in
    let count : both.0.total ≡ size_of file texts.names = counted.total ∙ ap (λ t. size_of file t.names) same in
    let low : both.0.total ≤ most_bytes = counted.low in (
      said.0,
      subst (λ t. Says vars file nestings name [] said.0 t.names) same said.1,
      said.2,
      ap (λ t. t.items) (sym same) ∙ ap (λ o. o.items) (said.3 ∙ at_top said.0 []),
      omega arith,
    )

-- ---- what is said is read

text_passed : (found : Option (List ℕ)) (missing : WalkFault) (limit : List ℕ → Result ℕ WalkFault) (lexed : List ℕ → Result (List Token) WalkFault) (whole : List ℕ → List Token → Text) (bytes : List ℕ) (total : ℕ) (tokens : List Token) →
    found ≡ Some bytes → limit bytes ≡ Ok total → lexed bytes ≡ Ok tokens → (or_else found missing >>= λ b. limit b >>= λ _. lexed b >>= λ ts. Ok (whole b ts)) ≡ Ok (whole bytes tokens)
text_passed found missing limit lexed whole bytes total tokens e f g = rw (e, f, g) refl

text_there : (file : Tree) (name : List ℕ) (before : List (List ℕ)) (outline : Outline) (text : Text) → IsTextOf file name (length before) text → size_of file (before ++ name ∷ []) ≤ most_bytes → text_read file name (read_of file before outline) ≡ Ok text
text_there file name before outline text h low =
    let whole : List ℕ → List Token → Text = λ bytes tokens. record { name = name; number = length before; bytes = bytes; tokens = tokens } in
    let count : size_of file (before ++ name ∷ []) ≡ size_of file before + length text.bytes = size_more file name before text h.0 in
    let total : ℕ = size_of file before + length text.bytes in
    let test : nat_le total most_bytes ≡ true = grind (arith, nat_tests) in
    let limit : in_limit total ≡ Ok total = rw test refl in
    let lexed : refused_by (BadText name) (tokens_of text.bytes) ≡ Ok text.tokens = ap (refused_by (BadText name)) h.1 in
    text_passed (file name) (Missing name) (λ bytes. in_limit (size_of file before + length bytes)) (λ bytes. refused_by (BadText name) (tokens_of bytes)) whole text.bytes total text.tokens h.0 limit lexed
    ∙ ap (λ n. Ok (record { name = n; number = length before; bytes = text.bytes; tokens = text.tokens })) (sym h.2)
    ∙ ap (λ n. Ok (record { name = text.name; number = n; bytes = text.bytes; tokens = text.tokens })) (sym h.3)

text_added : (file : Tree) (name : List ℕ) (before : List (List ℕ)) (outline : Outline) (text : Text) → IsTextOf file name (length before) text → with_text (read_of file before outline) text ≡ read_of file (before ++ name ∷ []) outline
text_added file name before outline text h =
    ap (λ n. record { outline = outline; total = n; names = before ++ text.name ∷ [] }) (sym (size_more file name before text h.0))
    ∙ ap (λ n. record { outline = outline; total = size_of file (before ++ name ∷ []); names = before ++ n ∷ [] }) h.2

says_grows : (vars : List Pair) (file : Tree) (left : ℕ) (name : List ℕ) (before after : List (List ℕ)) (u : Items) → Says vars file left name before u after → size_of file before ≤ size_of file after
unfolding Says
says_grows vars file zero name before after u h = absurd h
says_grows vars file (suc left) name before after u h =
    let count : size_of file (before ++ name ∷ []) ≡ size_of file before + length h.0.bytes = size_more file name before h.0 h.2.0 in
    let rest : size_of file (before ++ name ∷ []) ≤ size_of file after = spliced_grows (Says vars file left) file (λ n b a v s. says_grows vars file left n b a v s) h.1 (before ++ name ∷ []) after u h.4 in
    omega arith

text_said : (vars : List Pair) (file : Tree) (left : ℕ) (name : List ℕ) (before after : List (List ℕ)) (u : Items) → Says vars file left name before u after → size_of file after ≤ most_bytes →
    (outline : Outline) → text_walked vars file left name (read_of file before outline) ≡ Ok (read_of file after (outlined u outline))
unfolding text_walked Says
text_said vars file zero name before after u h low outline = absurd h
text_said vars file (suc left) name before after u h low outline =
    let included : Walk = text_walked vars file left in
    let grows : (n : List ℕ) (b a : List (List ℕ)) (v : Items) → Says vars file left n b v a → size_of file b ≤ size_of file a = λ n b a v s. says_grows vars file left n b a v s in
    let rises : size_of file (before ++ name ∷ []) ≤ size_of file after = spliced_grows (Says vars file left) file grows h.1 (before ++ name ∷ []) after u h.4 in
    let there : text_read file name (read_of file before outline) ≡ Ok h.0 = text_there file name before outline h.0 h.2 (omega arith) in
    ap (λ w. w >>= λ text. tokens_walked included vars text text.tokens start (with_text (read_of file before outline) text)) there
    ∙ ap (tokens_walked included vars h.0 h.0.tokens start) (text_added file name before outline h.0 h.2)
    ∙ walks_tree vars h.0 h.0.tokens h.3.0 h.1 h.3.1 h.3.2 included (read_of file (before ++ name ∷ []) outline)
    ∙ spliced_said (Says vars file left) file most_bytes included grows (λ n b a v s l o. text_said vars file left n b a v s l o) h.1 (before ++ name ∷ []) after u h.4 low outline

pub said_texts : SaidTexts
said_texts vars file name u names h low =
    ap (λ w. w >>= λ reading. Ok (texts_in reading)) (text_said vars file nestings name [] names u h low (record { items = []; inside = Nothing }))
    ∙ ap (λ o. Ok (record { items = o.items; names = names })) (at_top u [])
