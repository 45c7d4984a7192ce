-- A token stands where its kind is allowed, whatever its value.
use Rattle.std.proofs.Common.{◌≡◌, ℕ, Bool, true, false, Option, Some, None, is_some, [], ◌∷◌, ◌++◌, refl, ap, sym, subst, ◌∙◌, append_assoc}
use Rattle.conf_lexer.specs.declared.tokens.TokenKind.{TokenKind}
use Rattle.conf_lexer.specs.declared.tokens.TokenKind.TheVariants as kind
use Rattle.conf_items.specs.Grammar.{allowed, moved, moved_from, some_word, start}
use Rattle.conf_items.specs.declared.items.Word.{Word}
use Rattle.conf_items.specs.declared.items.Place.{Place}
use Rattle.conf_items.specs.declared.grammar.Mark.TheVariants as mark
use Rattle.conf_items.specs.declared.grammar.Next.{Next}
use Rattle.conf_items.specs.declared.grammar.Next.TheVariants as next
use Rattle.conf_items.specs.declared.grammar.Lexeme.{Lexeme}
use Rattle.conf_items.specs.declared.grammar.Lexeme.TheVariants.{Bare, Quoted, OpenBrace, CloseBrace, OpenParen, CloseParen, Assign, Comma}
use Rattle.conf_items.specs.declared.grammar.Move.{Move}
use Rattle.conf_items.specs.declared.grammar.Output.{Output}
use Rattle.conf_items.specs.declared.grammar.Output.TheVariants as output
use Rattle.conf_items.specs.declared.grammar.Parser.{Parser}
use Rattle.conf_grammar.proofs.Standing.{begins_no_tree, on_some}
use Rattle.conf_grammar.proofs.TreesFound.{begins_tree}
use Rattle.conf_grammar.specs.Trees.{Spells}
use Rattle.conf_grammar.specs.Laws.{AllowedStands, Ran, RefusedCannot, behind_move, is_of, joined, kept, run}

bare_moves : (depth : ℕ) (next : Next) (word : Word) (include : Bool) → is_some (moved_from depth next (Bare word include)) ≡ is_some (moved_from depth next (Bare some_word false))
bare_moves depth next.Item word true = refl
bare_moves depth next.Item word false = refl
bare_moves depth other word include = refl

quoted_moves : (depth : ℕ) (next : Next) (word : Word) → is_some (moved_from depth next (Quoted word)) ≡ is_some (moved_from depth next (Quoted some_word))
quoted_moves depth next.Item word = refl
quoted_moves depth other word = refl

brace_moves : (depth : ℕ) (next : Next) (place : Place) → is_some (moved_from depth next (OpenBrace place)) ≡ is_some (moved_from depth next (OpenBrace some_word.place))
brace_moves depth next.Item place = refl
brace_moves depth other place = refl

never : {A : Type 0} → false ≡ true → A
never e = absurd (cc)

-- a token moves as its kind does
kind_moves : (parser : Parser) (k : TokenKind) (l : Lexeme) → is_of k l ≡ true → is_some (moved parser l) ≡ allowed parser k
kind_moves parser kind.Word (Bare word include) e = bare_moves parser.depth parser.next word include
kind_moves parser kind.Double (Quoted word) e = quoted_moves parser.depth parser.next word
kind_moves parser kind.Single (Quoted word) e = quoted_moves parser.depth parser.next word
kind_moves parser kind.OpenBrace (OpenBrace place) e = brace_moves parser.depth parser.next place
kind_moves parser kind.CloseBrace CloseBrace e = refl
kind_moves parser kind.OpenParen OpenParen e = refl
kind_moves parser kind.CloseParen CloseParen e = refl
kind_moves parser kind.Equals (Assign mark.Equals) e = refl
kind_moves parser kind.PlusEquals (Assign mark.PlusEquals) e = refl
kind_moves parser kind.Comma Comma e = refl
kind_moves parser k other e = never e

kept_some : (o : Output) (ran : Ran) → (after : Ran) × (kept o (Some ran) ≡ Some after)
kept_some output.Nothing ran = (ran, refl)
kept_some o ran = (record { outputs = o ∷ ran.outputs; parser = ran.parser }, refl)

moves : (m : Option Move) → is_some m ≡ true → (after : Ran) × (behind_move m (λ next. run next []) ≡ Some after)
moves None e = never e
moves (Some move) e = kept_some move.output (record { outputs = []; parser = move.parser })

stays : (m : Option Move) → is_some m ≡ false → behind_move m (λ next. run next []) ≡ None
stays None e = refl
stays (Some move) e = never (sym e)

pub allowed_stands : AllowedStands
allowed_stands front ran k l e of allows =
    let after = moves (moved ran.parser l) (kind_moves ran.parser k l of ∙ allows) in
    let found = begins_tree (front ++ (l ∷ [])) (record { outputs = ran.outputs ++ after.0.outputs; parser = after.0.parser }) (on_some start front (l ∷ []) ran e ∙ ap (joined ran.outputs) after.1) in
    let h : Spells found.1 ((front ++ (l ∷ [])) ++ found.0) = found.2 in
    (found.0, found.1, subst (Spells found.1) (append_assoc front (l ∷ []) found.0) h)

pub refused_cannot : RefusedCannot
refused_cannot front ran k l e of refuses t more h =
    let none : run start (front ++ (l ∷ [])) ≡ None = on_some start front (l ∷ []) ran e ∙ ap (joined ran.outputs) (stays (moved ran.parser l) (kind_moves ran.parser k l of ∙ refuses)) in
    begins_no_tree (front ++ (l ∷ [])) none t more (subst (Spells t) (sym (append_assoc front (l ∷ []) more)) h)
