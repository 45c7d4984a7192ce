-- The stack of texts, and the work that is left on it.
use Rattle.std.proofs.Common.{◌≡◌, ◌+◌, ◌-◌, ◌<◌, ◌≤◌, suc, All, List, [], ◌∷◌, ◌++◌, length, ◌∙◌, ap, arith, length-append}
use Rattle.std.specs.List.{sum_by}
use Rattle.std.proofs.lemmas.List.Elements.{All-append, All-cons, All-nil}
use Rattle.std.proofs.lemmas.List.Sums.{sum_by-append}
use Rattle.conf_items.specs.Outline.{deeper_of}
use Rattle.conf_walk.specs.Stack.{IsOpen, IsStack, Spent, begun, left_of, work_left}
use Rattle.conf_texts.specs.Texts.{most_bytes, nothing_read, with_text}
use Rattle.conf_walk.specs.Walk.{nestings}
use Rattle.conf_walk.specs.declared.running.OpenText.{OpenText}
use Rattle.conf_texts.specs.declared.texts.Reading.{Reading}
use Rattle.conf_texts.specs.declared.texts.Text.{Text}

All-front : {X : Type 0} (P : X → Type 0) (xs : List X) (x : X) → All P (xs ++ x ∷ []) → All P xs
All-front P [] x all = All-nil P
All-front P (y ∷ xs) x all = All-cons P y xs (all 0 y (omega arith)) (All-front P xs x (λ k d below. all (suc k) d (omega arith)))

All-last : {X : Type 0} (P : X → Type 0) (xs : List X) (x : X) → All P (xs ++ x ∷ []) → P x
All-last P [] x all = all 0 x (omega arith)
All-last P (y ∷ xs) x all = All-last P xs x (λ k d below. all (suc k) d (omega arith))

All-one : {X : Type 0} (P : X → Type 0) (x : X) → P x → All P (x ∷ [])
All-one P x h = All-cons P x [] h (All-nil P)

sum-more : (texts : List OpenText) (text : OpenText) → sum_by left_of (texts ++ text ∷ []) ≡ sum_by left_of texts + left_of text
sum-more texts text =
    let one : sum_by left_of (text ∷ []) ≡ left_of text = omega arith in
    let both : sum_by left_of (texts ++ text ∷ []) ≡ sum_by left_of texts + sum_by left_of (text ∷ []) = sum_by-append left_of texts (text ∷ []) in
    omega arith

length-more : (texts : List OpenText) (text : OpenText) → length (texts ++ text ∷ []) ≡ length texts + 1
length-more texts text = length-append texts (text ∷ [])

pub empty-stack : IsStack [] nothing_read
empty-stack = record { each = All-nil IsOpen; few = omega arith; deeper = omega arith; total = omega arith }

-- the text on top is open, and there is room for what its tokens begin
pub top-open : (texts : List OpenText) (text : OpenText) (reading : Reading) → IsStack (texts ++ text ∷ []) reading → IsOpen text
top-open texts text reading stack = All-last IsOpen texts text stack.each

pub top-room : (texts : List OpenText) (text : OpenText) (reading : Reading) → IsStack (texts ++ text ∷ []) reading → deeper_of reading.outline + left_of text ≤ most_bytes
top-room texts text reading stack =
    let sum = sum-more texts text in
    let deeper = stack.deeper in
    let total = stack.total in
    omega arith

-- a text that has ended is no longer on the stack
pub stack-ended : (texts : List OpenText) (text : OpenText) (reading after : Reading) → IsStack (texts ++ text ∷ []) reading → Spent (left_of text) reading after → IsStack texts after
stack-ended texts text reading after stack spent =
    let sum = sum-more texts text in
    let many = length-more texts text in
    let few = stack.few in
    let deeper = stack.deeper in
    let total = stack.total in
    let deeper' = spent.deeper in
    let total' = spent.total in
    record { each = All-front IsOpen texts text stack.each; few = omega arith; deeper = omega arith; total = omega arith }

pub work-ended : (texts : List OpenText) (text : OpenText) (reading after : Reading) → Spent (left_of text) reading after → work_left texts after < work_left (texts ++ text ∷ []) reading
work-ended texts text reading after spent =
    let sum = sum-more texts text in
    let many = length-more texts text in
    let total' = spent.total in
    omega arith

-- a text that includes another goes back to the stack
pub stack-includes : (texts : List OpenText) (text next : OpenText) (reading after : Reading) → IsStack (texts ++ text ∷ []) reading → IsOpen next → left_of next < left_of text → Spent (left_of text - left_of next) reading after → IsStack (texts ++ next ∷ []) after
stack-includes texts text next reading after stack open-next less spent =
    let sum = sum-more texts text in
    let many = length-more texts text in
    let sum' = sum-more texts next in
    let many' = length-more texts next in
    let few = stack.few in
    let deeper = stack.deeper in
    let total = stack.total in
    let deeper' = spent.deeper in
    let total' = spent.total in
    record {
      each = All-append IsOpen texts (next ∷ []) (All-front IsOpen texts text stack.each) (All-one IsOpen next open-next);
      few = omega arith;
      deeper = omega arith;
      total = omega arith;
    }

pub work-includes : (texts : List OpenText) (text next : OpenText) (reading after : Reading) → left_of next < left_of text → Spent (left_of text - left_of next) reading after → work_left (texts ++ next ∷ []) after + 1 < work_left (texts ++ text ∷ []) reading
work-includes texts text next reading after less spent =
    let sum = sum-more texts text in
    let many = length-more texts text in
    let sum' = sum-more texts next in
    let many' = length-more texts next in
    let total' = spent.total in
    omega arith

-- a text that was read comes on top
pub stack-enters : (texts : List OpenText) (source : Text) (reading : Reading) → IsStack texts reading → length texts < nestings → IsOpen (begun source) → reading.total + length source.bytes ≤ most_bytes → length source.tokens ≤ length source.bytes → IsStack (texts ++ begun source ∷ []) (with_text reading source)
stack-enters texts source reading stack room open-text limit count =
    let sum = sum-more texts (begun source) in
    let many = length-more texts (begun source) in
    let deeper = stack.deeper in
    record { each = All-append IsOpen texts (begun source ∷ []) stack.each (All-one IsOpen (begun source) open-text); few = omega arith; deeper = omega arith; total = limit }

pub work-enters : (texts : List OpenText) (source : Text) (reading : Reading) → reading.total + length source.bytes ≤ most_bytes → length source.tokens ≤ length source.bytes → work_left (texts ++ begun source ∷ []) (with_text reading source) ≤ work_left texts reading + 1
work-enters texts source reading limit count =
    let sum = sum-more texts (begun source) in
    let many = length-more texts (begun source) in
    omega arith

pub pushed-on : (texts more : List OpenText) (text : OpenText) (source : Text) → more ≡ texts ++ text ∷ [] → text ≡ begun source → more ≡ texts ++ begun source ∷ []
pushed-on texts more text source pushed new = pushed ∙ ap (λ t. texts ++ t ∷ []) new
