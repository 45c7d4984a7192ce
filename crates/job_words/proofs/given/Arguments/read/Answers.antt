use Rattle.std.proofs.Common.{◌≡◌, ◌∙◌, ap, rules, sym, true, map, string_bytes}
use Rattle.clap.specs.Faults.{is_simple_and_free}
use Rattle.clap.specs.Simple.{App, app_of}
use Rattle.job_words.specs.Arguments.{simple, taken}
use Rattle.job_words.proofs.Taken.{simple_of_free, taken_err, taken_ok}
use Rattle.job_words.proofs.given.Arguments.read.Goals as goal

pub returns-in-Ok : goal.returns-in-Ok
returns-in-Ok c =
    let app = app_of c.self.inside.command in
    let words = map string_bytes c.args.words.now in
    let is : app ≡ simple c.args.self = c.self.invariant ∙ ap simple c.self.view_is in
    let free : is_simple_and_free app ≡ true = ap is_simple_and_free is ∙ c.requires in
    ap (λ (a : App). taken a words) (sym is)
    ∙ taken_ok app words _ (c.in-Ok.ensures.kinds free) (c.in-Ok.ensures.matches (simple_of_free app free)).0

pub returns : goal.returns
returns c =
    let app = app_of c.self.inside.command in
    let words = map string_bytes c.args.words.now in
    let is : app ≡ simple c.args.self = c.self.invariant ∙ ap simple c.self.view_is in
    let free : is_simple_and_free app ≡ true = ap is_simple_and_free is ∙ c.requires in
    ap (λ (a : App). taken a words) (sym is)
    ∙ taken_err app words c.in-Err.error (c.in-Err.ensures.kinds free) (λ memory. c.in_default.not-OutOfMemory (search rules))
