use Rattle.std.proofs.Common.{◌≡◌, rules, map, string_bytes, Some, None}
use Rattle.std.specs.Prelude.{slice_get}
use Rattle.job_words.specs.Jobs.{job_by}
use Rattle.job_words.specs.Verbs.{verb_named}
use Rattle.job_words.proofs.Reading.{named, no_first, reads_at, unknown}
use Rattle.job_words.proofs.read_words.Goals as goal

pub returns-in_default : goal.returns-in_default
returns-in_default c =
    let none : slice_get c.args.words.now.items 0 ≡ None = search rules in
    no_first c.args.words.now.items none

pub returns-in_default-named : goal.returns-in_default-named
returns-in_default-named c =
    let first : slice_get c.args.words.now.items 0 ≡ Some c.in-Some.first.now = search rules in
    let none : verb_named (string_bytes c.in-Some.first.now) ≡ None = search rules in
    unknown c.args.words.now.items c.in-Some.first.now first none

pub returns : goal.returns
returns c =
    let first : slice_get c.args.words.now.items 0 ≡ Some c.in-Some.first.now = search rules in
    let verb : verb_named (string_bytes c.in-Some.first.now) ≡ Some c.in-Some-named.verb = search rules in
    reads_at _ (job_by c.in-Some-named.verb (map string_bytes c.args.words.now.items)) c.read_by.result
    (named c.args.words.now.items c.in-Some.first.now c.in-Some-named.verb first verb) (search rules)
