use Rattle.std.proofs.Common.{◌≡◌, ◌∙◌, ap, rules, sym, subst, map, string_bytes, List, Result, Err}
use Rattle.clap.specs.Faults.{is_simple_and_free}
use Rattle.clap.specs.Walk.{Rule}
use Rattle.job_words.specs.Arguments.{simple}
use Rattle.job_words.specs.Jobs.{Reads, job_by}
use Rattle.job_words.specs.declared.jobs.Job.{Job}
use Rattle.job_words.specs.declared.jobs.WordFault.{WordFault}
use Rattle.job_words.proofs.Reading.{is_given, is_simple_command, not_given, reads_at}
use Rattle.job_words.proofs.read_by.Goals as goal

pub read-requires : goal.read-requires
read-requires c = ap (λ (arguments : List Rule). is_simple_and_free (simple arguments)) c.in_ok-arguments.ensures ∙ is_simple_command c.args.verb

pub returns-in_err-given : goal.returns-in_err-given
returns-in_err-given c =
    let words = map string_bytes c.args.words.now in
    let is : c.from_residual-in_err-given.result ≡ Err c.in_err-given.field-0.0 = search rules in
    let fault = not_given c.args.verb words c.in_ok-arguments.arguments c.in_err-given.field-0.0 c.in_ok-arguments.ensures c.in_err-given.ensures in
    subst (λ (r : Result Job WordFault). Reads (job_by c.args.verb words) r) (sym is) fault

pub returns : goal.returns
returns c =
    let words = map string_bytes c.args.words.now in
    reads_at (job_by c.args.verb words) _ c.job.result
    (is_given c.args.verb words c.in_ok-arguments.arguments c.in_ok-given.given c.in_ok-arguments.ensures c.in_ok-given.ensures) c.job.ensures
