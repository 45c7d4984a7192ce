use Rattle.std.proofs.Common.{◌∙◌, ap}
use Rattle.clap.specs.Matches.{found_of}
use Rattle.clap.specs.Walk.{all_of}
use Rattle.clap.proofs.WalkLemmas.{raw_values-rows}
use Rattle.job_words.proofs.given.Given.places.Goals as goal

pub returns : goal.returns
returns c =
    c.get_strs.ensures ∙ raw_values-rows (found_of c.self.inside.matches) c.args.id.now ∙ ap (all_of c.args.id.now) c.self.view_is
