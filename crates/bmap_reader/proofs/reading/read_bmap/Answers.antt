use Rattle.std.proofs.Common.{Err}
use Rattle.bmap_reader.proofs.Said.{all_said, map_found, none_said, only_map}
use Rattle.bmap_reader.proofs.reading.read_bmap.Goals as goal

pub returns-in-Ok-clause-answers : goal.returns-in-Ok-clause-answers
returns-in-Ok-clause-answers c =
    all_said c.args.text.now c.in-Ok.stood c.map_of.result c.in-Ok.ensures.answers c.map_of.ensures.exact

pub returns-in-Ok-clause-map : goal.returns-in-Ok-clause-map
returns-in-Ok-clause-map c =
    map_found c.args.text.now c.in-Ok.stood c.map_of.result c.in-Ok.ensures.items c.map_of.ensures.exact

pub returns-in-Ok-clause-only : goal.returns-in-Ok-clause-only
returns-in-Ok-clause-only c =
    only_map c.args.text.now c.map_of.result
    (all_said c.args.text.now c.in-Ok.stood c.map_of.result c.in-Ok.ensures.answers c.map_of.ensures.exact)

pub returns-in-Err-clause-answers : goal.returns-in-Err-clause-answers
returns-in-Err-clause-answers c = none_said c.args.text.now c.in-Err.fault c.in-Err.ensures.answers

pub returns-in-Err-clause-only : goal.returns-in-Err-clause-only
returns-in-Err-clause-only c =
    only_map c.args.text.now (Err c.in-Err.fault) (none_said c.args.text.now c.in-Err.fault c.in-Err.ensures.answers)
