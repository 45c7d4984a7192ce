-- What a request builds over files that are told: its configuration's graph, or the first refusal.
use Rattle.std.specs.Prelude.{List, Result, Ok, unwrap_or}
use Rattle.base_fields.specs.Results.{◌>>=◌, refused_by}
use Rattle.base_fields.specs.declared.names.Pair.{Pair}
use Rattle.outside.specs.Files.{Tree}
use Rattle.answer_lines.specs.declared.answer.Answer.{Answer}
use Rattle.conf_keys.specs.declared.conf.Conf.{Conf}
use Rattle.conf_sections.specs.Reading.{resolved}
use Rattle.image_graph.specs.Graph.{graph_of}
use Rattle.image_graph.specs.declared.images.Graph.{Graph}
use Rattle.image_jobs.specs.Answering.{conf_answer, graph_answer}
use Rattle.image_jobs.specs.declared.request.Request.{Request}

-- a path of the words goes before that of the configuration
abbrev pub with_paths : Request → Conf → Conf
with_paths request conf = record conf { input = unwrap_or request.input conf.input; output = unwrap_or request.output conf.output }

-- what all texts say
abbrev pub conf_said : List Pair → Tree → Request → Result Conf Answer
conf_said vars file request = refused_by conf_answer (resolved vars file request.conf) >>= λ conf. Ok (with_paths request conf)

-- the images that are built, and their order
abbrev pub graph_said : List Pair → Tree → Request → Result Graph Answer
graph_said vars file request = conf_said vars file request >>= λ conf. refused_by graph_answer (graph_of conf)
