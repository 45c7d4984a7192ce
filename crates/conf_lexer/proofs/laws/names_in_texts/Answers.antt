use Rattle.conf_lexer.proofs.Names.{plain_name, quoted_name}
use Rattle.conf_lexer.proofs.laws.names_in_texts.Goals as goal

pub returns-clause-plain : goal.returns-clause-plain
returns-clause-plain c = plain_name

pub returns-clause-quoted : goal.returns-clause-quoted
returns-clause-quoted c = quoted_name
