use Rattle.bmap_laws.proofs.TheLaw.{written_texts_are_documents, written_texts_say_their_map}
use Rattle.bmap_laws.proofs.laws.written_maps_are_read.Goals as goal

pub returns-clause-documents : goal.returns-clause-documents
returns-clause-documents c = written_texts_are_documents

pub returns-clause-said : goal.returns-clause-said
returns-clause-said c = written_texts_say_their_map
