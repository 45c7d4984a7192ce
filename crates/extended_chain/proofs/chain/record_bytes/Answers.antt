use Rattle.std.proofs.Common.{ap, refl, ◌∙◌, ◌≡◌, ◌++◌, List, ℕ, replicate, get_or}
use Rattle.base_fields.specs.Fields.{written, joined}
use Rattle.base_fields.proofs.FieldRuns.{run_passes}
use Rattle.extended_chain.specs.Chain.{record_fields}
use Rattle.extended_chain.proofs.Bytes.{tail_of_fields, zeros_then}
use Rattle.extended_chain.proofs.chain.record_bytes.Goals as goal

pub returns : goal.returns
returns c o h =
    let fields = record_fields c.args.specs.now c.args.k in
    let put : c.put_bytes.new.room ≡ written (replicate 512 0) 446 c.entries_bytes.result = c.put_bytes.ensures in
    let whole : c.put_bytes.new.room ≡ replicate 446 0 ++ joined fields =
    put ∙ ap (written (replicate 512 0) 446) c.entries_bytes.ensures ∙ zeros_then 446 66 (joined fields) refl in
    ap (λ (xs : List ℕ). get_or xs o 0) whole ∙ tail_of_fields 446 fields (run_passes fields 446 refl) o
