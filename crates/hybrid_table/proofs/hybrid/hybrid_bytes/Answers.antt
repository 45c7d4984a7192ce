use Rattle.std.proofs.Common.{refl, ap, ◌∙◌, ◌≡◌, ◌+◌, [], ◌∷◌}
use Rattle.base_fields.specs.Fields.{byte_of}
use Rattle.mbr_table.specs.Mbr.{mbr_fields}
use Rattle.mbr_table.specs.declared.mbr.MbrSpec.{MbrSpec}
use Rattle.hybrid_table.specs.Hybrid.{hybrid_spec}
use Rattle.hybrid_table.proofs.hybrid.hybrid_bytes.Goals as goal

pub returns : goal.returns
returns c o h =
    let given : MbrSpec = record {
      signature = c.args.signature;
      entries = c.protective_entry.result ∷ c.given_entry.result ∷ c.given_entry-2.result ∷ c.given_entry-3.result ∷ [];
    } in
    let same : given ≡ hybrid_spec c.args.signature c.args.front c.args.entries.now =
    rw (c.protective_entry.ensures, c.given_entry.ensures, c.given_entry-2.ensures, c.given_entry-3.ensures) refl in
    c.mbr_bytes.ensures o h ∙ ap (λ (spec : MbrSpec). byte_of (mbr_fields spec) (440 + o)) same
