use Rattle.std.proofs.Common.{◌≡◌, Option, length, sym, subst, rules}
use Rattle.mbr_table.specs.declared.mbr.MbrSpec.{MbrSpec}
use Rattle.image_layout.specs.Layout.{record_parts_of}
use Rattle.image_tables.specs.Tables.{PutsParts}
use Rattle.image_tables.proofs.Serving.{puts_record}
use Rattle.image_tables.proofs.putting.put_record.Goals as goal

pub returns-in_ok-put_bytes-in-Some-clause-puts : goal.returns-in_ok-put_bytes-in-Some-clause-puts
returns-in_ok-put_bytes-in-Some-clause-puts g c = λ told.
    let file = g.F.Files.file in
    let long : length c.mbr_bytes.result ≡ 72 = search rules in
    subst (λ (m : Option MbrSpec). PutsParts (record_parts_of m) c.args.name.now (file c.args.files.now) (file c.put_bytes.new.files)) (sym c.in-Some.is)
    (puts_record c.in-Some.spec c.mbr_bytes.result c.args.name.now (file c.args.files.now) (file c.put_bytes.new.files) long c.mbr_bytes.ensures (c.in_ok-put_bytes-in-Some.ensures.puts told))
