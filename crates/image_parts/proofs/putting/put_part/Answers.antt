use Rattle.std.proofs.Common.{◌≡◌, Err, rules}
use Rattle.image_parts.proofs.putting.put_part.Goals as goal

pub returns-in_err-put_pieces-in-Some-clause-needed : goal.returns-in_err-put_pieces-in-Some-clause-needed
returns-in_err-put_pieces-in-Some-clause-needed g c k at is =
    let same : c.from_residual.result ≡ Err c.in_err-put_pieces-in-Some.field-0.0 = search rules in
    c.in_err-put_pieces-in-Some.ensures.needed k at (rw same at is)
