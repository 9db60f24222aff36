use Rattle.std.proofs.Common.{arith}
use Rattle.iso_json.proofs.Escapes.{escaped_hex}
use Rattle.iso_json.proofs.writing.push_text.Goals as goal

pub returns-in-B-clause-text : goal.returns-in-B-clause-text
returns-in-B-clause-text c =
    rw (c.in-B.is, escaped_hex c.args.bytes.now (λ i. omega (arith, c.type_inv.bytes i))) c.push_hex.ensures.text
