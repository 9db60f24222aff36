use Rattle.std.proofs.Common.{List, ℕ, subst}
use Rattle.std.proofs.lemmas.List.{take_all}
use Rattle.iso_wire.specs.Spelling.{Spelling}
use Rattle.iso_cli.proofs.convert.converted_bytes.Goals as goal

pub returns-clause-packed : goal.returns-clause-packed
returns-clause-packed c =
    let whole = take_all c.in_ok-message.used c.args.bytes.now c.if-used-bytes.false in
    (c.in_ok-message.message, subst (λ (l : List ℕ). Spelling c.args.from.now c.in_ok-message.message l) whole c.in_ok-message.ensures.found.1, c.in_ok-pack.ensures.packed)
