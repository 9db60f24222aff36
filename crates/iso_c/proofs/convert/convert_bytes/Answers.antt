-- What comes out is the message's plain spelling under the second table, or why it has none.
use Rattle.std.proofs.Common.{List, ℕ, subst, rules}
use Rattle.std.proofs.lemmas.List.{take_all}
use Rattle.iso_wire.specs.Spelling.{Spelling}
use Rattle.iso_c.proofs.convert.convert_bytes.Goals as goal

pub returns-clause-ok : goal.returns-clause-ok
returns-clause-ok c =
    let whole = take_all c.in_ok-message.used c.args.bytes.now c.if-used-bytes.false in
    (c.in_ok-message.message, subst (λ (l : List ℕ). Spelling c.args.from.now c.in_ok-message.message l) whole c.in_ok-message.ensures.found.1, c.in_ok-pack.ensures.packed)

pub returns-in_err-pack-clause-fault : goal.returns-in_err-pack-clause-fault
returns-in_err-pack-clause-fault c = search rules
