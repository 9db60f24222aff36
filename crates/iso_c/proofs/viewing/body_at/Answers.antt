use Rattle.std.proofs.Common.{◌-◌, ◌≤◌, List, ℕ, Some, length, take, drop, ap, ◌∙◌, arith}
use Rattle.std.proofs.lemmas.List.{length-drop, length-take-le}
use Rattle.iso_wire.specs.Viewing.{ViewContents}
use Rattle.iso_wire.specs.Reading.{message_at}
use Rattle.iso_c.proofs.ViewingLemmas.{body_missing}
use Rattle.iso_c.proofs.viewing.body_at.Goals as goal

pub returns-in_default-clause-fault : goal.returns-in_default-clause-fault
returns-in_default-clause-fault c =
    rw c.at_element.ensures (rw c.from.ensures
    (body_missing c.args.table.now c.in_ok-viewed.viewed c.args.bytes.now c.args.n (message_at c.args.table.now c.args.bytes.now) c.in_ok-viewed.ensures.exact c.in_default.ensures))

pub returns-clause-ok : goal.returns-clause-ok
returns-clause-ok c =
    let view : ViewContents = c.in_ok-viewed.viewed in
    let b : List ℕ = c.args.bytes.now in
    let start : ℕ = c.in-Some.place.start in
    let end : ℕ = c.in-Some.place.end in
    let is = c.in_ok-viewed.ensures.found in
    let lies = c.in-Some.ensures in
    let room : end - start ≤ length (drop start b) = omega (arith, lies.0, lies.1, is.2, length-drop start b) in
    let body = lies.2 ∙ ap (λ (l : List ℕ). Some (take (end - start) (drop start l))) c.in_ok-viewed.ensures.bytes in
    (view, is, c.from-2.ensures, omega (arith, lies.0, lies.1), body, length-take-le (end - start) (drop start b) room, lies.3)
