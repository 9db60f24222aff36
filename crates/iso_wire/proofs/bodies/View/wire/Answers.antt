use Rattle.std.proofs.Common.{◌≡◌, ℕ, ◌+◌, ◌-◌, List, Some, length, take, drop, sym, ap, ◌∙◌, arith}
use Rattle.std.proofs.lemmas.List.{length-drop, length-take-le}
use Rattle.iso_wire.proofs.bodies.View.wire.Goals as goal

pub returns-clause-in_place : goal.returns-clause-in_place
returns-clause-in_place c =
    let b : List ℕ = c.self.inside.bytes.now in
    let start : ℕ = c.in_ok-place.place.start in
    let count : ℕ = c.in_ok-place.place.end - start in
    let lies = c.in_ok-place.ensures c.self.inside.bytes in
    let size : length (take count (drop start b)) ≡ count = length-take-le count (drop start b) (omega (arith, lies.0, lies.1, c.self.invariant.0, length-drop start b)) in
    let whole : start + length (take count (drop start b)) - start ≡ count = omega (arith, size) in
    rw (← c.self.view_is) (
      start,
      (omega arith, omega (arith, size, lies.0, lies.1), lies.2 ∙ ap (λ (k : ℕ). Some (take k (drop start b))) (sym whole), lies.3),
      lies.2,
      ap (λ (k : ℕ). (c.self.inside.bytes.ref_ptr.0, k)) (omega arith),
    )
