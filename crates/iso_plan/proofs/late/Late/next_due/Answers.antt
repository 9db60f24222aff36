use Rattle.std.proofs.Common.{◌≡◌, ◌≤◌, ℕ, subst, List, false}
use Rattle.std.specs.Prelude.{map}
use Rattle.std.specs.List.{AllByRecursion}
use Rattle.std.specs.Ordering.{is_gt}
use Rattle.std.proofs.lemmas.List.Elements.{All-weaker, recursion_from_All}
use Rattle.iso_plan.specs.declared.late.Held.{Held}
use Rattle.iso_plan.specs.Late.{Waiting}
use Rattle.iso_plan.proofs.Putting.{by_moment, earlier-moment, all-waits}
use Rattle.iso_plan.proofs.late.Late.next_due.Goals as goal

pub returns-in-Some-clause-none_before : goal.returns-in-Some-clause-none_before
returns-in-Some-clause-none_before c =
    let key : ℕ × ℕ = c.in-Some.key.now in
    let keys : List (ℕ × ℕ) = map (λ (e : (ℕ × ℕ) × Held). e.0) c.self.inside.by_moment.entries in
    subst (λ (w : Waiting). AllByRecursion (λ v. key.0 ≤ v.0) w.waits) c.self.view_is
    (all-waits key.0 c.self.inside.by_moment.entries
    (recursion_from_All (λ (k : ℕ × ℕ). key.0 ≤ k.0) keys
    (All-weaker (λ (k : ℕ × ℕ). is_gt (by_moment key k) ≡ false) (λ k. key.0 ≤ k.0) (λ k h. earlier-moment key k h) keys
    c.in-Some.ensures.all_from)))
