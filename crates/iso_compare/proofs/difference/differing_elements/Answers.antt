use Rattle.std.proofs.Common.{ℕ, Bool, arith, inl, inr}
use Rattle.std.proofs.lemmas.Bool.{cases_lt}
use Rattle.iso_parts.specs.Bitmap.{contains}
use Rattle.iso_compare.specs.Differing.{IsSameAt}
use Rattle.iso_compare.proofs.Absent.{alike, none_below, none_above}
use Rattle.iso_compare.proofs.Told.{told_added, told_left}
use Rattle.iso_compare.proofs.difference.differing_elements.Goals.{then-is_other_at, else-is_other_at}
use Rattle.iso_compare.proofs.difference.differing_elements.Goals as goal

pub loop-n-init : goal.loop-n-init
loop-n-init c = record {
  below = λ k low. (
    λ h. alike k c.args.left.now.elements c.args.right.now.elements c.well_formed-2.ensures.ascending c.well_formed-3.ensures.ascending (none_below k low),
    λ same. c.new-found.ensures k,
  );
  above = λ k high. c.new-found.ensures k;
}

pub loop-n-preserved : goal.loop-n-preserved
loop-n-preserved c =
    let same : ℕ → Type 0 = IsSameAt c.args.left.now.elements c.args.right.now.elements in
    let old : ℕ → Bool = contains c.loop-n.found in
    elim c.if-is_other_at.branch [
      | then-is_other_at w ↦
          rw w.found-is (told_added same old (contains w.set.new.self) c.loop-n.n c.loop-n.invariant c.is_other_at.result w.if-is_other_at.true
          c.is_other_at.ensures.other.1 w.set.ensures.added w.set.ensures.others)
      | else-is_other_at w ↦ rw w.found-is (told_left same old c.loop-n.n c.loop-n.invariant (c.is_other_at.ensures.other.0 w.if-is_other_at.false))
    ]

pub returns : goal.returns
returns c = λ n. elim (cases_lt n c.loop-n.n) [
  | inl lt ↦ c.loop-n.invariant.below n lt
  | inr ge ↦ (
    λ h. alike n c.args.left.now.elements c.args.right.now.elements c.well_formed-2.ensures.ascending c.well_formed-3.ensures.ascending
        (none_above n (omega (arith, c.loop-n-test.false))),
    λ same. c.loop-n.invariant.above n ge,
  )
]
