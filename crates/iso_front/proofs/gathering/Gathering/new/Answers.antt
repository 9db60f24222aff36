use Rattle.std.proofs.Common.{◌≡◌, ◌∙◌, ◌<◌, ◌≤◌, ◌+◌, ◌⊎◌, inl, inr, ℕ, List, length, get_or, set, arith}
use Rattle.std.proofs.lemmas.List.{get_or-set_same, get_or-set_other, length-set}
use Rattle.std.proofs.lemmas.Bool.{cases_lt}
use Rattle.iso_front.specs.declared.gathering.Heard.{Heard}
use Rattle.iso_front.specs.Gathering.{at_first}
use Rattle.iso_front.proofs.gathering.Gathering.new.Goals as goal

-- one place more is as it is to be
more : (first : ℕ → Heard) (xs : List Heard) (i : ℕ) (x : Heard) → i < length xs → x ≡ first i
    → ((n : ℕ) (d : Heard) → n < i → get_or xs n d ≡ first n)
    → (n : ℕ) (d : Heard) → n < i + 1 → get_or (set xs i x) n d ≡ first n
more first xs i x inside is so_far n d below = by (cases_lt n i)
  where
    by : (n < i) ⊎ (i ≤ n) → get_or (set xs i x) n d ≡ first n
    by (inl lt) = get_or-set_other xs i n x d (λ e. omega (arith, e, lt)) ∙ so_far n d lt
    by (inr ge) = let same : n ≡ i = omega arith in rw same (get_or-set_same xs i x d inside ∙ is)

pub loop-place-preserved : goal.loop-place-preserved
loop-place-preserved c = record {
  long = length-set c.loop-place.heard c.loop-place.place c.at_first.result ∙ c.loop-place.invariant.long;
  so_far = more (at_first c.args.route.now c.args.count) c.loop-place.heard c.loop-place.place c.at_first.result
      (omega (arith, c.loop-place.invariant.long)) c.at_first.ensures c.loop-place.invariant.so_far;
}
