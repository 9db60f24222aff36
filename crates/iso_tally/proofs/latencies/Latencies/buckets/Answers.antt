use Rattle.std.proofs.Common.{ap, length, refl, ◌∙◌, ◌≡◌, List, ℕ, subst, sym}
use Rattle.std.specs.List.Sorted.{IsNonDecreasing, IsPermutation}
use Rattle.std.proofs.lemmas.Result.{IfOk-weaker}
use Rattle.iso_tally.specs.Histogram.{counted, buckets_from}
use Rattle.iso_tally.proofs.Buckets.{buckets-permutation, counts-all}
use Rattle.iso_tally.specs.declared.bucket.TheConstants.{BOUNDS}
use Rattle.iso_tally.proofs.latencies.Latencies.buckets.Goals as goal

-- the sorted values have the buckets that the values have
sorted-buckets : (c : goal.After-buckets_between) → buckets_from 0 BOUNDS c.deref.result.now ≡ buckets_from 0 BOUNDS c.args.self.now
sorted-buckets c =
    let sorted = c.sort.new.values.items in
    ap (buckets_from 0 BOUNDS) c.deref.ensures.value
    ∙ sym (buckets-permutation 0 BOUNDS c.args.self.now sorted (subst (λ (vs : List ℕ). IsPermutation vs sorted) c.self.view_is c.sort.ensures.same))

pub buckets_between-requires : goal.buckets_between-requires
buckets_between-requires c = record { sorted = subst (λ (vs : List ℕ). IsNonDecreasing vs) (sym c.deref.ensures.value) c.sort.ensures.sorted }

pub returns-clause-buckets : goal.returns-clause-buckets
returns-clause-buckets c =
    IfOk-weaker c.buckets_between.result (λ b. b.items ≡ buckets_from 0 BOUNDS c.deref.result.now) (λ b. b.items ≡ buckets_from 0 BOUNDS c.args.self.now)
    (λ b is. is ∙ sorted-buckets c) c.buckets_between.ensures

pub returns-clause-all : goal.returns-clause-all
returns-clause-all c =
    IfOk-weaker c.buckets_between.result (λ b. b.items ≡ buckets_from 0 BOUNDS c.deref.result.now) (λ b. counted b.items ≡ length c.args.self.now)
    (λ b is. ap counted (is ∙ sorted-buckets c) ∙ counts-all BOUNDS c.args.self.now refl) c.buckets_between.ensures
