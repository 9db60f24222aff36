use Rattle.std.proofs.Common.{ℕ, List, subst, sym}
use Rattle.std.specs.List.Sorted.{IsNonDecreasing, IsPermutation}
use Rattle.std.proofs.lemmas.Option.{IfSome_then}
use Rattle.iso_tally.specs.Percentile.{IsSummary}
use Rattle.iso_tally.proofs.Ranks.{summary-over}
use Rattle.iso_tally.proofs.latencies.Latencies.summary.Goals as goal

pub summary_of-requires : goal.summary_of-requires
summary_of-requires c = record { sorted = subst (λ (vs : List ℕ). IsNonDecreasing vs) (sym c.deref.ensures.value) c.sort.ensures.sorted }

pub returns-clause-summary : goal.returns-clause-summary
returns-clause-summary c =
    IfSome_then c.summary_of.result c.summary_of.ensures.summary
    (λ s is. summary-over c.args.self.now c.sort.new.values.items (subst (λ (vs : List ℕ). IsPermutation vs c.sort.new.values.items) c.self.view_is c.sort.ensures.same) s
    (subst (λ (vs : List ℕ). IsSummary vs s) c.deref.ensures.value is))
