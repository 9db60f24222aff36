use Rattle.std.proofs.Common.{◌∙◌, ◌-◌, ℕ, ap, sym, length}
use Rattle.std.specs.Prelude.{Option, count_by, nat_lt}
use Rattle.iso_tally.specs.Histogram.{is_in}
use Rattle.iso_tally.proofs.Buckets.{in-bucket, in-last}
use Rattle.iso_tally.proofs.bucket.count_in.Goals as goal

pub returns-in_default : goal.returns-in_default
returns-in_default c =
    let vs = c.args.sorted.now in
    c.saturating_sub.ensures ∙ ap (λ (n : ℕ). length vs - n) c.count_below-before.ensures ∙ in-last c.args.from vs
    ∙ ap (λ (below : Option ℕ). count_by (is_in c.args.from below) vs) (sym c.in_default.is)

pub returns : goal.returns
returns c =
    let vs = c.args.sorted.now in
    let bound = c.in-Some.bound in
    c.saturating_sub-2.ensures ∙ ap (λ (n : ℕ). n - c.count_below-before.result) c.count_below.ensures
    ∙ ap (λ (n : ℕ). count_by (λ v. nat_lt v bound) vs - n) c.count_below-before.ensures ∙ in-bucket c.args.from bound vs
    ∙ ap (λ (below : Option ℕ). count_by (is_in c.args.from below) vs) (sym c.in-Some.is)
