use Rattle.std.proofs.Common.{rules, ap, ◌-◌}
use Rattle.std.specs.Prelude.{unwrap_or}
use Rattle.iso_issuer.proofs.Counts.{count-less}
use Rattle.iso_issuer.proofs.index.release.Goals as goal

pub returns-in-Some : goal.returns-in-Some
returns-in-Some c =
    let w = c.in-Some.count.now - 1 in
    let updates = (c.get_mut.follows.holds w).3 (search rules) in
    count-less c.args.counts.now (c.get_mut.follows.lender w) c.args.hold w updates.0 (ap (λ n. n - 1) (ap (λ o. unwrap_or o 0) c.in-Some.ensures.value))
