use Rattle.std.proofs.Common.{drop}
use Rattle.std.specs.List.{AllByRecursion}
use Rattle.iso_front.specs.Prefixes.{AreApart}
use Rattle.iso_front.proofs.shards.met_in.Given as goal

-- the prefixes so far are apart from these
abbrev pub invariant-loop-one : goal.invariant-loop-one
invariant-loop-one l =
    AllByRecursion (λ g. AreApart g.prefixes l.prefixes) (drop l.one-index l.given)
    → AllByRecursion (λ g. AreApart g.prefixes l.prefixes) l.given
