use Rattle.iso_compare.proofs.Pairs.{all_same, counts_of}
use Rattle.iso_compare.proofs.tally.Tally.of.Goals as goal

pub returns-clause-all_same : goal.returns-clause-all_same
returns-clause-all_same c =
    all_same _ _ _ (counts_of c.args.expected.now c.args.came.now c.min-compared.result c.count_same.result c.min-compared.ensures c.count_same.ensures)
