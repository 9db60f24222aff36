use Rattle.std.proofs.Common.{rules}
use Rattle.iso_table.proofs.Equality.{layout_decides}
use Rattle.iso_table.proofs.table.TablePartialEq.eq.Goals as goal

pub returns-then-eq-2-clause-same : goal.returns-then-eq-2-clause-same
returns-then-eq-2-clause-same c = search rules

pub returns-then-eq-2-clause-equal : goal.returns-then-eq-2-clause-equal
returns-then-eq-2-clause-equal c = rw (returns-then-eq-2-clause-same c) (layout_decides c.args.self.now c.args.other.now)
