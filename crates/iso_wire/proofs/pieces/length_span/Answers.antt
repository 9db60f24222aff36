use Rattle.std.proofs.Common.{refl, sym, ap, ◌∙◌}
use Rattle.iso_wire.specs.Stops.{count}
use Rattle.iso_wire.specs.Walking.{length_ahead, length_under}
use Rattle.iso_wire.proofs.pieces.length_span.Goals as goal

pub returns : goal.returns
returns c = (
  count c.in_ok-n.n c.in_ok-row.row.now,
  ap (length_ahead c.args.table.now.rows) c.in_ok-n.ensures ∙ ap (length_under c.in_ok-n.n) (sym c.in_ok-row.ensures.row),
  record { kind = refl; element = refl; start = refl; size = c.prefix_size.ensures.size },
)
