use Rattle.std.proofs.Common.{refl, sym, ap}
use Rattle.iso_wire.specs.Stops.{body}
use Rattle.iso_wire.specs.Walking.{body_under}
use Rattle.iso_wire.proofs.pieces.body_span.Goals as goal

pub returns : goal.returns
returns c = (
  body c.args.n c.in_ok-row.row.now c.args.count,
  ap (body_under c.args.n c.args.count) (sym c.in_ok-row.ensures.row),
  record { kind = refl; element = refl; start = refl; size = c.body_size.ensures.size },
)
