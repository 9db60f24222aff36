use Rattle.std.proofs.Common.{sym}
use Rattle.iso_exchange.proofs.purchase.append_part.Goals as goal

pub encode_field-requires : goal.encode_field-requires
encode_field-requires c = c.row.ensures.good c.args.n c.in-Some.row.now (sym c.in-Some.ensures.row)
