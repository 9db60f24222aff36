use Rattle.std.proofs.Common.{sym}
use Rattle.iso_json.proofs.values.value_of.Goals as goal

pub value_under-requires : goal.value_under-requires
value_under-requires c = c.row.ensures.good c.args.n c.in-Some.row.now (sym c.in-Some.ensures.row)
