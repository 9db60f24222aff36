use Rattle.std.proofs.Common.{◌≡◌, Some, rules}
use Rattle.iso_table.specs.Layout.{row_at}
use Rattle.iso_explain.proofs.page.Page.read_value.Goals as goal

pub decode_value-requires : goal.decode_value-requires
decode_value-requires c =
    let row : row_at c.args.self.now.table.now.rows c.args.place.n ≡ Some c.in-Some.row.now = search rules in
    c.in-Some.ensures.good c.args.place.n c.in-Some.row.now row
