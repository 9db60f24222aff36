use Rattle.std.proofs.Common.{sym}
use Rattle.iso_exchange.proofs.Packs.{adds-counted}
use Rattle.iso_exchange.proofs.purchase.append_digits.Goals as goal

pub returns-then-is_counted : goal.returns-then-is_counted
returns-then-is_counted c =
    let row = c.in-Some.row.now in
    adds-counted c.parts.ensures c.decimals.ensures c.args.table.now.rows c.args.n c.args.digits c.args.number row c.args.out.now.items c.append_counted.new.out.items
    (c.row.ensures.good c.args.n row (sym c.in-Some.ensures.row)) c.in-Some.ensures.row (c.is_counted.ensures c.if-is_counted.true) c.requires.fits c.in_ok-append_counted.ensures
