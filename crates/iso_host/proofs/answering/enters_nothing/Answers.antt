use Rattle.std.proofs.Common.{List, take, ap, ◌∙◌, append-nil}
use Rattle.iso_order.specs.Order.{Instruction}
use Rattle.iso_issuer.specs.Journal.{firsts}
use Rattle.iso_host.proofs.answering.enters_nothing.Goals as goal

pub returns : goal.returns
returns c =
    let books = c.args.issuer.now in
    ap (λ (l : List Instruction). record books { orders = l })
    (ap (λ (l : List Instruction). take books.limit (firsts l)) (append-nil books.orders)
    ∙ c.firsts_stay.ensures books.limit books.orders c.len-entries.ensures.distinct c.len-entries.ensures.few)
