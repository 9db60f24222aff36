use Rattle.std.proofs.Common.{◌∙◌, ap, sym, take}
use Rattle.iso_log.specs.Slots.{is_whole}
use Rattle.iso_diary.proofs.Back.{order_front}
use Rattle.iso_diary.proofs.writing.put_order.Goals as goal

pub returns-clause-bytes : goal.returns-clause-bytes
returns-clause-bytes c =
    let row = c.row_bytes-row.ensures in
    c.put_order_of.ensures ∙ ap (take 99) row.bytes ∙ order_front c.args.order.now (sym (ap is_whole row.bytes) ∙ row.whole)
