use Rattle.iso_acquirer.proofs.Kept.{request-of, after-traced}
use Rattle.iso_acquirer.proofs.acquirer.Acquirer.answer_slot.Goals as goal

pub bring-requires-clause-traced : goal.bring-requires-clause-traced
bring-requires-clause-traced c =
    let stage = c.in-Transaction.stage in
    rw c.stage_after.ensures (after-traced stage c.args.code (request-of c.args.slot.now stage c.requires.request c.in-Transaction.is).1)
