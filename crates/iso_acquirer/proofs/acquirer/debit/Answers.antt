use Rattle.iso_acquirer.proofs.Made.{debit-made}
use Rattle.iso_acquirer.proofs.acquirer.debit.Goals as goal

pub unwrap-requires : goal.unwrap-requires
unwrap-requires c = debit-made c.args.key c.args.money c.requires.key c.requires.base c.requires.fair c.len.ensures.valid c.new.result c.new.ensures
