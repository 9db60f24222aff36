use Rattle.std.proofs.Common.{sym, subst}
use Rattle.iso_order.specs.declared.key.TxKey.{TxKey}
use Rattle.iso_acquirer.specs.Acquirer.{IsFair}
use Rattle.iso_restarts.proofs.Replayed.{fair-valid}
use Rattle.iso_restarts.proofs.replaying.begin_again.Goals as goal

pub begin-requires : goal.begin-requires
begin-requires c =
    let m = c.in-Debit.money in
    subst (λ (k : TxKey). IsFair m.amount m.currency k.sent) (sym c.key-sent.ensures.value) (fair-valid c.args.order m (sym c.in-Debit.ensures.value) c.act.ensures.valid)
