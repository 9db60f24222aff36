use Rattle.std.proofs.Common.{sym, ◌∙◌}
use Rattle.iso_exchange.proofs.viewing.told_of.Goals as goal

pub returns : goal.returns
returns c = record {
  told = λ m size read type.
      c.told_by.ensures m (type ∙ sym c.mti.ensures) (c.in_ok-sent.ensures m size read) (c.in_ok-stan.ensures m size read)
      (c.in_ok-acquirer.ensures.number m size read) (c.in_ok-code.ensures.number m size read);
}
