use Rattle.iso_drive.proofs.Answer.{tabled-closed}
use Rattle.iso_drive.proofs.made.close.Goals as goal

pub returns : goal.returns
returns c = λ slots key code t h.
    tabled-closed c.args.made.now c.put_state.new.made slots key code c.args.stan c.args.state h (λ s stage step there is to. c.put_state.ensures slots s stage step t there is to)
