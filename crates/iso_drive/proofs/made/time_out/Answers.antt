use Rattle.std.proofs.Common.{List, sym, subst}
use Rattle.iso_drive.specs.declared.made.Made.{Made}
use Rattle.iso_drive.specs.Made.{IsTabled}
use Rattle.iso_drive.proofs.Tabled.{timed-out}
use Rattle.iso_drive.proofs.made.time_out.Goals as goal

pub returns : goal.returns
returns c = λ slots t.
    timed-out c.args.made.now.items c.time_out_by.new.made.items slots c.args.stan c.in-Some.of c.in-Payment.state t
    (c.in-Some.ensures slots (subst (λ (l : List Made). IsTabled l slots) (sym c.deref.ensures.value) t)) c.in-Payment.is
    (λ s stage there is of waits. c.time_out_by.ensures slots s stage t there is of waits)
