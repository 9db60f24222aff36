use Rattle.iso_waits.proofs.Waits.{none-waits, times-push, times-put-off, times-without}
use Rattle.iso_waits.proofs.Waits.{in-time-later, in-time-push, in-time-put-off, in-time-without, first-before, due-first}
use Rattle.iso_waits.proofs.laws.who_waits.Goals as goal

pub returns-clause-who : goal.returns-clause-who
returns-clause-who c = record { none = none-waits; more = times-push; again = times-put-off; less = times-without }

pub returns-clause-in_time : goal.returns-clause-in_time
returns-clause-in_time c = record {
  later = in-time-later;
  more = in-time-push;
  again = in-time-put-off;
  less = in-time-without;
  first = first-before;
  due = due-first;
}
