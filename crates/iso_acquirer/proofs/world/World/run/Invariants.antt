use Rattle.std.proofs.Common.{◌≤◌, take}
use Rattle.iso_acquirer.specs.World.{IsRan}
use Rattle.iso_acquirer.specs.Agreement.{StaysClosed}
use Rattle.iso_acquirer.proofs.world.World.run.Given as goal

abbrev pub invariant-loop-event : goal.invariant-loop-event
invariant-loop-event l = record {
  ran : IsRan l.fn.self (take l.event-index l.events) l.refused l.self;
  few : l.refused ≤ l.event-index;
  closed : StaysClosed l.fn.self l.self;
}
