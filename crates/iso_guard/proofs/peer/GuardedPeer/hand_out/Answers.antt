-- The peer gets what waits where every order is kept and the log is well.
use Rattle.std.proofs.Common.{rules}
use Rattle.iso_guard.proofs.peer.GuardedPeer.hand_out.Goals as goal

pub returns-clause-kept : goal.returns-clause-kept
returns-clause-kept c = search rules
