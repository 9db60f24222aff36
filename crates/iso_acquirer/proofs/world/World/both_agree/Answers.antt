use Rattle.std.proofs.Common.{subst}
use Rattle.iso_acquirer.specs.Agreement.{BothAgree}
use Rattle.iso_acquirer.proofs.Agree.{both-agree}
use Rattle.iso_acquirer.proofs.world.World.both_agree.Goals as goal

pub returns : goal.returns
returns c = subst BothAgree c.self.view_is (both-agree c.reversals_stay.ensures.none c.granted_stands.ensures.granted c.granted_stands.ensures.declined c.stands_no_more.ensures c.reversed_never_stands.ensures _ c.self.invariant)
