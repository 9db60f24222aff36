use Rattle.std.proofs.lemmas.Bool.Decides.{same_from_decides}
use Rattle.iso_wire.specs.Equality.{same_contents, same_contents_decides}
use Rattle.iso_wire.proofs.message.MessagePartialEq.eq.Goals as goal

pub returns-clause-same : goal.returns-clause-same
returns-clause-same c =
    same_from_decides c.equals.result (same_contents c.args.self.now c.args.other.now) c.equals.ensures (same_contents_decides c.args.self.now c.args.other.now)
