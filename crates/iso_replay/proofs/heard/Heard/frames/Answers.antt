use Rattle.std.proofs.Common.{◌∙◌, ap, length}
use Rattle.iso_replay.proofs.heard.Heard.frames.Goals as goal

pub returns : goal.returns
returns c =
    let inside = c.self.inside in
    let counted = c.self.invariant in
    rw (← c.self.view_is) (λ bodies rest splits.
    counted.count ∙ ap length (c.splits_once.ensures.once inside.header inside.bytes.items bodies counted.bodies rest _ splits counted.splits).0)
