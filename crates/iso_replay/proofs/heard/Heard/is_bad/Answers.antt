use Rattle.std.proofs.Common.{◌∙◌, ap, drop}
use Rattle.iso_wire.specs.Framing.{is_bad_header}
use Rattle.iso_replay.proofs.heard.Heard.is_bad.Goals as goal

pub returns : goal.returns
returns c =
    let inside = c.self.inside in
    let counted = c.self.invariant in
    rw (← c.self.view_is) (λ bodies rest splits.
    c.begins_badly.ensures ∙ ap (is_bad_header inside.header)
    (c.split_at.ensures.back ∙ ap (drop inside.whole.size) c.deref.ensures.value ∙ (c.splits_once.ensures.once inside.header inside.bytes.items bodies counted.bodies rest _ splits counted.splits).1))
