use Rattle.std.proofs.Common.{◌∙◌, ap, drop, subst}
use Rattle.iso_compare.specs.Fronts.{IsFront}
use Rattle.iso_replay.proofs.Hearing.{piece_counted}
use Rattle.iso_replay.proofs.heard.Heard.hear.Goals as goal

pub invariant_of-self-2 : goal.invariant_of-self-2
invariant_of-self-2 c =
    let inside = c.self.inside in
    let appended = c.in_ok-extend_from_slice.ensures.items in
    let open_part = c.split_at.ensures.back ∙ ap (drop inside.whole.size) (c.deref.ensures.value ∙ appended) in
    rw appended (piece_counted inside.header inside.bytes.items c.args.piece.now inside.whole c.count_frames-more.result
    c.splits_once.ensures.behind c.self.invariant
    (subst (λ b. IsFront inside.header b c.count_frames-more.result) open_part c.count_frames-more.ensures))
