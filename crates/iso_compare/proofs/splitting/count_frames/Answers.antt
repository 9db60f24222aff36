use Rattle.std.proofs.Common.{Ok, subst}
use Rattle.iso_wire.specs.Framing.{AnswersFront}
use Rattle.iso_wire.specs.declared.framing.Framed.TheVariants.{Got}
use Rattle.iso_compare.proofs.Frames.{one_counted}
use Rattle.iso_compare.proofs.splitting.count_frames.Goals as goal

pub loop-used-preserved : goal.loop-used-preserved
loop-used-preserved c =
    let front : AnswersFront c.args.header c.loop-used.rest.now (Ok (Got c.in-Ok-Got.field-0-0 c.in-Ok-Got.used)) =
    subst (λ f. AnswersFront c.args.header c.loop-used.rest.now (Ok f)) c.in-Ok-Got.field-0-is c.in-Ok-Got.ensures.front in
    one_counted c.frames.ensures _ _ _ c.in-Ok-Got.field-0-0.now _ c.in-Ok-Got.used _ c.loop-used.invariant front c.split_at.ensures.back
