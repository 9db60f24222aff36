use Rattle.std.proofs.Common.{Ok, subst, rules}
use Rattle.std.proofs.lemmas.List.{map-append}
use Rattle.iso_wire.specs.Framing.{AnswersFront}
use Rattle.iso_wire.specs.declared.framing.Framed.TheVariants.{Got}
use Rattle.iso_compare.proofs.Frames.{one_more}
use Rattle.iso_compare.proofs.splitting.split_frames.Goals as goal

pub loop-body-preserved : goal.loop-body-preserved
loop-body-preserved c =
    let front : AnswersFront c.args.header c.loop-body.rest.now (Ok (Got c.in-Ok-Got.body c.in-Ok-Got.used)) =
    subst (λ f. AnswersFront c.args.header c.loop-body.rest.now (Ok f)) c.in-Ok-Got.field-0-is c.in-Ok-Got.ensures.front in
    one_more c.frames.ensures _ _ _ _ _ c.in-Ok-Got.body.now _ c.in-Ok-Got.used c.loop-body.invariant front c.split_at.ensures.back (search (rules, map-append))
