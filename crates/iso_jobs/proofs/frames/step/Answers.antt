use Rattle.std.proofs.Common.{Ok, subst}
use Rattle.iso_wire.specs.Framing.{AnswersFront, Begins}
use Rattle.iso_wire.specs.declared.framing.Framed.{Framed}
use Rattle.iso_jobs.proofs.Streams.{taken_of}
use Rattle.iso_jobs.proofs.frames.step.Goals as goal

pub returns : goal.returns
returns g c =
    let told = c.in_ok-take-in-Ok-Got.ensures.told in
    let body = c.in-Ok-Got.body.now in
    let Front : Framed → Type 0 = λ framed. AnswersFront c.args.header c.held.result.now (Ok framed) in
    let begins : Begins c.args.header c.held.result.now body c.in-Ok-Got.used = subst Front c.in-Ok-Got.field-0-is c.in-Ok-Got.ensures.front in
    record {
      body = body;
      good = told.0;
      text = told.1;
      fits = begins.fits;
      taken = taken_of c.args.header c.args.window.now.ahead c.drop_front.new.self.ahead c.held.result.now body c.in-Ok-Got.used
          c.held.ensures.front begins c.drop_front.ensures.ahead;
      tells = told.2;
      added = told.3;
      refused = told.4;
    }
