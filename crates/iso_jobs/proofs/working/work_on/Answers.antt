use Rattle.iso_jobs.proofs.InputLemmas.{streamed}
use Rattle.iso_jobs.proofs.working.work_on.Goals as goal

pub returns-in-Some : goal.returns-in-Some
returns-in-Some g c =
    record {
      told = streamed (record { work = c.args.work; form = c.args.form }) c.in-Some.header (g.R.Read.remaining c.args.input)
          (record { old = g.O.Write.contents c.args.output.now; new = _ }) c.work_on_frames.result c.in-Some.is c.if-not-form.true c.work_on_frames.ensures;
    }
