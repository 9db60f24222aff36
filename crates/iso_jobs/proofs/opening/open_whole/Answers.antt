use Rattle.std.proofs.Common.{List, ℕ, subst}
use Rattle.std.specs.Prelude.{IfOk}
use Rattle.iso_jobs.specs.Inputs.{IsDecoded}
use Rattle.iso_jobs.proofs.InputLemmas.{decoded_input}
use Rattle.iso_jobs.proofs.opening.open_whole.Goals as goal

pub returns-then-form : goal.returns-then-form
returns-then-form g c =
    let decoded = subst (λ (t : List ℕ). IfOk c.decoded.result (IsDecoded t)) c.deref.ensures.value c.decoded.ensures in
    decoded_input c.args.form (g.R.Read.remaining c.args.input) (g.R.Read.remaining c.read_whole.new.input) c.in-Ok.bytes.items c.decoded.result
    c.if-form.true c.in-Ok.ensures.bytes c.in-Ok.ensures.end decoded
