use Rattle.std.proofs.Common.{◌≡◌, ◌++◌, ◌∙◌, ℕ, Bool, List, refl, subst}
use Rattle.std.specs.Prelude.{OnOk}
use Rattle.iso_jobs.specs.Telling.{TellsLines}
use Rattle.iso_jobs.specs.declared.work.Work.{Work}
use Rattle.iso_jobs.specs.declared.work.Work.TheVariants as works
use Rattle.iso_jobs.proofs.JobLemmas.{silent, told_anyway}
use Rattle.iso_jobs.proofs.job.tell_body.Goals as goal

pub returns-in-Lines : goal.returns-in-Lines
returns-in-Lines c =
    let w : Work = works.Lines c.in-Lines.table c.in-Lines.names c.in-Lines.is_clear in
    let parts = c.in_ok-front.ensures in
    let Told : Bool → Type 0 = λ framed. OnOk c.tell_lines.result ((text : List ℕ)
    × TellsLines c.in-Lines.table.now (record { names = c.in-Lines.names.now; is_clear = c.in-Lines.is_clear; is_framed = framed }) c.in_ok-front.bytes.now text
    × (c.tell_lines.new.out.items ≡ c.args.out.now.items ++ text)) in
    let told = subst Told (c.is_some.ensures ∙ c.frame-frame.ensures) c.tell_lines.ensures.told in
    rw c.in-Lines.is (silent (record { work = w; form = c.args.job.form }) c.args.body.now c.in_ok-front.front.now c.in_ok-front.bytes.now
    (record { old = c.args.out.now.items; new = c.tell_lines.new.out.items }) parts.whole parts.split.0 parts.split.1
    c.tell_lines.result refl told c.tell_lines.ensures.refused c.tell_lines.ensures.unchanged)

pub returns-in-Json : goal.returns-in-Json
returns-in-Json c =
    let w : Work = works.Json c.in-Json.table c.in-Json.is_clear in
    let parts = c.in_ok-front.ensures in
    rw c.in-Json.is (silent (record { work = w; form = c.args.job.form }) c.args.body.now c.in_ok-front.front.now c.in_ok-front.bytes.now
    (record { old = c.args.out.now.items; new = c.tell_json.new.out.items }) parts.whole parts.split.0 parts.split.1
    c.tell_json.result refl c.tell_json.ensures.told c.tell_json.ensures.refused c.tell_json.ensures.unchanged)

pub returns-in-Explain : goal.returns-in-Explain
returns-in-Explain c =
    let w : Work = works.Explain c.in-Explain.table c.in-Explain.names c.in-Explain.style in
    let parts = c.in_ok-front.ensures in
    rw c.in-Explain.is (told_anyway (record { work = w; form = c.args.job.form }) c.args.body.now c.in_ok-front.front.now c.in_ok-front.bytes.now
    (record { old = c.args.out.now.items; new = c.explain.new.out.items }) parts.whole parts.split.0 parts.split.1
    c.explain.result (λ text. tt) (λ good text. good) c.explain.ensures.good c.explain.ensures.refused c.explain.ensures.grown)

pub returns-in-ExplainJson : goal.returns-in-ExplainJson
returns-in-ExplainJson c =
    let w : Work = works.ExplainJson c.in-ExplainJson.table c.in-ExplainJson.names c.in-ExplainJson.is_clear in
    let parts = c.in_ok-front.ensures in
    rw c.in-ExplainJson.is (told_anyway (record { work = w; form = c.args.job.form }) c.args.body.now c.in_ok-front.front.now c.in_ok-front.bytes.now
    (record { old = c.args.out.now.items; new = c.explain_json.new.out.items }) parts.whole parts.split.0 parts.split.1
    c.explain_json.result (λ text. tt) (λ good text. good) c.explain_json.ensures.good c.explain_json.ensures.refused
    c.explain_json.ensures.grown)

pub returns-in-Convert : goal.returns-in-Convert
returns-in-Convert c =
    let w : Work = works.Convert c.in-Convert.from c.in-Convert.to in
    let parts = c.in_ok-front.ensures in
    rw c.in-Convert.is (silent (record { work = w; form = c.args.job.form }) c.args.body.now c.in_ok-front.front.now c.in_ok-front.bytes.now
    (record { old = c.args.out.now.items; new = c.convert.new.out.items }) parts.whole parts.split.0 parts.split.1
    c.convert.result refl c.convert.ensures.told c.convert.ensures.refused c.convert.ensures.unchanged)
