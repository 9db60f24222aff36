use Rattle.iso_host.proofs.AnswerLemmas.{answers_nothing, enters_answered}
use Rattle.iso_host.proofs.answering.answer_request.Goals as goal

pub returns-in-Ok-None-clause-answered : goal.returns-in-Ok-None-clause-answered
returns-in-Ok-None-clause-answered c =
    let e = c.in-Ok-None.ensures in
    answers_nothing c.args.table.now c.args.header c.args.issuer.now c.answer_to.new.issuer c.args.rooms.now.request c.in-Ok-None.field-0 c.args.out.now.items e.answer c.in-Ok-None.field-0-is e.entered

pub returns-in-Err-append_answer-clause-memory : goal.returns-in-Err-append_answer-clause-memory
returns-in-Err-append_answer-clause-memory c =
    let e = c.in-Ok-Some.ensures in
    enters_answered c.args.table.now c.args.header c.args.issuer.now c.answer_to.new.issuer c.args.rooms.now.request c.in-Ok-Some.answer c.in-Ok-Some.field-0 e.answer c.in-Ok-Some.field-0-is e.entered
    c.has_frame.ensures
