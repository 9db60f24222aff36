use Rattle.iso_host.proofs.AnswerLemmas.{answers_none, handled_body, handled_none}
use Rattle.iso_host.proofs.taking.answer_last.Goals as goal

pub returns-in-Ok-Some-clause-answered : goal.returns-in-Ok-Some-clause-answered
returns-in-Ok-Some-clause-answered c =
    let read = rw (c.in-Ok-Some.field-0-is, c.requires.same) at c.in-Ok-Some.ensures.read in
    answers_none _ _ _ _ _ read.0 c.enters_nothing.ensures

pub returns-in-Ok-Some-clause-handled : goal.returns-in-Ok-Some-clause-handled
returns-in-Ok-Some-clause-handled c =
    let read = rw (c.in-Ok-Some.field-0-is, c.requires.same) at c.in-Ok-Some.ensures.read in
    handled_none c.args.table.now c.args.issuer.now _ c.in-Ok-Some.fault read.1

pub returns-in-Ok-None-clause-handled : goal.returns-in-Ok-None-clause-handled
returns-in-Ok-None-clause-handled c =
    let read = rw (c.in-Ok-None.field-0-is, c.requires.same) at c.in-Ok-None.ensures.read in
    handled_body _ _ c.args.table.now c.args.issuer.now _ c.read.new.request c.answer_request.new.told c.answer_request.result read.0 c.answer_request.ensures.handled
