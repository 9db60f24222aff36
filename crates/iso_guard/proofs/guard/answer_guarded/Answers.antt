use Rattle.std.proofs.Common.{length, subst}
use Rattle.std.proofs.lemmas.Bool.{lt-ltb, le-ltb}
use Rattle.iso_issuer.specs.Books.{Books}
use Rattle.iso_host.specs.Entering.{StaysWithout}
use Rattle.iso_guard.specs.Guarding.{guard_of}
use Rattle.iso_guard.proofs.Answers.{short_body, whole_body, whole_or_not}
use Rattle.iso_guard.proofs.guard.answer_guarded.Goals as goal

pub returns-then-body-terms-clause-answered : goal.returns-then-body-terms-clause-answered
returns-then-body-terms-clause-answered c =
    short_body (guard_of c.args.link.now c.args.terms.now) c.args.host.now c.args.host.now c.args.body.now c.args.waiting.now.items
    (subst (λ (b : Books). StaysWithout b) c.issuer.ensures c.one_journal.ensures.none) (lt-ltb (length c.args.body.now) c.args.terms.now.skip c.if-body-terms.true)

pub returns-in-Ok-clause-answered : goal.returns-in-Ok-clause-answered
returns-in-Ok-clause-answered c =
    whole_body (guard_of c.args.link.now c.args.terms.now) c.args.host.now c.answer_message.new.host c.args.body.now c.args.waiting.now.items c.answer_message.new.waiting.items
    c.split_at.result.0.now c.split_at.result.1.now (le-ltb (length c.args.body.now) c.args.terms.now.skip c.if-body-terms.false) c.split_at.ensures.front c.split_at.ensures.back c.in-Ok.ensures.enters c.in-Ok.ensures.answered

pub returns-in-Err-clause-memory : goal.returns-in-Err-clause-memory
returns-in-Err-clause-memory c =
    whole_or_not (guard_of c.args.link.now c.args.terms.now) c.args.host.now c.answer_message.new.host c.args.body.now c.split_at.result.1.now (le-ltb (length c.args.body.now) c.args.terms.now.skip c.if-body-terms.false)
    c.split_at.ensures.back c.in-Err.ensures.memory
