use Rattle.std.proofs.Common.{◌∙◌, [], sym, ap, append-nil}
use Rattle.iso_jobs.specs.Whole.{refusal_by_cause}
use Rattle.iso_jobs.proofs.WholeLemmas.{size_in}
use Rattle.iso_jobs.proofs.whole.whole_message.Goals as goal

pub returns-in-Ok-2-clause-only : goal.returns-in-Ok-2-clause-only
returns-in-Ok-2-clause-only c = λ no m h.
    c.if-used-bytes.false (sym (ap size_in (c.in-Ok.ensures.only m c.args.bytes.now [] h (sym (append-nil c.args.bytes.now)))))

pub returns-in-Err-clause-only : goal.returns-in-Err-clause-only
returns-in-Err-clause-only c = λ no m h.
    c.in-Err.ensures.refused (λ is. no (c.refused.ensures ∙ ap (refusal_by_cause c.in-Err.fault) is)) m c.args.bytes.now [] (sym (append-nil c.args.bytes.now)) h
