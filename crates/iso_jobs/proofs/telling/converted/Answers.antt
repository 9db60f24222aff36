use Rattle.std.proofs.Common.{◌∙◌, ap, inl, inr}
use Rattle.iso_jobs.specs.Telling.{refusal_of_pack}
use Rattle.iso_jobs.proofs.telling.converted.Goals as goal

pub returns-in-Err-clause-refused : goal.returns-in-Err-clause-refused
returns-in-Err-clause-refused c = λ no. inl (c.in-Err.ensures.only no)

pub returns-clause-refused : goal.returns-clause-refused
returns-clause-refused c = λ no.
    inr (c.in-Ok.message, c.in-Ok.ensures.found, λ b h. no (c.unpacked.ensures ∙ ap refusal_of_pack (c.in-Err-append_message.ensures.only b h)))
