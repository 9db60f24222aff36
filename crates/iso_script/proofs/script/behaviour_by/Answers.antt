use Rattle.std.proofs.Common.{◌∙◌, sym}
use Rattle.iso_script.proofs.First.{first_is, none_is}
use Rattle.iso_script.proofs.script.behaviour_by.Goals as goal

pub returns-in-Some : goal.returns-in-Some
returns-in-Some c = first_is c.args.rules.now c.args.message.now c.in-Some.place c.index-rules-place.result (sym c.first_place.ensures ∙ c.in-Some.is)

pub returns-in-None : goal.returns-in-None
returns-in-None c = none_is c.args.rules.now c.args.message.now (sym c.first_place.ensures ∙ c.in-None.is)
