-- A cut enters the order and silence writes nothing; an answer by a rule enters nothing.
use Rattle.std.proofs.Common.{rules}
use Rattle.iso_script.proofs.treating.do_deed.Goals as goal

pub returns-in-Cut-clause-enters : goal.returns-in-Cut-clause-enters
returns-in-Cut-clause-enters c = search rules

pub returns-in-Silent-clause-written : goal.returns-in-Silent-clause-written
returns-in-Silent-clause-written c = search rules

pub returns-in-Answer-clause-enters : goal.returns-in-Answer-clause-enters
returns-in-Answer-clause-enters c = search rules
