use Rattle.std.proofs.Common.{◌∙◌, sym}
use Rattle.iso_front.proofs.Meetings.{apart, meeting}
use Rattle.iso_front.proofs.prefixes.Prefixes.meets.Goals as goal

pub returns-clause-meeting : goal.returns-clause-meeting
returns-clause-meeting c = λ is. meeting c.args.self.now c.args.other.now (sym c.meets.ensures ∙ is)

pub returns-clause-apart : goal.returns-clause-apart
returns-clause-apart c = λ is. apart c.args.self.now c.args.other.now (sym c.meets.ensures ∙ is)
