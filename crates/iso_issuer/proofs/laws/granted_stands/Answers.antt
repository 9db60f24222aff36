use Rattle.iso_issuer.proofs.Standing.{granted-stands, granted-weighs, declined-falls, reversed-falls, fallen-weighs}
use Rattle.iso_issuer.proofs.laws.granted_stands.Goals as goal

pub returns-clause-granted : goal.returns-clause-granted
returns-clause-granted c = granted-stands

pub returns-clause-whole : goal.returns-clause-whole
returns-clause-whole c = granted-weighs

pub returns-clause-declined : goal.returns-clause-declined
returns-clause-declined c = declined-falls

pub returns-clause-reversed : goal.returns-clause-reversed
returns-clause-reversed c = reversed-falls

pub returns-clause-nothing : goal.returns-clause-nothing
returns-clause-nothing c = fallen-weighs
