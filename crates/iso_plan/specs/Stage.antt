-- How far a run gets.
use Rattle.std.specs.Prelude.{◌&&◌, if◌then◌else◌}
use Rattle.iso_plan.specs.declared.stage.Stage.{Stage}
use Rattle.iso_plan.specs.declared.stage.Stage.TheVariants.{Opening, Buying, Asking, Over}
use Rattle.iso_plan.specs.declared.stage.Standing.{Standing}

-- what comes once it closes and each transaction is closed: it asks for balances, if it checks
abbrev pub after_buying : Standing → Stage
after_buying s = if s.checks then Asking else Over

-- it asks until all is told or given up, and buys; it buys until it closes and each transaction is closed, and asks again until
-- all is told or given up; then it is over
abbrev pub next_stage : Stage → Standing → Stage
next_stage Opening s = if s.are_done then Buying else Opening
next_stage Buying s = if s.is_closing && s.is_closed then after_buying s else Buying
next_stage Asking s = if s.are_done then Over else Asking
next_stage Over s = Over
