-- What counting one more frame does to a report.
-- Inner: bodies and proofs cite it, and no public clause does.
use Rattle.std.specs.Prelude.{◌≡◌, ℕ, ◌+◌, Bool, if◌then◌else◌}
use Rattle.std.specs.declared.option.Option.{Option}
use Rattle.std.specs.Io.Iter.{u64_saturate}
use Rattle.iso_order.specs.declared.verdict.Verdict.{Verdict}
use Rattle.iso_host.specs.Asking.{has_answer, is_silent, is_unreadable}
use Rattle.iso_host.specs.declared.fault.Report.{Report}

-- one more body of this kind, or none
abbrev pub count_with : Bool → ℕ → ℕ
count_with is_kind n = if is_kind then u64_saturate (n + 1) else n

-- the report counts one body more, of which this was asked
pub record ReportsOneMore (old new : Report) (asked : Option Verdict) : Type 0 where
  pub frames : new.frames ≡ u64_saturate (old.frames + 1)
  pub answered : new.answered ≡ count_with (has_answer asked) old.answered
  pub silent : new.silent ≡ count_with (is_silent asked) old.silent
  pub unreadable : new.unreadable ≡ count_with (is_unreadable asked) old.unreadable
