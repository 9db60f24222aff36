-- Whether a journal is whole.
use Rattle.std.specs.Prelude.{◌≡◌, ℕ, ◌+◌, Bool, true, false, List, [], ◌∷◌, drop, is_some, None, if◌then◌else◌}
use Rattle.iso_log.specs.Slots.{records_of}
use Rattle.iso_books.specs.Headings.{told_of}
use Rattle.iso_books.specs.Records.{is_clear}
use Rattle.iso_books.specs.Rows.{row_at}
use Rattle.iso_books.specs.declared.heading.Wanted.{Wanted}
use Rattle.iso_books.specs.declared.surveying.Condition.{Condition as State}
use Rattle.iso_books.specs.declared.heading.Wanted.{Wanted}
use Rattle.iso_books.specs.declared.surveying.Condition.TheVariants.{Whole, Torn, Damaged}

-- so many orders, and zeros behind them or not
abbrev pub condition_at_end : Bool → ℕ → State
condition_at_end true count = Whole count
condition_at_end false count = Torn count

-- behind so many orders: the first record that isn't the row of its place, else how all of them end
abbrev pub condition_from : ℕ → List (List ℕ) → Bool → State
condition_from count [] clear = condition_at_end clear count
condition_from count (r ∷ rs) clear = if is_some (row_at (count + 1) r)
    then condition_from (count + 1) rs clear else Damaged (count + 1)

-- of what is left of a file behind so many orders
abbrev pub condition_left : ℕ → List ℕ → State
condition_left count rest = condition_from count (records_of rest) (is_clear rest)

-- of a journal's file, whose first record is the heading
abbrev pub condition_of : List ℕ → State
condition_of file = condition_from 0 (drop 1 (records_of file)) (is_clear file)

-- the file begins with a heading that is wanted, and this is told of what stands behind it
pub record IsSurveyed (wanted : Wanted) (file : List ℕ) (c : State) : Type 0 where
  pub headed : told_of wanted (records_of file) ≡ None
  pub told : c ≡ condition_of file
