-- What an acquirer's own books say of an account.
-- Inner: bodies and proofs cite it, and no public clause does.
use Rattle.std.specs.Prelude.{ℕ, Option, Some, None, if◌then◌else◌}
use Rattle.iso_order.specs.declared.act.Money.{Money}
use Rattle.iso_order.specs.Pan.{AccountNumber}
use Rattle.iso_order.specs.Order.{same_pan}
use Rattle.iso_drive.specs.declared.made.Made.{Made}
use Rattle.iso_drive.specs.Counts.{is_approved, role_is}

-- what a debit takes from the account
abbrev pub taken_by : Option Money → AccountNumber → ℕ
taken_by None pan = 0
taken_by (Some m) pan = if same_pan m.pan pan then m.amount else 0

-- the amount of an approved purchase of the account, else 0
abbrev pub spent_by : AccountNumber → Made → ℕ
spent_by pan made = if role_is is_approved made.role then taken_by made.debit pan else 0
