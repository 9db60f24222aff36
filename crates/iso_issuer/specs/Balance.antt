-- What is on an account: sums over the whole journal.
use Rattle.std.specs.Prelude.{ℕ, ℤ, pos, ◌+ℤ◌, ◌-ℤ◌, List, sum_by, Option, if◌then◌else◌}
use Rattle.iso_order.specs.Pan.{AccountNumber}
use Rattle.iso_issuer.specs.declared.account.Account.{Account}
use Rattle.iso_issuer.specs.declared.balances.Balance.{Balance}
use Rattle.iso_issuer.specs.declared.effect.Effect.{Effect}
use Rattle.iso_issuer.specs.declared.effect.Side.{Side}
use Rattle.iso_issuer.specs.declared.effect.Side.TheVariants.{Credited, Debited, Held}
use Rattle.iso_issuer.specs.declared.journal.Entry.{Entry}
use Rattle.iso_issuer.specs.Effect.{effect_of, is_on}
use Rattle.iso_issuer.specs.Journal.{weight}

-- what a weight counts on the account, this way
abbrev pub share : Side → AccountNumber → Option Effect → ℕ → ℕ
share side pan f n = if is_on side pan f then n else 0

-- the weights of the entries on the account, this way, added up
abbrev pub total : Side → AccountNumber → List Entry → ℕ
total side pan journal = sum_by (λ e. share side pan (effect_of e.order) (weight journal e)) journal

-- the opening amount, plus what is credited and less what is debited
abbrev pub ledger : List Entry → Account → ℤ
ledger journal a =
    a.opening +ℤ pos (total Credited a.pan journal) -ℤ pos (total Debited a.pan journal)

-- the ledger, less what is held
abbrev pub available : List Entry → Account → ℤ
available journal a = ledger journal a -ℤ pos (total Held a.pan journal)

-- the account with both
abbrev pub balance_on : List Entry → Account → Balance
balance_on journal a =
    record { account = a; ledger = ledger journal a; available = available journal a }
