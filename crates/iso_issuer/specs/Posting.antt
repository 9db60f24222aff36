-- What posting changes: what a weight that goes from one amount to another does to a balance.
-- Inner: bodies and proofs cite it, and no public clause does.
use Rattle.std.specs.Prelude.{ℕ, ℤ, pos, ◌+ℤ◌, ◌-ℤ◌, Option, None, Some, if◌then◌else◌}
use Rattle.iso_order.specs.Order.{same_pan}
use Rattle.iso_order.specs.Pan.{AccountNumber}
use Rattle.iso_issuer.specs.declared.balances.Balance.{Balance}
use Rattle.iso_issuer.specs.declared.change.Change.{Change}
use Rattle.iso_issuer.specs.declared.effect.Effect.{Effect}
use Rattle.iso_issuer.specs.declared.effect.Side.{Side}
use Rattle.iso_issuer.specs.declared.effect.Side.TheVariants.{Credited, Debited, Held}
use Rattle.iso_issuer.specs.Balance.{share}

-- what a weight counts in the ledger of this number
abbrev pub ledger_share : AccountNumber → Option Effect → ℕ → ℤ
ledger_share pan f n = pos (share Credited pan f n) -ℤ pos (share Debited pan f n)

-- what it counts in what is available
abbrev pub available_share : AccountNumber → Option Effect → ℕ → ℤ
available_share pan f n = ledger_share pan f n -ℤ pos (share Held pan f n)

-- what a change adds to the ledger of this number
abbrev pub on_ledger : Option Change → AccountNumber → ℤ
on_ledger None pan = pos 0
on_ledger (Some c) pan = if same_pan c.pan pan then c.ledger else pos 0

-- what a change adds to what is available on this number
abbrev pub on_available : Option Change → AccountNumber → ℤ
on_available None pan = pos 0
on_available (Some c) pan = if same_pan c.pan pan then c.available else pos 0

-- what a weight that grows by an amount adds to the ledger
abbrev pub ledger_grown : Side → ℤ → ℤ
ledger_grown Credited z = z
ledger_grown Debited z = pos 0 -ℤ z
ledger_grown Held z = pos 0

-- what it adds to what is available
abbrev pub available_grown : Side → ℤ → ℤ
available_grown Credited z = z
available_grown Debited z = pos 0 -ℤ z
available_grown Held z = pos 0 -ℤ z

-- a balance after the weight of an entry went from one to another
abbrev pub balance_by_weights : Option Effect → ℕ → ℕ → Balance → Balance
balance_by_weights f before after b =
    record {
      account = b.account;
      ledger = b.ledger +ℤ
          (ledger_share b.account.pan f after -ℤ ledger_share b.account.pan f before);
      available = b.available +ℤ
          (available_share b.account.pan f after -ℤ available_share b.account.pan f before);
    }
