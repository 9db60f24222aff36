-- The names of faults, as fault lines tell them, and the accounts that they name.
use Rattle.std.specs.Prelude.{ℕ, List, Option, Some, None, codes}
use Rattle.iso_issuer.specs.declared.fault.AccountsFault.{AccountsFault}
use Rattle.iso_issuer.specs.declared.fault.AccountsFault.TheVariants as accounts

-- the name of a fault of accounts
abbrev pub accounts_fault_name : AccountsFault → List ℕ
accounts_fault_name accounts.NotJson = codes "NotJson"
accounts_fault_name accounts.Shape = codes "Shape"
accounts_fault_name (accounts.Twice n) = codes "Twice"
accounts_fault_name (accounts.OutOfRange n) = codes "OutOfRange"
accounts_fault_name accounts.Memory = codes "Memory"

-- the account that a fault names, counted from 0
abbrev pub accounts_fault_account : AccountsFault → Option ℕ
accounts_fault_account accounts.NotJson = None
accounts_fault_account accounts.Shape = None
accounts_fault_account (accounts.Twice i) = Some i
accounts_fault_account (accounts.OutOfRange i) = Some i
accounts_fault_account accounts.Memory = None
