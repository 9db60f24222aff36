-- The numbers of faults, as logs and monitors show them.
use Rattle.std.specs.Prelude.{ℕ}
use Rattle.iso_issuer.specs.declared.fault.AccountsFault.{AccountsFault}
use Rattle.iso_issuer.specs.declared.fault.AccountsFault.TheVariants as accounts
use Rattle.iso_issuer.specs.declared.fault.Refused.{Refused}
use Rattle.iso_issuer.specs.declared.fault.Refused.TheVariants as refused

-- the number of a fault of accounts
abbrev pub accounts_fault_number : AccountsFault → ℕ
accounts_fault_number accounts.NotJson = 1
accounts_fault_number accounts.Shape = 2
accounts_fault_number (accounts.Twice i) = 3
accounts_fault_number (accounts.OutOfRange i) = 4
accounts_fault_number accounts.Memory = 5

-- the number of a refusal
abbrev pub refused_number : Refused → ℕ
refused_number refused.Full = 1
refused_number refused.Memory = 2
