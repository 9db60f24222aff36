-- The numbers of faults, as logs and monitors show them.
use Rattle.std.specs.Prelude.{ℕ}
use Rattle.iso_acquirer.specs.declared.fault.AcqFault.{AcqFault}
use Rattle.iso_acquirer.specs.declared.fault.AcqFault.TheVariants as acquirer
use Rattle.iso_acquirer.specs.declared.fault.StepFault.{StepFault}
use Rattle.iso_acquirer.specs.declared.fault.StepFault.TheVariants as step

-- the number of a fault of an acquirer
abbrev pub acquirer_fault_number : AcqFault → ℕ
acquirer_fault_number acquirer.NoMoreTrace = 1
acquirer_fault_number acquirer.Memory = 2
acquirer_fault_number acquirer.NoSuch = 3
acquirer_fault_number acquirer.Closed = 4

-- the number of a fault of a step
abbrev pub step_fault_number : StepFault → ℕ
step_fault_number step.NoSuch = 1
step_fault_number step.OwnKey = 2
step_fault_number (step.Acquirer e) = 3
step_fault_number (step.Issuer e) = 4
step_fault_number step.Memory = 5
