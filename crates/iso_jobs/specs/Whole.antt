-- Bytes that are one message.
use Rattle.std.specs.Prelude.{ℕ, List}
use Rattle.iso_table.specs.Layout.{Layout}
use Rattle.iso_wire.specs.Contents.{Contents}
use Rattle.iso_wire.specs.Spelling.{Spelling}
use Rattle.iso_wire.specs.declared.fault.UnpackFault.{UnpackFault}
use Rattle.iso_wire.specs.declared.fault.UnpackCause.{UnpackCause}
use Rattle.iso_wire.specs.declared.fault.UnpackCause.TheVariants as causes
use Rattle.iso_jobs.specs.declared.refusal.Refusal.{Refusal}
use Rattle.iso_jobs.specs.declared.refusal.Refusal.TheVariants as refusals
use Rattle.iso_jobs.specs.declared.refusal.Trouble.TheVariants as troubles

-- the bytes spell no message
abbrev pub IsNoMessage : Layout → List ℕ → Type 0
IsNoMessage t b = (m : Contents) → Spelling t m b → ⊥

-- by its cause: want of memory, or what is wrong with the bytes
abbrev pub refusal_by_cause : UnpackFault → UnpackCause → Refusal
refusal_by_cause e causes.Memory = refusals.Memory
refusal_by_cause e cause = refusals.Refused (troubles.Unpack e)

-- want of memory, or what is wrong with the bytes
abbrev pub refusal_of_unpack : UnpackFault → Refusal
refusal_of_unpack e = refusal_by_cause e e.cause
