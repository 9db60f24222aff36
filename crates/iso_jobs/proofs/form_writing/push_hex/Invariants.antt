use Rattle.std.proofs.Common.{◌≡◌, ◌++◌, drop}
use Rattle.hex.specs.Hex.{encode_upper}
use Rattle.iso_jobs.proofs.form_writing.push_hex.Given as goal

-- the digits so far, and then those of the rest
abbrev pub invariant-loop-b : goal.invariant-loop-b
invariant-loop-b l = l.out.items ++ encode_upper (drop l.b-index l.bytes) ≡ l.initial.out.items ++ encode_upper l.bytes
