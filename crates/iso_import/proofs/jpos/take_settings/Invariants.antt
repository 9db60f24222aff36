-- While settings are looked at, the draft stays as it was.
use Rattle.std.proofs.Common.{◌≡◌}
use Rattle.iso_import.proofs.jpos.take_settings.Given as goal

abbrev pub invariant-loop-name : goal.invariant-loop-name
invariant-loop-name l = l.taken.rows.items ≡ l.initial.taken.rows.items
