-- The rows can stand in a table, each as a class has it; what is left is text.
use denote.Shadow.{shadow}
use denote.Text.{Utf8}
use Rattle.iso_import.specs.Found.{CanStand}
use Rattle.iso_import.specs.Kinds.{AreOfClasses}
use Rattle.iso_import.proofs.jpos.packager_in.Given as goal

abbrev pub invariant-loop : goal.invariant-loop
invariant-loop l = CanStand l.taken.rows.items × AreOfClasses l.bytes l.taken.rows.items × shadow (Utf8 l.rest)
