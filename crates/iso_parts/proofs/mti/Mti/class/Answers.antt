-- The digit 8 means network management.
use Rattle.std.proofs.Common.{sym, ap}
use Rattle.iso_parts.specs.Mti.{class_of}
use Rattle.iso_parts.proofs.mti.Mti.class.Goals as goal

pub returns-in-8 : goal.returns-in-8
returns-in-8 c = sym (ap class_of c.in-8.is)
