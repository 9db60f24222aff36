use Rattle.std.proofs.Common.{◌≡◌, drop}
use Rattle.iso_c.specs.Parts.{elements_or_fault}
use Rattle.iso_c.proofs.packing.put_parts.Given as goal

-- the parts so far, and then the others
abbrev pub invariant-loop-part : goal.invariant-loop-part
invariant-loop-part l = record {
  gathers : elements_or_fault l.values (drop l.part-index l.parts) l.message.elements ≡ elements_or_fault l.values l.parts l.initial.message.elements;
  mti : l.message.mti ≡ l.initial.message.mti;
}
