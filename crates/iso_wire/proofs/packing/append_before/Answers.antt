use Rattle.std.proofs.Common.{◌≡◌, arith, rules}
use Rattle.iso_parts.specs.declared.prefix.Length.TheVariants as lengths
use Rattle.iso_wire.proofs.Adjacent.{goes_on}
use Rattle.iso_wire.proofs.packing.append_before.Goals as goal

pub returns-then-eq-clause-ok : goal.returns-then-eq-clause-ok
returns-then-eq-clause-ok c =
    let is : c.args.spec.now.length ≡ lengths.Fixed = search rules in
    rw is (goes_on c.args.out.now.items c.args.values.now c.args.value.now c.args.from c.args.at _ c.requires.order (omega arith) c.requires.value)
