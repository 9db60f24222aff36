use Rattle.std.proofs.Common.{◌≡◌, ◌+◌, ◌-◌, ◌<◌, ◌^◌, length, drop, ap, arith, rules}
use Rattle.iso_wire.proofs.Buffers.{moves_fit}
use Rattle.iso_wire.proofs.elements.Elements.replace.Goals as goal

pub move_later-requires-clause-fits : goal.move_later-requires-clause-fits
move_later-requires-clause-fits c =
    let old = c.args.self.now in
    let at = c.args.at in
    let len = c.args.len in
    let same : drop at c.deref_mut.result.now ≡ drop at old.ends.items = ap (drop at) c.deref_mut.ensures.value in
    let small : length old.values.items - len + length c.args.value.now < 2 ^ 64 = search rules in
    moves_fit len (length c.args.value.now) (c.args.start + len) (length old.values.items) (drop at c.deref_mut.result.now) (drop at old.ends.items) same (omega arith) c.requires.ends small
