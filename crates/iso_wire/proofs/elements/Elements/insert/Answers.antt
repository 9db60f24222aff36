use Rattle.std.proofs.Common.{◌≡◌, ◌+◌, ◌<◌, ◌^◌, ◌∷◌, ◌++◌, length, take, drop, ap, ◌∙◌, arith, rules}
use Rattle.std.proofs.lemmas.List.{drop_at, length-take}
use Rattle.iso_wire.proofs.Buffers.{moves_fit}
use Rattle.iso_wire.proofs.elements.Elements.insert.Goals as goal

pub move_later-requires-clause-fits : goal.move_later-requires-clause-fits
move_later-requires-clause-fits c =
    let old = c.args.self.now in
    let at = c.args.at in
    let put_in : c.insert.new.self.items ≡ take at old.ends.items ++ c.args.start ∷ drop at old.ends.items = search rules in
    let same : drop at c.deref_mut.result.now ≡ c.args.start ∷ drop at old.ends.items = ap (drop at) (c.deref_mut.ensures.value ∙ put_in) ∙ drop_at (take at old.ends.items) (c.args.start ∷ drop at old.ends.items) at (omega (arith, c.requires.place, length-take at old.ends.items)) in
    let small : length old.values.items + length c.args.value.now < 2 ^ 64 = search rules in
    moves_fit 0 (length c.args.value.now) c.args.start (length old.values.items) (drop at c.deref_mut.result.now) (c.args.start ∷ drop at old.ends.items) same (omega arith) (omega arith, c.requires.ends) (omega (arith, small))
