use Rattle.std.proofs.Common.{◌≡◌, ◌+◌, ◌-◌, ◌<◌, ◌^◌, ◌++◌, ℕ, true, length, get_or, map, take, drop, suc, refl, sym, ap, ◌∙◌, arith, rules}
use Rattle.std.specs.Vec.{with_items}
use Rattle.std.proofs.lemmas.List.{get_or_default, take_at, drop_at, length-take, with_items_is}
use Rattle.iso_parts.specs.Bitmap.{contains}
use Rattle.iso_wire.specs.declared.elements.Elements.{Elements}
use Rattle.iso_wire.specs.Elements.{has}
use Rattle.iso_wire.specs.Ends.{last_end, shifted_end, views, IsMadeOf}
use Rattle.iso_wire.proofs.Buffers.{moves_fit}
use Rattle.iso_wire.proofs.Numbered.{numbered_without, without_absent}
use Rattle.iso_wire.proofs.Changes.{fits, there, own, own_within, removed, removed_whole}
use Rattle.iso_wire.proofs.elements.Elements.remove.Goals as goal

pub returns-then-not-has-clause-left : goal.returns-then-not-has-clause-left
returns-then-not-has-clause-left c =
    let none = sym (c.requires.numbered c.args.n) ∙ sym c.has.ensures.has ∙ c.if-not-has.true in
    without_absent c.args.n (views c.args.self.now) none

pub start_of-start-requires : goal.start_of-start-requires
start_of-start-requires c =
    let x = c.args.self.now in
    let n = c.args.n in
    let whole = c.requires.whole in
    let is : contains x.numbers n ≡ true = sym c.has.ensures.has ∙ c.if-not-has.false in
    let good = c.has.ensures.numbers n is in
    let at = c.count_below-at.result in
    let placed = c.count_below-at.ensures in
    rw c.deref.ensures.value (fits x whole n good.0 good.1 at (last_end 0 (take at x.ends.items)) placed refl)

pub remove-requires : goal.remove-requires
remove-requires c =
    let x = c.args.self.now in
    let n = c.args.n in
    let whole = c.requires.whole in
    let is : contains x.numbers n ≡ true = sym c.has.ensures.has ∙ c.if-not-has.false in
    let good = c.has.ensures.numbers n is in
    let at = c.count_below-at.result in
    let placed = c.count_below-at.ensures in
    let start = c.start_of-start.result in
    let begins = c.start_of-start.ensures ∙ ap (λ l. last_end 0 (take at l)) c.deref.ensures.value in
    let lt = there x whole n good.0 good.1 at start placed begins is in
    omega (arith, lt, c.deref.ensures.len, ap length c.deref.ensures.value)

pub overflow_sub-len : goal.overflow_sub-len
overflow_sub-len c =
    let x = c.args.self.now in
    let n = c.args.n in
    let whole = c.requires.whole in
    let is : contains x.numbers n ≡ true = sym c.has.ensures.has ∙ c.if-not-has.false in
    let good = c.has.ensures.numbers n is in
    let at = c.count_below-at.result in
    let placed = c.count_below-at.ensures in
    let start = c.start_of-start.result in
    let begins = c.start_of-start.ensures ∙ ap (λ l. last_end 0 (take at l)) c.deref.ensures.value in
    let lt = there x whole n good.0 good.1 at start placed begins is in
    let read : c.remove.result ≡ get_or x.ends.items at 0 = c.remove.ensures.value ∙ get_or_default x.ends.items at c.remove.result 0 lt in
    let ordered = own x whole n good.0 good.1 at start placed begins is in
    let last = own_within x whole n good.0 good.1 at start placed begins is in
    omega (arith, ordered.0, read)

pub cut-requires : goal.cut-requires
cut-requires c =
    let x = c.args.self.now in
    let n = c.args.n in
    let whole = c.requires.whole in
    let is : contains x.numbers n ≡ true = sym c.has.ensures.has ∙ c.if-not-has.false in
    let good = c.has.ensures.numbers n is in
    let at = c.count_below-at.result in
    let placed = c.count_below-at.ensures in
    let start = c.start_of-start.result in
    let begins = c.start_of-start.ensures ∙ ap (λ l. last_end 0 (take at l)) c.deref.ensures.value in
    let lt = there x whole n good.0 good.1 at start placed begins is in
    let read : c.remove.result ≡ get_or x.ends.items at 0 = c.remove.ensures.value ∙ get_or_default x.ends.items at c.remove.result 0 lt in
    let ordered = own x whole n good.0 good.1 at start placed begins is in
    let last = own_within x whole n good.0 good.1 at start placed begins is in
    omega (arith, ordered.0, read, last)

pub move_later-requires-clause-fits : goal.move_later-requires-clause-fits
move_later-requires-clause-fits c =
    let x = c.args.self.now in
    let n = c.args.n in
    let whole = c.requires.whole in
    let is : contains x.numbers n ≡ true = sym c.has.ensures.has ∙ c.if-not-has.false in
    let good = c.has.ensures.numbers n is in
    let at = c.count_below-at.result in
    let placed = c.count_below-at.ensures in
    let start = c.start_of-start.result in
    let begins = c.start_of-start.ensures ∙ ap (λ l. last_end 0 (take at l)) c.deref.ensures.value in
    let lt = there x whole n good.0 good.1 at start placed begins is in
    let read : c.remove.result ≡ get_or x.ends.items at 0 = c.remove.ensures.value ∙ get_or_default x.ends.items at c.remove.result 0 lt in
    let ordered = own x whole n good.0 good.1 at start placed begins is in
    let last = own_within x whole n good.0 good.1 at start placed begins is in
    let len = c.remove.result - start in
    let size : len ≡ get_or x.ends.items at 0 - start = ap (λ (k : ℕ). k - start) read in
    let front = take at x.ends.items in
    let others = drop (suc at) x.ends.items in
    let left : c.deref_mut.result.now ≡ front ++ others = c.deref_mut.ensures.value ∙ c.remove.ensures.items in
    let fore : length front ≡ at = omega (arith, lt, length-take at x.ends.items) in
    let rest : drop at c.deref_mut.result.now ≡ others = ap (drop at) left ∙ drop_at front others at fore in
    let short : length x.values.items < 2 ^ 64 = search rules in
    moves_fit len 0 (get_or x.ends.items at 0) (length x.values.items) (drop at c.deref_mut.result.now) others rest (omega (arith, size)) ordered.1 (omega (arith, short))

pub returns-clause-left : goal.returns-clause-left
returns-clause-left c =
    let x = c.args.self.now in
    let n = c.args.n in
    let whole = c.requires.whole in
    let is : contains x.numbers n ≡ true = sym c.has.ensures.has ∙ c.if-not-has.false in
    let good = c.has.ensures.numbers n is in
    let at = c.count_below-at.result in
    let placed = c.count_below-at.ensures in
    let start = c.start_of-start.result in
    let begins = c.start_of-start.ensures ∙ ap (λ l. last_end 0 (take at l)) c.deref.ensures.value in
    let lt = there x whole n good.0 good.1 at start placed begins is in
    let read : c.remove.result ≡ get_or x.ends.items at 0 = c.remove.ensures.value ∙ get_or_default x.ends.items at c.remove.result 0 lt in
    let ordered = own x whole n good.0 good.1 at start placed begins is in
    let last = own_within x whole n good.0 good.1 at start placed begins is in
    let len = c.remove.result - start in
    let size : len ≡ get_or x.ends.items at 0 - start = ap (λ (k : ℕ). k - start) read in
    let front = take at x.ends.items in
    let others = drop (suc at) x.ends.items in
    let left : c.deref_mut.result.now ≡ front ++ others = c.deref_mut.ensures.value ∙ c.remove.ensures.items in
    let fore : length front ≡ at = omega (arith, lt, length-take at x.ends.items) in
    let rest : drop at c.deref_mut.result.now ≡ others = ap (drop at) left ∙ drop_at front others at fore in
    let y : Elements = record { values = c.cut.new.values; ends = with_items c.remove.new.self c.move_later.new.ends; numbers = c.unset.new.self } in
    let shift = map (shifted_end len 0) in
    let kept : y.ends.items ≡ c.move_later.new.ends = with_items_is c.remove.new.self c.move_later.new.ends (omega (arith, c.move_later.auto.ends, c.deref_mut.ensures.len)) in
    let made : IsMadeOf y (front ++ shift others) (take start x.values.items ++ drop (start + len) x.values.items) = record {
      ends = kept ∙ c.move_later.ensures ∙ ap (λ l. l ++ shift (drop at c.deref_mut.result.now)) (ap (take at) left ∙ take_at front others at fore) ∙ ap (λ l. front ++ shift l) rest;
      values = c.cut.ensures.items;
    } in
    removed x whole n good.0 good.1 at start placed begins is len size y c.unset.ensures.removed c.unset.ensures.others made c.requires.ascending

pub returns-clause-whole : goal.returns-clause-whole
returns-clause-whole c =
    let x = c.args.self.now in
    let n = c.args.n in
    let whole = c.requires.whole in
    let is : contains x.numbers n ≡ true = sym c.has.ensures.has ∙ c.if-not-has.false in
    let good = c.has.ensures.numbers n is in
    let at = c.count_below-at.result in
    let placed = c.count_below-at.ensures in
    let start = c.start_of-start.result in
    let begins = c.start_of-start.ensures ∙ ap (λ l. last_end 0 (take at l)) c.deref.ensures.value in
    let lt = there x whole n good.0 good.1 at start placed begins is in
    let read : c.remove.result ≡ get_or x.ends.items at 0 = c.remove.ensures.value ∙ get_or_default x.ends.items at c.remove.result 0 lt in
    let ordered = own x whole n good.0 good.1 at start placed begins is in
    let last = own_within x whole n good.0 good.1 at start placed begins is in
    let len = c.remove.result - start in
    let size : len ≡ get_or x.ends.items at 0 - start = ap (λ (k : ℕ). k - start) read in
    let front = take at x.ends.items in
    let others = drop (suc at) x.ends.items in
    let left : c.deref_mut.result.now ≡ front ++ others = c.deref_mut.ensures.value ∙ c.remove.ensures.items in
    let fore : length front ≡ at = omega (arith, lt, length-take at x.ends.items) in
    let rest : drop at c.deref_mut.result.now ≡ others = ap (drop at) left ∙ drop_at front others at fore in
    let y : Elements = record { values = c.cut.new.values; ends = with_items c.remove.new.self c.move_later.new.ends; numbers = c.unset.new.self } in
    let shift = map (shifted_end len 0) in
    let kept : y.ends.items ≡ c.move_later.new.ends = with_items_is c.remove.new.self c.move_later.new.ends (omega (arith, c.move_later.auto.ends, c.deref_mut.ensures.len)) in
    let made : IsMadeOf y (front ++ shift others) (take start x.values.items ++ drop (start + len) x.values.items) = record {
      ends = kept ∙ c.move_later.ensures ∙ ap (λ l. l ++ shift (drop at c.deref_mut.result.now)) (ap (take at) left ∙ take_at front others at fore) ∙ ap (λ l. front ++ shift l) rest;
      values = c.cut.ensures.items;
    } in
    removed_whole x whole n good.0 good.1 at start placed begins is len size y c.unset.ensures.removed c.unset.ensures.others made

pub returns-clause-numbered : goal.returns-clause-numbered
returns-clause-numbered c =
    let x = c.args.self.now in
    let n = c.args.n in
    let whole = c.requires.whole in
    let is : contains x.numbers n ≡ true = sym c.has.ensures.has ∙ c.if-not-has.false in
    let good = c.has.ensures.numbers n is in
    let at = c.count_below-at.result in
    let placed = c.count_below-at.ensures in
    let start = c.start_of-start.result in
    let begins = c.start_of-start.ensures ∙ ap (λ l. last_end 0 (take at l)) c.deref.ensures.value in
    let lt = there x whole n good.0 good.1 at start placed begins is in
    let read : c.remove.result ≡ get_or x.ends.items at 0 = c.remove.ensures.value ∙ get_or_default x.ends.items at c.remove.result 0 lt in
    let ordered = own x whole n good.0 good.1 at start placed begins is in
    let last = own_within x whole n good.0 good.1 at start placed begins is in
    let len = c.remove.result - start in
    let size : len ≡ get_or x.ends.items at 0 - start = ap (λ (k : ℕ). k - start) read in
    let front = take at x.ends.items in
    let others = drop (suc at) x.ends.items in
    let left : c.deref_mut.result.now ≡ front ++ others = c.deref_mut.ensures.value ∙ c.remove.ensures.items in
    let fore : length front ≡ at = omega (arith, lt, length-take at x.ends.items) in
    let rest : drop at c.deref_mut.result.now ≡ others = ap (drop at) left ∙ drop_at front others at fore in
    let y : Elements = record { values = c.cut.new.values; ends = with_items c.remove.new.self c.move_later.new.ends; numbers = c.unset.new.self } in
    let shift = map (shifted_end len 0) in
    let kept : y.ends.items ≡ c.move_later.new.ends = with_items_is c.remove.new.self c.move_later.new.ends (omega (arith, c.move_later.auto.ends, c.deref_mut.ensures.len)) in
    let made : IsMadeOf y (front ++ shift others) (take start x.values.items ++ drop (start + len) x.values.items) = record {
      ends = kept ∙ c.move_later.ensures ∙ ap (λ l. l ++ shift (drop at c.deref_mut.result.now)) (ap (take at) left ∙ take_at front others at fore) ∙ ap (λ l. front ++ shift l) rest;
      values = c.cut.ensures.items;
    } in
    let is_left = removed x whole n good.0 good.1 at start placed begins is len size y c.unset.ensures.removed c.unset.ensures.others made c.requires.ascending in
    λ k. numbered_without x.numbers y.numbers n (views x) c.requires.numbered c.unset.ensures.removed c.unset.ensures.others k ∙ ap (λ es. has es k) (sym is_left)

pub returns-then-not-has-clause-found : goal.returns-then-not-has-clause-found
returns-then-not-has-clause-found c = sym (sym c.has.ensures.has ∙ c.if-not-has.true) ∙ c.requires.numbered c.args.n

pub returns-then-not-has-clause-whole : goal.returns-then-not-has-clause-whole
returns-then-not-has-clause-whole c = c.requires.whole

pub returns-then-not-has-clause-numbered : goal.returns-then-not-has-clause-numbered
returns-then-not-has-clause-numbered c = c.requires.numbered

pub returns-clause-found : goal.returns-clause-found
returns-clause-found c = sym (sym c.has.ensures.has ∙ c.if-not-has.false) ∙ c.requires.numbered c.args.n
