use Rattle.std.proofs.Common.{◌≡◌, ◌-◌, ℕ, true, false, length, get_or, take, refl, sym, ap, ◌∙◌, arith}
use Rattle.std.proofs.lemmas.List.{get_or_default}
use Rattle.std.proofs.lemmas.Result.{on_ok_weaker}
use Rattle.iso_parts.specs.Bitmap.{contains}
use Rattle.iso_wire.specs.Elements.{has}
use Rattle.iso_wire.specs.Ends.{last_end, views}
use Rattle.iso_wire.proofs.Orders.{IsAscending-one}
use Rattle.iso_wire.proofs.Numbered.{numbered_put, numbered_replaced, by_result}
use Rattle.iso_wire.proofs.Changes.{fits, within, back, there, own, own_within, from_own, inserted, inserted_whole, replaced, replaced_whole, either_end, on_ok_two, whole_same, numbered_same}
use Rattle.iso_wire.proofs.elements.Elements.put.Goals as goal

pub start_of-start-requires : goal.start_of-start-requires
start_of-start-requires c =
    let x = c.args.self.now in
    let n = c.args.n in
    let whole = c.requires.whole in
    let good = IsAscending-one n c.args.value.now c.requires.number in
    let at = c.count_below-at.result in
    let placed = c.count_below-at.ensures in
    rw c.deref.ensures.value (fits x whole n good.0 good.1 at (last_end 0 (take at x.ends.items)) placed refl)

pub index-requires : goal.index-requires
index-requires c =
    let x = c.args.self.now in
    let n = c.args.n in
    let whole = c.requires.whole in
    let good = IsAscending-one n c.args.value.now c.requires.number in
    let at = c.count_below-at.result in
    let placed = c.count_below-at.ensures in
    let start = c.start_of-start.result in
    let begins = c.start_of-start.ensures ∙ ap (λ l. last_end 0 (take at l)) c.deref.ensures.value in
    let is : contains x.numbers n ≡ true = sym c.has.ensures.has ∙ c.if-has.true in
    let lt = there x whole n good.0 good.1 at start placed begins is in
    omega (arith, lt, c.deref.ensures.len, ap length c.deref.ensures.value)

pub overflow_sub-len : goal.overflow_sub-len
overflow_sub-len c =
    let x = c.args.self.now in
    let n = c.args.n in
    let whole = c.requires.whole in
    let good = IsAscending-one n c.args.value.now c.requires.number in
    let at = c.count_below-at.result in
    let placed = c.count_below-at.ensures in
    let start = c.start_of-start.result in
    let begins = c.start_of-start.ensures ∙ ap (λ l. last_end 0 (take at l)) c.deref.ensures.value in
    let is : contains x.numbers n ≡ true = sym c.has.ensures.has ∙ c.if-has.true in
    let lt = there x whole n good.0 good.1 at start placed begins is in
    let read : c.index.result.now ≡ get_or x.ends.items at 0 = c.index.ensures ∙ get_or_default x.ends.items at c.index.result.now 0 lt in
    let ordered = own x whole n good.0 good.1 at start placed begins is in
    omega (arith, ordered.0, read)

pub replace-requires-clause-place : goal.replace-requires-clause-place
replace-requires-clause-place c =
    let x = c.args.self.now in
    let n = c.args.n in
    let whole = c.requires.whole in
    let good = IsAscending-one n c.args.value.now c.requires.number in
    let at = c.count_below-at.result in
    let placed = c.count_below-at.ensures in
    let start = c.start_of-start.result in
    let begins = c.start_of-start.ensures ∙ ap (λ l. last_end 0 (take at l)) c.deref.ensures.value in
    fits x whole n good.0 good.1 at start placed begins

pub replace-requires-clause-within : goal.replace-requires-clause-within
replace-requires-clause-within c =
    let x = c.args.self.now in
    let n = c.args.n in
    let whole = c.requires.whole in
    let good = IsAscending-one n c.args.value.now c.requires.number in
    let at = c.count_below-at.result in
    let placed = c.count_below-at.ensures in
    let start = c.start_of-start.result in
    let begins = c.start_of-start.ensures ∙ ap (λ l. last_end 0 (take at l)) c.deref.ensures.value in
    let is : contains x.numbers n ≡ true = sym c.has.ensures.has ∙ c.if-has.true in
    let lt = there x whole n good.0 good.1 at start placed begins is in
    let read : c.index.result.now ≡ get_or x.ends.items at 0 = c.index.ensures ∙ get_or_default x.ends.items at c.index.result.now 0 lt in
    let ordered = own x whole n good.0 good.1 at start placed begins is in
    let last = own_within x whole n good.0 good.1 at start placed begins is in
    omega (arith, ordered.0, read, last)

pub replace-requires-clause-ends : goal.replace-requires-clause-ends
replace-requires-clause-ends c =
    let x = c.args.self.now in
    let n = c.args.n in
    let whole = c.requires.whole in
    let good = IsAscending-one n c.args.value.now c.requires.number in
    let at = c.count_below-at.result in
    let placed = c.count_below-at.ensures in
    let start = c.start_of-start.result in
    let begins = c.start_of-start.ensures ∙ ap (λ l. last_end 0 (take at l)) c.deref.ensures.value in
    let is : contains x.numbers n ≡ true = sym c.has.ensures.has ∙ c.if-has.true in
    let lt = there x whole n good.0 good.1 at start placed begins is in
    let read : c.index.result.now ≡ get_or x.ends.items at 0 = c.index.ensures ∙ get_or_default x.ends.items at c.index.result.now 0 lt in
    let ordered = own x whole n good.0 good.1 at start placed begins is in
    let len = c.index.result.now - start in
    let size : len ≡ get_or x.ends.items at 0 - start = ap (λ (k : ℕ). k - start) read in
    from_own x whole n good.0 good.1 at start placed begins is len size

pub insert-requires-clause-place : goal.insert-requires-clause-place
insert-requires-clause-place c =
    let x = c.args.self.now in
    let n = c.args.n in
    let whole = c.requires.whole in
    let good = IsAscending-one n c.args.value.now c.requires.number in
    let at = c.count_below-at.result in
    let placed = c.count_below-at.ensures in
    let start = c.start_of-start.result in
    let begins = c.start_of-start.ensures ∙ ap (λ l. last_end 0 (take at l)) c.deref.ensures.value in
    fits x whole n good.0 good.1 at start placed begins

pub insert-requires-clause-within : goal.insert-requires-clause-within
insert-requires-clause-within c =
    let x = c.args.self.now in
    let n = c.args.n in
    let whole = c.requires.whole in
    let good = IsAscending-one n c.args.value.now c.requires.number in
    let at = c.count_below-at.result in
    let placed = c.count_below-at.ensures in
    let start = c.start_of-start.result in
    let begins = c.start_of-start.ensures ∙ ap (λ l. last_end 0 (take at l)) c.deref.ensures.value in
    within x whole n good.0 good.1 at start placed begins

pub insert-requires-clause-ends : goal.insert-requires-clause-ends
insert-requires-clause-ends c =
    let x = c.args.self.now in
    let n = c.args.n in
    let whole = c.requires.whole in
    let good = IsAscending-one n c.args.value.now c.requires.number in
    let at = c.count_below-at.result in
    let placed = c.count_below-at.ensures in
    let start = c.start_of-start.result in
    let begins = c.start_of-start.ensures ∙ ap (λ l. last_end 0 (take at l)) c.deref.ensures.value in
    back x whole n good.0 good.1 at start placed begins

pub returns-then-has-clause-ok : goal.returns-then-has-clause-ok
returns-then-has-clause-ok c =
    let x = c.args.self.now in
    let n = c.args.n in
    let whole = c.requires.whole in
    let good = IsAscending-one n c.args.value.now c.requires.number in
    let at = c.count_below-at.result in
    let placed = c.count_below-at.ensures in
    let start = c.start_of-start.result in
    let begins = c.start_of-start.ensures ∙ ap (λ l. last_end 0 (take at l)) c.deref.ensures.value in
    let is : contains x.numbers n ≡ true = sym c.has.ensures.has ∙ c.if-has.true in
    let lt = there x whole n good.0 good.1 at start placed begins is in
    let read : c.index.result.now ≡ get_or x.ends.items at 0 = c.index.ensures ∙ get_or_default x.ends.items at c.index.result.now 0 lt in
    let ordered = own x whole n good.0 good.1 at start placed begins is in
    let len = c.index.result.now - start in
    let size : len ≡ get_or x.ends.items at 0 - start = ap (λ (k : ℕ). k - start) read in
    let v = c.args.value.now in
    on_ok_weaker c.replace.result (λ made. replaced x whole n good.0 good.1 at start placed begins is len size c.replace.new.self v c.replace.ensures.kept made) c.replace.ensures.ok

pub returns-then-has-clause-whole : goal.returns-then-has-clause-whole
returns-then-has-clause-whole c =
    let x = c.args.self.now in
    let n = c.args.n in
    let whole = c.requires.whole in
    let good = IsAscending-one n c.args.value.now c.requires.number in
    let at = c.count_below-at.result in
    let placed = c.count_below-at.ensures in
    let start = c.start_of-start.result in
    let begins = c.start_of-start.ensures ∙ ap (λ l. last_end 0 (take at l)) c.deref.ensures.value in
    let is : contains x.numbers n ≡ true = sym c.has.ensures.has ∙ c.if-has.true in
    let lt = there x whole n good.0 good.1 at start placed begins is in
    let read : c.index.result.now ≡ get_or x.ends.items at 0 = c.index.ensures ∙ get_or_default x.ends.items at c.index.result.now 0 lt in
    let ordered = own x whole n good.0 good.1 at start placed begins is in
    let len = c.index.result.now - start in
    let size : len ≡ get_or x.ends.items at 0 - start = ap (λ (k : ℕ). k - start) read in
    let v = c.args.value.now in
    either_end c.replace.result c.replace.ensures.ok c.replace.ensures.err (λ made. replaced_whole x whole n good.0 good.1 at start placed begins is len size c.replace.new.self v c.replace.ensures.kept made) (λ same. whole_same x c.replace.new.self same whole)

pub returns-then-has-clause-numbered : goal.returns-then-has-clause-numbered
returns-then-has-clause-numbered c =
    let x = c.args.self.now in
    let n = c.args.n in
    let whole = c.requires.whole in
    let good = IsAscending-one n c.args.value.now c.requires.number in
    let at = c.count_below-at.result in
    let placed = c.count_below-at.ensures in
    let start = c.start_of-start.result in
    let begins = c.start_of-start.ensures ∙ ap (λ l. last_end 0 (take at l)) c.deref.ensures.value in
    let is : contains x.numbers n ≡ true = sym c.has.ensures.has ∙ c.if-has.true in
    let lt = there x whole n good.0 good.1 at start placed begins is in
    let read : c.index.result.now ≡ get_or x.ends.items at 0 = c.index.ensures ∙ get_or_default x.ends.items at c.index.result.now 0 lt in
    let ordered = own x whole n good.0 good.1 at start placed begins is in
    let len = c.index.result.now - start in
    let size : len ≡ get_or x.ends.items at 0 - start = ap (λ (k : ℕ). k - start) read in
    let v = c.args.value.now in
    let held = sym (c.requires.numbered n) ∙ is in
    either_end c.replace.result c.replace.ensures.ok c.replace.ensures.err
    (λ made k. ap (λ s. contains s k) c.replace.ensures.kept ∙ numbered_replaced x.numbers n v (views x) c.requires.numbered held k ∙ ap (λ es. has es k) (sym (replaced x whole n good.0 good.1 at start placed begins is len size c.replace.new.self v c.replace.ensures.kept made)))
    (λ same. numbered_same x c.replace.new.self same c.requires.numbered)

pub returns-else-has-clause-ok : goal.returns-else-has-clause-ok
returns-else-has-clause-ok c =
    let x = c.args.self.now in
    let n = c.args.n in
    let whole = c.requires.whole in
    let good = IsAscending-one n c.args.value.now c.requires.number in
    let at = c.count_below-at.result in
    let placed = c.count_below-at.ensures in
    let start = c.start_of-start.result in
    let begins = c.start_of-start.ensures ∙ ap (λ l. last_end 0 (take at l)) c.deref.ensures.value in
    let none : contains x.numbers n ≡ false = sym c.has.ensures.has ∙ c.if-has.false in
    let v = c.args.value.now in
    on_ok_two c.insert.result c.insert.ensures.ok c.insert.ensures.numbers (λ made adds. inserted x whole n good.0 good.1 at start placed begins none c.insert.new.self v adds made)

pub returns-else-has-clause-whole : goal.returns-else-has-clause-whole
returns-else-has-clause-whole c =
    let x = c.args.self.now in
    let n = c.args.n in
    let whole = c.requires.whole in
    let good = IsAscending-one n c.args.value.now c.requires.number in
    let at = c.count_below-at.result in
    let placed = c.count_below-at.ensures in
    let start = c.start_of-start.result in
    let begins = c.start_of-start.ensures ∙ ap (λ l. last_end 0 (take at l)) c.deref.ensures.value in
    let none : contains x.numbers n ≡ false = sym c.has.ensures.has ∙ c.if-has.false in
    let v = c.args.value.now in
    by_result c.insert.result c.insert.ensures.ok c.insert.ensures.numbers c.insert.ensures.err c.insert.ensures.err (λ made adds. inserted_whole x whole n good.0 good.1 at start placed begins none c.insert.new.self v adds made) (λ same _. whole_same x c.insert.new.self same whole)

pub returns-else-has-clause-numbered : goal.returns-else-has-clause-numbered
returns-else-has-clause-numbered c =
    let x = c.args.self.now in
    let n = c.args.n in
    let whole = c.requires.whole in
    let good = IsAscending-one n c.args.value.now c.requires.number in
    let at = c.count_below-at.result in
    let placed = c.count_below-at.ensures in
    let start = c.start_of-start.result in
    let begins = c.start_of-start.ensures ∙ ap (λ l. last_end 0 (take at l)) c.deref.ensures.value in
    let none : contains x.numbers n ≡ false = sym c.has.ensures.has ∙ c.if-has.false in
    let v = c.args.value.now in
    by_result c.insert.result c.insert.ensures.ok c.insert.ensures.numbers c.insert.ensures.err c.insert.ensures.err
    (λ made adds k. numbered_put x.numbers c.insert.new.self.numbers n v (views x) c.requires.numbered adds k ∙ ap (λ es. has es k) (sym (inserted x whole n good.0 good.1 at start placed begins none c.insert.new.self v adds made)))
    (λ same _. numbered_same x c.insert.new.self same c.requires.numbered)
