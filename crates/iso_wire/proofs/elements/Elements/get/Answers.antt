use Rattle.std.proofs.Common.{◌≡◌, ◌≤◌, true, length, get_or, take, refl, sym, ap, ◌∙◌, arith, rules}
use Rattle.std.proofs.lemmas.List.{get_or_default}
use Rattle.iso_parts.specs.Bitmap.{contains}
use Rattle.iso_wire.specs.Ends.{last_end}
use Rattle.iso_wire.proofs.Changes.{fits, there, own, own_within, value_there}
use Rattle.iso_wire.proofs.elements.Elements.get.Goals as goal

pub start_of-start-requires : goal.start_of-start-requires
start_of-start-requires c =
    let x = c.args.self.now in
    let n = c.args.n in
    let is : contains x.numbers n ≡ true = sym c.has.ensures.has ∙ c.if-not-has.false in
    let range = c.has.ensures.numbers n is in
    let at = c.count_below-at.result in
    rw c.deref.ensures.value (fits x c.requires.whole n range.0 range.1 at (last_end 0 (take at x.ends.items)) c.count_below-at.ensures refl)

pub index-requires : goal.index-requires
index-requires c =
    let x = c.args.self.now in
    let n = c.args.n in
    let is : contains x.numbers n ≡ true = sym c.has.ensures.has ∙ c.if-not-has.false in
    let range = c.has.ensures.numbers n is in
    let at = c.count_below-at.result in
    let begins = c.start_of-start.ensures ∙ ap (λ l. last_end 0 (take at l)) c.deref.ensures.value in
    let start = c.start_of-start.result in
    let within = there x c.requires.whole n range.0 range.1 at start c.count_below-at.ensures begins is in
    omega (arith, within, c.deref.ensures.len, ap length c.deref.ensures.value)

pub slice_bounds-result-count : goal.slice_bounds-result-count
slice_bounds-result-count c =
    let x = c.args.self.now in
    let n = c.args.n in
    let is : contains x.numbers n ≡ true = sym c.has.ensures.has ∙ c.if-not-has.false in
    let range = c.has.ensures.numbers n is in
    let at = c.count_below-at.result in
    let begins = c.start_of-start.ensures ∙ ap (λ l. last_end 0 (take at l)) c.deref.ensures.value in
    let start = c.start_of-start.result in
    let within = there x c.requires.whole n range.0 range.1 at start c.count_below-at.ensures begins is in
    let read : c.index.result.now ≡ get_or x.ends.items at 0 = c.index.ensures ∙ get_or_default x.ends.items at c.index.result.now 0 within in
    let ordered = own x c.requires.whole n range.0 range.1 at start c.count_below-at.ensures begins is in
    let up : start ≤ c.index.result.now = omega (arith, ordered.0, read) in
    up

pub slice_bounds-result-start : goal.slice_bounds-result-start
slice_bounds-result-start c =
    let x = c.args.self.now in
    let n = c.args.n in
    let is : contains x.numbers n ≡ true = sym c.has.ensures.has ∙ c.if-not-has.false in
    let range = c.has.ensures.numbers n is in
    let at = c.count_below-at.result in
    let begins = c.start_of-start.ensures ∙ ap (λ l. last_end 0 (take at l)) c.deref.ensures.value in
    let start = c.start_of-start.result in
    let within = there x c.requires.whole n range.0 range.1 at start c.count_below-at.ensures begins is in
    let read : c.index.result.now ≡ get_or x.ends.items at 0 = c.index.ensures ∙ get_or_default x.ends.items at c.index.result.now 0 within in
    let ordered = own x c.requires.whole n range.0 range.1 at start c.count_below-at.ensures begins is in
    let up : start ≤ c.index.result.now = omega (arith, ordered.0, read) in
    search rules

pub slice_bounds-result-end : goal.slice_bounds-result-end
slice_bounds-result-end c =
    let x = c.args.self.now in
    let n = c.args.n in
    let is : contains x.numbers n ≡ true = sym c.has.ensures.has ∙ c.if-not-has.false in
    let range = c.has.ensures.numbers n is in
    let at = c.count_below-at.result in
    let begins = c.start_of-start.ensures ∙ ap (λ l. last_end 0 (take at l)) c.deref.ensures.value in
    let start = c.start_of-start.result in
    let within = there x c.requires.whole n range.0 range.1 at start c.count_below-at.ensures begins is in
    let read : c.index.result.now ≡ get_or x.ends.items at 0 = c.index.ensures ∙ get_or_default x.ends.items at c.index.result.now 0 within in
    let ordered = own x c.requires.whole n range.0 range.1 at start c.count_below-at.ensures begins is in
    let up : start ≤ c.index.result.now = omega (arith, ordered.0, read) in
    let last = own_within x c.requires.whole n range.0 range.1 at start c.count_below-at.ensures begins is in
    let end : c.index.result.now ≤ length c.deref-2.result.now = omega (arith, last, read, ap length c.deref-2.ensures.value) in
    search rules

pub returns : goal.returns
returns c =
    let x = c.args.self.now in
    let n = c.args.n in
    let is : contains x.numbers n ≡ true = sym c.has.ensures.has ∙ c.if-not-has.false in
    let range = c.has.ensures.numbers n is in
    let at = c.count_below-at.result in
    let begins = c.start_of-start.ensures ∙ ap (λ l. last_end 0 (take at l)) c.deref.ensures.value in
    let start = c.start_of-start.result in
    let within = there x c.requires.whole n range.0 range.1 at start c.count_below-at.ensures begins is in
    let read : c.index.result.now ≡ get_or x.ends.items at 0 = c.index.ensures ∙ get_or_default x.ends.items at c.index.result.now 0 within in
    let ordered = own x c.requires.whole n range.0 range.1 at start c.count_below-at.ensures begins is in
    let up : start ≤ c.index.result.now = omega (arith, ordered.0, read) in
    rw (read, c.deref-2.ensures.value) (value_there x c.requires.whole n range.0 range.1 at start c.count_below-at.ensures begins is)
