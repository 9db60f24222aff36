use Rattle.std.proofs.Common.{◌≡◌, ◌∙◌, ◌∷◌, ◌++◌, [], length, take, ap, refl, sym, rules}
use Rattle.std.proofs.lemmas.List.{take_at}
use Rattle.std.proofs.lemmas.Result.{err_from_is_err_and}
use Rattle.iso_parts.specs.Bitmap.{contains}
use Rattle.iso_wire.specs.declared.elements.Elements.{Elements}
use Rattle.iso_wire.specs.Elements.{has}
use Rattle.iso_wire.specs.Ends.{views, Adds, IsMadeOf, IsSame}
use Rattle.iso_wire.proofs.Changes.{whole_same, numbered_same}
use Rattle.iso_wire.proofs.Orders.{IsAscending-one}
use Rattle.iso_wire.proofs.Appends.{added, added_whole}
use Rattle.iso_wire.proofs.Numbered.{numbered_behind}
use Rattle.iso_wire.proofs.elements.Elements.append.Goals as goal

pub returns-in-Ok-clause-ok : goal.returns-in-Ok-clause-ok
returns-in-Ok-clause-ok c =
    let old = c.args.self.now in
    let n = c.args.n in
    let v = c.args.value.now in
    let good = IsAscending-one n v c.requires.number in
    let new : Elements = record { values = c.close.new.self.values; ends = c.close.new.self.ends; numbers = c.set.new.self } in
    let put = c.in_ok-extend_from_slice.ensures.items in
    let made : IsMadeOf new (old.ends.items ++ length (old.values.items ++ v) ∷ []) (old.values.items ++ v) = record {
      ends = c.in-Ok.ensures.ok.ends ∙ ap (λ l. old.ends.items ++ length l ∷ []) put;
      values = c.in-Ok.ensures.ok.values ∙ put;
    } in
    let adds : Adds old.numbers new.numbers n = (c.set.ensures.added, λ k other. c.set.ensures.others k other ∙ ap (λ s. contains s k) c.in-Ok.ensures.numbers) in
    added old new n v good.0 good.1 c.requires.whole c.requires.numbered c.requires.behind adds made

pub returns-in-Ok-clause-whole : goal.returns-in-Ok-clause-whole
returns-in-Ok-clause-whole c =
    let old = c.args.self.now in
    let n = c.args.n in
    let v = c.args.value.now in
    let good = IsAscending-one n v c.requires.number in
    let new : Elements = record { values = c.close.new.self.values; ends = c.close.new.self.ends; numbers = c.set.new.self } in
    let put = c.in_ok-extend_from_slice.ensures.items in
    let made : IsMadeOf new (old.ends.items ++ length (old.values.items ++ v) ∷ []) (old.values.items ++ v) = record {
      ends = c.in-Ok.ensures.ok.ends ∙ ap (λ l. old.ends.items ++ length l ∷ []) put;
      values = c.in-Ok.ensures.ok.values ∙ put;
    } in
    let adds : Adds old.numbers new.numbers n = (c.set.ensures.added, λ k other. c.set.ensures.others k other ∙ ap (λ s. contains s k) c.in-Ok.ensures.numbers) in
    added_whole old new n v good.0 good.1 c.requires.whole c.requires.numbered c.requires.behind adds made

pub returns-in-Ok-clause-numbered : goal.returns-in-Ok-clause-numbered
returns-in-Ok-clause-numbered c =
    let old = c.args.self.now in
    let n = c.args.n in
    let v = c.args.value.now in
    let good = IsAscending-one n v c.requires.number in
    let new : Elements = record { values = c.close.new.self.values; ends = c.close.new.self.ends; numbers = c.set.new.self } in
    let put = c.in_ok-extend_from_slice.ensures.items in
    let made : IsMadeOf new (old.ends.items ++ length (old.values.items ++ v) ∷ []) (old.values.items ++ v) = record {
      ends = c.in-Ok.ensures.ok.ends ∙ ap (λ l. old.ends.items ++ length l ∷ []) put;
      values = c.in-Ok.ensures.ok.values ∙ put;
    } in
    let adds : Adds old.numbers new.numbers n = (c.set.ensures.added, λ k other. c.set.ensures.others k other ∙ ap (λ s. contains s k) c.in-Ok.ensures.numbers) in
    let is = added old new n v good.0 good.1 c.requires.whole c.requires.numbered c.requires.behind adds made in
    λ k. numbered_behind old.numbers new.numbers n v (views old) c.requires.numbered adds k ∙ ap (λ es. has es k) (sym is)

-- where an end has no room, what was put behind the values is cut off again
cut_back : (c : goal.After-truncate) → IsSame c.args.self.now (record { values = c.truncate.new.self; ends = c.close.new.self.ends; numbers = c.close.new.self.numbers })
cut_back c =
    let old = c.args.self.now.values.items in
    let from : length old ≡ c.len-from.result = search rules in
    record {
      numbers = c.in-Err.ensures.numbers;
      ends = c.in-Err.ensures.err.ends;
      values = c.truncate.ensures.items ∙ ap (take c.len-from.result) (c.in-Err.ensures.err.values ∙ c.in_ok-extend_from_slice.ensures.items) ∙ take_at old c.args.value.now c.len-from.result from;
    }

pub returns-in-Err-clause-err : goal.returns-in-Err-clause-err
returns-in-Err-clause-err c = cut_back c

pub returns-in-Err-clause-whole : goal.returns-in-Err-clause-whole
returns-in-Err-clause-whole c = whole_same c.args.self.now _ (cut_back c) c.requires.whole

pub returns-in-Err-clause-numbered : goal.returns-in-Err-clause-numbered
returns-in-Err-clause-numbered c = numbered_same c.args.self.now _ (cut_back c) c.requires.numbered

-- and where the values have no room, all is as it was
left_alone : (c : goal.After-from_residual) → IsSame c.args.self.now (record { values = c.extend_from_slice.new.self; ends = c.args.self.now.ends; numbers = c.args.self.now.numbers })
left_alone c = record { numbers = refl; ends = refl; values = c.in_err-extend_from_slice.ensures.items }

pub returns-in_err-extend_from_slice-clause-err : goal.returns-in_err-extend_from_slice-clause-err
returns-in_err-extend_from_slice-clause-err c =
    let p = err_from_is_err_and c.from_residual.result c.from_residual.ensures.1 in
    rw p.1 (left_alone c)

pub returns-in_err-extend_from_slice-clause-whole : goal.returns-in_err-extend_from_slice-clause-whole
returns-in_err-extend_from_slice-clause-whole c = whole_same c.args.self.now _ (left_alone c) c.requires.whole

pub returns-in_err-extend_from_slice-clause-numbered : goal.returns-in_err-extend_from_slice-clause-numbered
returns-in_err-extend_from_slice-clause-numbered c = numbered_same c.args.self.now _ (left_alone c) c.requires.numbered
