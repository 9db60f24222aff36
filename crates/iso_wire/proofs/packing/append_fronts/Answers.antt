use Rattle.std.proofs.Common.{◌≡◌, ◌∷◌, ◌++◌, List, ℕ, length, refl, ap, subst, sym, ◌∙◌, arith, rules}
use Rattle.std.specs.List.{flat_map}
use Rattle.std.specs.Option.{option_or}
use Rattle.iso_parts.specs.Numbers.{members}
use Rattle.iso_wire.specs.Ends.{elements_of, Ascend}
use Rattle.iso_wire.specs.Packing.{between}
use Rattle.iso_wire.specs.Refusal.{first_refusal}
use Rattle.iso_wire.specs.Spelling.{plain_of, Parts}
use Rattle.iso_wire.proofs.Buffers.{ascend_le}
use Rattle.iso_wire.proofs.Orders.{Values}
use Rattle.iso_wire.proofs.Packs.{kept_twice}
use Rattle.iso_wire.proofs.Adjacent.{one_more}
use Rattle.iso_wire.proofs.packing.append_fronts.Goals as goal

pub append_part-requires-clause-within : goal.append_part-requires-clause-within
append_part-requires-clause-within c =
    let end = c.in-Some.end.now in
    let later = c.in-Some.later.now in
    let is : c.loop-end.rest.now ≡ end ∷ later = search rules in
    let own = subst (λ (l : List ℕ). Ascend c.loop-end.at l (length c.args.values.now)) is c.loop-end.invariant.ascend in
    ascend_le end (length c.args.values.now) later own.1

pub loop-end-preserved : goal.loop-end-preserved
loop-end-preserved c =
    let inv = c.loop-end.invariant in
    let rows = c.args.table.now.rows in
    let f = plain_of rows in
    let values = c.args.values.now in
    let end = c.in-Some.end.now in
    let later = c.in-Some.later.now in
    let n = c.in-Some-take_first.n in
    let at = c.loop-end.at in
    let is : c.loop-end.rest.now ≡ end ∷ later = search rules in
    let ns : members c.loop-end.left ≡ n ∷ members c.take_first.new.self = search rules in
    let own = subst (λ (l : List ℕ). Ascend at l (length values)) is inv.ascend in
    let todo = elements_of (members c.take_first.new.self) end later values in
    let head : elements_of (members c.loop-end.left) at c.loop-end.rest.now values ≡ (n, between values at end) ∷ todo =
    ap (λ (l : List ℕ). elements_of l at c.loop-end.rest.now values) ns ∙ ap (λ (l : List ℕ). elements_of (n ∷ members c.take_first.new.self) at l values) is in
    let step = c.in-Ok.ensures.written in
    let all : List ℕ = c.args.out.now.items ++ flat_map f (elements_of (members c.args.numbers) 0 c.args.ends.now values) in
    let part = f (n, between values at end) in
    record {
      written = one_more all c.loop-end.out.items c.append_part.new.out.items values part (flat_map f todo) c.loop-end.from at end c.in-Ok.next step.1 (ap (λ (es : Values). c.loop-end.out.items ++ (between values c.loop-end.from at ++ flat_map f es)) (sym head) ∙ inv.written);
      order = step.0;
      ascend = own.1;
      count = omega (arith, inv.count, ap (λ (l : List ℕ). length l) is, ap (λ (l : List ℕ). length l) ns);
      spelled = λ parts. inv.spelled (subst (λ (es : Values). Parts rows es (flat_map f es)) (sym head) (part, flat_map f todo, c.in-Ok.ensures.spelled, parts, refl));
      judged = sym (ap (λ o. option_or o (first_refusal rows todo)) c.in-Ok.ensures.fits) ∙ sym (ap (first_refusal rows) head) ∙ inv.judged;
      kept = kept_twice c.args.out.now.items c.loop-end.out.items c.append_part.new.out.items inv.kept c.in-Ok.ensures.kept;
    }
