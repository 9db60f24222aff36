use Rattle.std.proofs.Common.{◌∷◌, ◌++◌, [], List, ℕ, length, drop, sym, ap, ◌∙◌, subst}
use Rattle.iso_parts.specs.Building.{IsPart}
use Rattle.iso_parts.specs.Reading.{part_at}
use Rattle.iso_wire.specs.Ends.{IsMadeOf}
use Rattle.iso_wire.proofs.Appends.{appended, awaits_less}
use Rattle.iso_wire.proofs.Built.{part_read, value_is}
use Rattle.iso_wire.proofs.building.append_element.Goals as goal

pub decode_judged-requires : goal.decode_judged-requires
decode_judged-requires c =
    let s = c.in-Some.row.now in
    let b : List ℕ = drop c.args.at c.args.bytes.now in
    subst (λ (l : List ℕ). IsPart (part_at s l)) (sym c.split_at.ensures.back) (part_read c.args.table.now.rows s c.args.n c.args.at b (sym c.in-Some.ensures.row) c.requires.read)

pub returns-clause-exact : goal.returns-clause-exact
returns-clause-exact c =
    let s = c.in-Some.row.now in
    let b : List ℕ = drop c.args.at c.args.bytes.now in
    let built = c.in_ok-used.ensures.exact in
    let old = c.args.elements.now in
    let part = ap (part_at s) (sym c.split_at.ensures.back) ∙ built.1 in
    let new = c.close.new.self in
    let made : IsMadeOf new (old.ends.items ++ length (old.values.items ++ built.0) ∷ []) (old.values.items ++ built.0) = record {
      ends = c.in_ok-close.ensures.ok.ends ∙ ap (λ l. old.ends.items ++ length l ∷ []) built.2;
      values = c.in_ok-close.ensures.ok.values ∙ built.2;
    } in
    (built.0, value_is c.args.table.now.rows s c.args.n c.args.at b built.0 c.in_ok-used.used (sym c.in-Some.ensures.row) part, appended old new c.args.n c.requires.awaits.0 built.0 c.requires.awaits.1 c.in_ok-close.ensures.numbers made)

pub returns-clause-awaits : goal.returns-clause-awaits
returns-clause-awaits c = λ later awaits.
    let built = c.in_ok-used.ensures.exact in
    let old = c.args.elements.now in
    let new = c.close.new.self in
    let made : IsMadeOf new (old.ends.items ++ length (old.values.items ++ built.0) ∷ []) (old.values.items ++ built.0) = record {
      ends = c.in_ok-close.ensures.ok.ends ∙ ap (λ l. old.ends.items ++ length l ∷ []) built.2;
      values = c.in_ok-close.ensures.ok.values ∙ built.2;
    } in
    awaits_less old new c.args.n later built.0 awaits c.in_ok-close.ensures.numbers made
