use Rattle.std.proofs.Common.{drop, ap, subst, ◌∙◌}
use Rattle.std.proofs.lemmas.List.{drop-drop}
use Rattle.iso_parts.specs.Bitmap.{contains}
use Rattle.iso_wire.specs.Ends.{views, Awaits}
use Rattle.iso_parts.specs.Numbers.{members}
use Rattle.iso_wire.proofs.Built.{first_read}
use Rattle.iso_wire.proofs.ElementLaws.{numbers_read}
use Rattle.iso_wire.proofs.Appends.{awaits_none}
use Rattle.iso_wire.proofs.Loop.{goes_on, is_done}
use Rattle.iso_wire.proofs.Numbered.{numbered_members}
use Rattle.iso_wire.proofs.building.build_elements.Goals as goal

pub loop-n-preserved : goal.loop-n-preserved
loop-n-preserved c =
    let read = c.in_ok-used.ensures.exact in
    let at = c.loop-n.at in
    let used = c.in_ok-used.used in
    let behind = drop-drop used at c.args.bytes.now in
    rw (read.2, ← behind) (record {
      read = goes_on c.args.table.now.rows (views c.loop-n.elements) (members c.loop-n.rest) (members c.take_first.new.self) c.in-Some.n at (drop at c.args.bytes.now) (read.0, used) _ c.in-Some.ensures read.1 c.loop-n.invariant.read;
      room = c.in_ok-used.ensures.room;
      numbers = c.in_ok-used.ensures.kept ∙ c.loop-n.invariant.numbers;
      awaits = c.in_ok-used.ensures.awaits (members c.take_first.new.self) (subst (λ l. Awaits c.loop-n.elements l) c.in-Some.ensures c.loop-n.invariant.awaits);
    })

pub returns-clause-numbered : goal.returns-clause-numbered
returns-clause-numbered c =
    let rows = c.args.table.now.rows in
    let numbers = c.args.numbers in
    let es = views c.loop-n.elements in
    let total = is_done rows es (members c.loop-n.rest) c.loop-n.at (drop c.loop-n.at c.args.bytes.now) _ c.in_default.ensures.0 c.loop-n.invariant.read in
    let numbered = numbered_members numbers es c.requires.elements (numbers_read rows (members numbers) c.args.start (drop c.args.start c.args.bytes.now) es c.loop-n.at total) in
    λ k. ap (λ s. contains s k) c.loop-n.invariant.numbers ∙ numbered k

pub append_element-requires-clause-awaits : goal.append_element-requires-clause-awaits
append_element-requires-clause-awaits c = (members c.take_first.new.self, subst (λ l. Awaits c.loop-n.elements l) c.in-Some.ensures c.loop-n.invariant.awaits)

pub returns-clause-whole : goal.returns-clause-whole
returns-clause-whole c = awaits_none c.loop-n.elements (subst (λ l. Awaits c.loop-n.elements l) c.in_default.ensures.0 c.loop-n.invariant.awaits)

pub returns-clause-exact : goal.returns-clause-exact
returns-clause-exact c =
    is_done c.args.table.now.rows (views c.loop-n.elements) (members c.loop-n.rest) c.loop-n.at (drop c.loop-n.at c.args.bytes.now) _
    c.in_default.ensures.0 c.loop-n.invariant.read

pub append_element-requires-clause-read : goal.append_element-requires-clause-read
append_element-requires-clause-read c =
    let at = c.loop-n.at in
    first_read c.args.table.now.rows (views c.loop-n.elements) (members c.loop-n.rest) (members c.take_first.new.self) c.in-Some.n at (drop at c.args.bytes.now) _ c.in-Some.ensures c.loop-n.invariant.read c.requires.read
