use Rattle.std.proofs.Common.{Ok, ◌≤◌, ◌+◌, length, drop, ap, arith, refl, rules, ◌∙◌}
use Rattle.std.proofs.lemmas.List.{drop-drop, length-drop}
use Rattle.iso_parts.specs.Numbers.{members}
use Rattle.iso_wire.specs.Bodies.{AreWithin, FindsBodies, wires_at}
use Rattle.iso_wire.proofs.Wires.{found_first, found_next, few_left, left_ascend}
use Rattle.iso_wire.proofs.bodies.find_bodies.Goals as goal

pub loop-n-init : goal.loop-n-init
loop-n-init c = record {
  found = found_first c.args.table.now.rows c.args.bytes.now c.args.bodies.now (members c.args.numbers) c.args.start _ (left_ascend c.args.numbers) refl;
  left = c.split_at.ensures.back;
  room = c.requires.within;
  few = omega (arith, c.requires.early, few_left c.args.numbers);
  starts = search rules;
  sizes = search rules;
}

pub loop-n-preserved : goal.loop-n-preserved
loop-n-preserved c =
    let l = c.loop-n in
    let b = c.args.bytes.now in
    let read = rw l.invariant.left at c.in_ok-body.ensures.exact in
    let fewer = ap length c.in-Some.ensures in
    let room : l.at + c.in_ok-body.used ≤ length b = omega (arith, c.in_ok-body.ensures.room.1, ap length l.invariant.left, length-drop l.at b, l.invariant.room) in
    record {
      found = found_next c.args.table.now.rows c.args.start b l.bodies (members c.args.numbers) (members l.rest) (members c.take_first.new.self) read.1.0 c.in-Some.n l.at c.in_ok-body.body c.in_ok-body.used _ _ _ l.invariant.found c.in-Some.ensures l.invariant.starts l.invariant.sizes read.0 read.1.1 refl refl c.in_ok-body.ensures.room.0 room;
      left = c.split_at-in-Some.ensures.back ∙ ap (drop c.in_ok-body.used) l.invariant.left ∙ drop-drop c.in_ok-body.used l.at b;
      room = room;
      few = omega (arith, fewer, l.invariant.few, c.in_ok-body.ensures.few);
      starts = search rules;
      sizes = search rules;
    }

pub returns-clause-exact : goal.returns-clause-exact
returns-clause-exact c =
    let start = c.args.start in
    let b = c.args.bytes.now in
    let ns = members c.args.numbers in
    let found : FindsBodies b c.loop-n.bodies ns (Ok c.loop-n.at) (wires_at c.args.table.now.rows ns start (drop start b)) = search rules in
    found

pub returns-clause-within : goal.returns-clause-within
returns-clause-within c =
    let at = c.loop-n.at in
    let within : (at ≤ length c.args.bytes.now) × AreWithin at c.loop-n.bodies (members c.args.numbers) = search rules in
    within
