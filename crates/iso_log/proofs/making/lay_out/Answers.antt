use Rattle.std.proofs.Common.{◌≡◌, ◌∙◌, ◌*◌, sym, refl, arith, ap, length}
use Rattle.iso_log.specs.Log.{IsFile}
use Rattle.iso_log.proofs.Crash.{left_same, leaves_all}
use Rattle.iso_log.proofs.Laid.{new_file}
use Rattle.iso_log.proofs.making.lay_out.Goals as goal

pub returns-clause-log : goal.returns-clause-log
returns-clause-log g c = λ clean.
    let seen = g.D.Disk.seen c.sync.new.self in
    let e = c.in-Ok-sync.ensures in
    let len = c.in-Ok.ensures.len (sym c.lay_zeros.ensures.clean ∙ e.clean clean) in
    let same = ap length c.len.ensures.seen in
    let none : length (g.D.Disk.seen c.len.new.self) ≡ 128 * 0 = omega (arith, len, same, c.if-len-gt0.false) in
    let file : IsFile c.args.slots 0 seen = rw e.seen (new_file c.args.slots (g.D.Disk.seen c.len.new.self) (g.D.Disk.seen c.lay_zeros.new.disk) (c.in_ok-lay_zeros.ensures.laid none)) in
    record {
      usable = rw e.usable refl;
      small = c.requires.small;
      file = file;
      some = omega arith;
      left = λ kept here. left_same (128 * 0) seen kept (e.durable kept here ∙ sym e.seen);
      leaves = λ kept here. leaves_all c.args.slots 0 seen kept file (e.durable kept here ∙ sym e.seen);
    }
