use Rattle.std.proofs.Common.{◌+◌, ◌^◌, ◌<◌, ◌≤◌, length, arith, rules}
use Rattle.sqlite_disk.specs.Disk.{Holds, Torn, Mixed, Follows}
use Rattle.iso_gather.proofs.Gathering.{written, torn_again, left_torn}
use Rattle.iso_gather.proofs.gathered.GatheredDisk.flush.Goals as goal

pub returns-in_err-write_at-clause-seen : goal.returns-in_err-write_at-clause-seen
returns-in_err-write_at-clause-seen g c =
    let s = c.args.self.now in
    let some : 0 < length s.waiting.items = search rules in
    let within : s.at ≤ length (g.D.Disk.seen s.inner) = omega (arith, s.within, s.starts some) in
    let torn : Torn s.at (length s.waiting.items) (g.D.Disk.seen s.inner) (g.D.Disk.seen c.write_at.new.self) = search rules in
    torn_again s.at s.waiting.items _ _ within some torn

pub returns-in_err-write_at-clause-left : goal.returns-in_err-write_at-clause-left
returns-in_err-write_at-clause-left g c left may =
    let s = c.args.self.now in
    let some : 0 < length s.waiting.items = search rules in
    let fits : s.at + length s.waiting.items < 2 ^ 64 = s.ends in
    let mixed : Follows (Mixed s.at s.waiting.items) (g.D.Disk.may_leave s.inner) (g.D.Disk.may_leave c.write_at.new.self) =
    rw c.deref.ensures.value at (c.write_at.ensures.mixed (s.mixed some)) fits in
    left_torn s.at _ _ s.waiting.items some mixed left may

pub returns-clause-seen : goal.returns-clause-seen
returns-clause-seen g c =
    let s = c.args.self.now in
    let some : 0 < length s.waiting.items = search rules in
    let within : s.at ≤ length (g.D.Disk.seen s.inner) = omega (arith, s.within, s.starts some) in
    let torn : Torn s.at (length s.waiting.items) (g.D.Disk.seen s.inner) (g.D.Disk.seen c.write_at.new.self) = search rules in
    let holds : Holds (g.D.Disk.seen c.write_at.new.self) s.at s.waiting.items = rw c.deref.ensures.value at (c.in_ok-write_at.ensures.written) some in
    rw c.clear.ensures.items (written s.at s.waiting.items _ _ within some torn holds)
