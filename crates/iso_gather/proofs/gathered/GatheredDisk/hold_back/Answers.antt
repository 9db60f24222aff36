use Rattle.std.proofs.Common.{◌≡◌, ◌+◌, ◌<◌, ◌≤◌, ◌++◌, length, refl, arith, rules, ◌-◌}
use Rattle.iso_gather.proofs.Gathering.{joined, held_holds, held_torn, held_left}
use Rattle.iso_gather.proofs.gathered.GatheredDisk.hold_back.Goals as goal

pub returns-clause-seen : goal.returns-clause-seen
returns-clause-seen g c =
    let s = c.args.self.now in
    let some : 0 < length c.args.bytes.now = search rules in
    let next : 0 < length s.waiting.items → c.args.at ≡ s.at + length s.waiting.items = λ h. c.if-not-joins.ensures.next refl h in
    let first : length s.waiting.items ≡ 0 → c.args.at ≤ s.known = λ h. c.if-not-joins.ensures.first refl h in
    let places = joined s.at s.known c.args.at (length s.waiting.items) next first s.starts in
    let items : c.extend_from_slice.new.self.items ≡ s.waiting.items ++ c.args.bytes.now = search rules in
    let len : c.len.result ≡ length s.waiting.items = search rules in
    rw (items, len) (held_holds (c.args.at - length s.waiting.items) c.args.at s.waiting.items c.args.bytes.now (g.D.Disk.seen s.inner) places.0 some)

pub returns-clause-others : goal.returns-clause-others
returns-clause-others g c =
    let s = c.args.self.now in
    let some : 0 < length c.args.bytes.now = search rules in
    let next : 0 < length s.waiting.items → c.args.at ≡ s.at + length s.waiting.items = λ h. c.if-not-joins.ensures.next refl h in
    let first : length s.waiting.items ≡ 0 → c.args.at ≤ s.known = λ h. c.if-not-joins.ensures.first refl h in
    let places = joined s.at s.known c.args.at (length s.waiting.items) next first s.starts in
    let items : c.extend_from_slice.new.self.items ≡ s.waiting.items ++ c.args.bytes.now = search rules in
    let len : c.len.result ≡ length s.waiting.items = search rules in
    let within : c.args.at - length s.waiting.items ≤ length (g.D.Disk.seen s.inner) = omega (arith, s.within, places.2) in
    rw (items, len) (held_torn s.at (c.args.at - length s.waiting.items) c.args.at s.waiting.items c.args.bytes.now (g.D.Disk.seen s.inner) places.0 places.1 some within)

pub returns-clause-mixed : goal.returns-clause-mixed
returns-clause-mixed g c =
    let s = c.args.self.now in
    let some : 0 < length c.args.bytes.now = search rules in
    let next : 0 < length s.waiting.items → c.args.at ≡ s.at + length s.waiting.items = λ h. c.if-not-joins.ensures.next refl h in
    let first : length s.waiting.items ≡ 0 → c.args.at ≤ s.known = λ h. c.if-not-joins.ensures.first refl h in
    let places = joined s.at s.known c.args.at (length s.waiting.items) next first s.starts in
    let items : c.extend_from_slice.new.self.items ≡ s.waiting.items ++ c.args.bytes.now = search rules in
    let len : c.len.result ≡ length s.waiting.items = search rules in
    rw (items, len) (held_left s.at (c.args.at - length s.waiting.items) c.args.at s.waiting.items c.args.bytes.now (g.D.Disk.may_leave s.inner) places.0 places.1 some)
