use Rattle.std.proofs.Common.{◌≡◌, sym, arith, ◌<◌, ◌≤◌, length}
use Rattle.std.proofs.lemmas.Grind.{common_steps}
use Rattle.std.proofs.lemmas.Option.{slice_get_past}
use Rattle.iso_issuer.specs.Index.{entries_from}
use Rattle.iso_issuer.proofs.Stored.{length-entries}
use Rattle.iso_issuer.proofs.journal.Journal.entry.Goals as goal

pub at-requires : goal.at-requires
at-requires c =
    let i = c.self.inside in
    let count : c.len.result ≡ length i.orders.items = grind (arith, common_steps) in
    let below : c.args.place < length (entries_from 0 i.orders.items i.codes.items i.shown) = omega (arith, count, length-entries 0 i.orders.items i.codes.items i.shown c.self.invariant.0.coded) in
    rw (← c.self.view_is) below

pub returns-else-place-len : goal.returns-else-place-len
returns-else-place-len c =
    let i = c.self.inside in
    let es = entries_from 0 i.orders.items i.codes.items i.shown in
    let count : c.len.result ≡ length i.orders.items = grind (arith, common_steps) in
    let past : length es ≤ c.args.place = omega (arith, count, length-entries 0 i.orders.items i.codes.items i.shown c.self.invariant.0.coded) in
    rw (← c.self.view_is) (sym (slice_get_past es c.args.place past))
