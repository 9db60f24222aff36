use Rattle.std.proofs.Common.{◌≡◌, sym, ◌∙◌, arith, length}
use Rattle.std.proofs.lemmas.Grind.{common_steps}
use Rattle.iso_issuer.proofs.Stored.{length-entries}
use Rattle.iso_issuer.proofs.journal.Journal.len.Goals as goal

pub returns : goal.returns
returns c =
    let i = c.self.inside in
    let count : c.len.result ≡ length i.orders.items = grind (arith, common_steps) in
    rw (← c.self.view_is) (count ∙ sym (length-entries 0 i.orders.items i.codes.items i.shown c.self.invariant.0.coded))
