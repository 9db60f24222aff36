use Rattle.std.proofs.Common.{sym, ap, ◌∙◌, not}
use Rattle.std.specs.Prelude.{◌==◌, ◌&&◌}
use Rattle.iso_issuer.specs.declared.journal.Entry.{Entry}
use Rattle.iso_issuer.specs.Effect.{effect_of, is_end_of}
use Rattle.iso_issuer.specs.Journal.{is_counted}
use Rattle.iso_issuer.specs.Index.{entries_from}
use Rattle.iso_issuer.proofs.Completions.{any-counted}
use Rattle.iso_issuer.proofs.journal.Journal.is_completed.Goals as goal

pub returns : goal.returns
returns c =
    let i = c.self.inside in
    let es = entries_from 0 i.orders.items i.codes.items i.shown in
    rw (← c.self.view_is)
    (ap (λ n. not (n == 0)) (c.count.ensures ∙ c.self.invariant.0.indexed.counts c.args.key c.args.pan)
    ∙ sym (any-counted (λ (x : Entry). is_counted es x && is_end_of c.args.key c.args.pan (effect_of x.order)) es))
