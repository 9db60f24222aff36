use Rattle.std.proofs.Common.{sym, ◌∙◌}
use Rattle.iso_issuer.specs.Journal.{undone_key}
use Rattle.iso_issuer.proofs.Touched.{apart-found}
use Rattle.iso_issuer.proofs.journal.Journal.ended_key.Goals as goal

pub returns-in-Some-reversed-clause-apart : goal.returns-in-Some-reversed-clause-apart
returns-in-Some-reversed-clause-apart c = λ q h.
    let r = c.in-Some-reversed.reversed in
    let e = c.effect_of.ensures in
    let classes = e.ends q (rw (← c.ended_by-in-Some-reversed.ensures) h) in
    apart-found c.args.self.now (undone_key c.args.order.now.act) r q (sym c.requires.reversed ∙ c.in-Some-reversed.is) classes.0 classes.1
