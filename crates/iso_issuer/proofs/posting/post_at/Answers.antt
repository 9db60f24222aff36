use Rattle.std.proofs.Common.{◌∙◌}
use Rattle.iso_issuer.specs.Balances.{accounts_of}
use Rattle.iso_issuer.specs.Index.{account_place}
use Rattle.iso_issuer.proofs.Room.{near-posted}
use Rattle.iso_issuer.proofs.Summed.{posted-moved, kept-moved}
use Rattle.iso_issuer.proofs.Seen.{place-told}
use Rattle.iso_issuer.proofs.posting.post_at.Goals as goal

pub post-requires-clause-place : goal.post-requires-clause-place
post-requires-clause-place c =
    place-told c.args.effect.now c.in-Some.change.pan c.args.place (account_place (accounts_of c.args.balances.now)) c.in-Some.ensures.pan c.requires.place

pub returns-in-Some-clause-moved : goal.returns-in-Some-clause-moved
returns-in-Some-clause-moved c =
    let e = c.in-Some.ensures in
    c.post.ensures ∙ posted-moved c.in-Some.change c.args.effect.now c.args.before c.args.after e.ledger e.available c.args.balances.now

pub returns-in-Some-clause-near : goal.returns-in-Some-clause-near
returns-in-Some-clause-near c = λ n near.
    rw c.post.ensures (near-posted n c.in-Some.change c.args.balances.now near)

pub returns-in_default-clause-moved : goal.returns-in_default-clause-moved
returns-in_default-clause-moved c =
    let e = c.in_default.ensures in
    kept-moved c.args.effect.now c.args.before c.args.after e.ledger e.available c.args.balances.now
