use Rattle.std.proofs.Common.{◌+◌, arith}
use Rattle.iso_issuer.proofs.Room.{near-more}
use Rattle.iso_issuer.proofs.posting.post_all.Goals as goal

pub post_touched-requires-clause-near : goal.post_touched-requires-clause-near
post_touched-requires-clause-near c = near-more 2999998 2999999 _ (omega arith) (c.post_at.ensures.near 2999997 c.requires.near)

pub post_touched-requires-2-clause-near : goal.post_touched-requires-2-clause-near
post_touched-requires-2-clause-near c = c.post_touched.ensures.near 2999998 (c.post_at.ensures.near 2999997 c.requires.near)

pub returns-clause-near : goal.returns-clause-near
returns-clause-near c = λ n near.
    near-more (n + 1 + 1 + 1) (n + 3) _ (omega arith) (c.post_touched-2.ensures.near (n + 1 + 1) (c.post_touched.ensures.near (n + 1) (c.post_at.ensures.near n near)))
