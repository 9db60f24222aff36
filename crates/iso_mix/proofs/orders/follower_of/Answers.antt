use Rattle.std.proofs.Common.{sym, ◌∙◌}
use Rattle.iso_mix.proofs.Began.{follower-made}
use Rattle.iso_mix.proofs.orders.follower_of.Goals as goal

pub returns : goal.returns
returns c =
    follower-made c.args.kind c.args.draft.now c.args.hold.now c.args.stan c.follower_base.result c.in_ok-act.act c.new.result
    (sym c.follower_act.ensures ∙ c.in_ok-act.was) c.follower_base.ensures c.new.ensures
