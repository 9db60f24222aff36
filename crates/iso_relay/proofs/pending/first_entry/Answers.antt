use Rattle.std.proofs.Common.{◌≡◌, ◌∙◌, ap, sym, length, arith}
use Rattle.std.proofs.lemmas.List.{same_lists}
use Rattle.std.proofs.lemmas.List.FromFn.{get_or-map-range_with_len, length-map-range_with_len}
use Rattle.iso_front.specs.Gathering.{at_first}
use Rattle.iso_relay.specs.Entries.{entry, first_heard}
use Rattle.iso_relay.proofs.pending.first_entry.Goals as goal

pub returns : goal.returns
returns c =
    let f = at_first c.args.route.now c.args.count in
    let long : length c.new.result.heard ≡ 64 = c.with_heard.ensures.whole in
    let same : c.new.result.heard ≡ first_heard c.args.route.now c.args.count =
    same_lists c.new.result.heard (first_heard c.args.route.now c.args.count)
    (long ∙ sym (length-map-range_with_len f 0 64))
    (λ k d below. c.new.ensures k d (rw long at below)
    ∙ sym (get_or-map-range_with_len f 0 64 k k d (rw long at below) (omega arith)))
    in c.with_heard.ensures.made ∙ ap (λ h. entry c.args.key h) same
