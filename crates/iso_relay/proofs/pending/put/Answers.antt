use Rattle.std.proofs.Common.{◌∙◌, sym, arith}
use Rattle.iso_relay.proofs.Decided.{put-there, push-ends, push-stays, pushed}
use Rattle.iso_relay.proofs.pending.put.Goals as goal

pub returns-in-Some-clause-put : goal.returns-in-Some-clause-put
returns-in-Some-clause-put c =
    put-there c.args.entry c.args.entries.now.items c.in-Some.place c.requires.short
    (sym (rw c.deref.ensures.value at c.in-Some.ensures.place))

pub returns-then-len-gt-MOST_PENDING-clause-put : goal.returns-then-len-gt-MOST_PENDING-clause-put
returns-then-len-gt-MOST_PENDING-clause-put c =
    push-ends c.args.entry c.args.entries.now.items c.push.new.self.items c.remove.new.self.items
    (sym (rw c.deref.ensures.value at c.place_of.ensures.place) ∙ c.in-None.is) c.requires.short
    (pushed c.push.result c.args.entry c.args.entries.now.items c.push.new.self.items c.if-is_err.ensures.value c.push.ensures.items)
    (omega (arith, c.len.ensures, c.if-len-gt-MOST_PENDING.true)) c.remove.ensures.items

pub returns-else-len-gt-MOST_PENDING-clause-put : goal.returns-else-len-gt-MOST_PENDING-clause-put
returns-else-len-gt-MOST_PENDING-clause-put c =
    push-stays c.args.entry c.args.entries.now.items c.push.new.self.items
    (sym (rw c.deref.ensures.value at c.place_of.ensures.place) ∙ c.in-None.is)
    (pushed c.push.result c.args.entry c.args.entries.now.items c.push.new.self.items c.if-is_err.ensures.value c.push.ensures.items)
    (omega (arith, c.len.ensures, c.if-len-gt-MOST_PENDING.false))
