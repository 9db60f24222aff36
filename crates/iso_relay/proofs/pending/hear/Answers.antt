use Rattle.std.proofs.Common.{◌∙◌, sym, ap, set}
use Rattle.iso_front.specs.declared.gathering.Joint.TheVariants.{Waits, Same, Differ}
use Rattle.iso_front.specs.Gathering.{joint}
use Rattle.iso_relay.specs.Entries.{entry, put}
use Rattle.iso_relay.proofs.Decided.{none-placed, not-asked, was-asked, set-is, taken-is}
use Rattle.iso_relay.proofs.pending.hear.Goals as goal

pub returns-in_default-clause-decided : goal.returns-in_default-clause-decided
returns-in_default-clause-decided c =
    (none-placed c.args.shard c.args.key.now c.args.code c.args.entries.now.items
    (sym (rw c.deref.ensures.value at c.place_of.ensures.place) ∙ c.in_default.is)).decided

pub returns-in_default-clause-left : goal.returns-in_default-clause-left
returns-in_default-clause-left c =
    (none-placed c.args.shard c.args.key.now c.args.code c.args.entries.now.items
    (sym (rw c.deref.ensures.value at c.place_of.ensures.place) ∙ c.in_default.is)).left

pub returns-then-not-is_asked-clause-decided : goal.returns-then-not-is_asked-clause-decided
returns-then-not-is_asked-clause-decided c =
    (not-asked c.args.shard c.args.key.now c.args.code c.args.entries.now.items c.in-Some.place c.index.result.now
    (sym (rw c.deref.ensures.value at c.in-Some.ensures.place)) c.index.ensures (sym c.is_asked.ensures ∙ c.if-not-is_asked.true)).decided

pub returns-then-not-is_asked-clause-left : goal.returns-then-not-is_asked-clause-left
returns-then-not-is_asked-clause-left c =
    (not-asked c.args.shard c.args.key.now c.args.code c.args.entries.now.items c.in-Some.place c.index.result.now
    (sym (rw c.deref.ensures.value at c.in-Some.ensures.place)) c.index.ensures (sym c.is_asked.ensures ∙ c.if-not-is_asked.true)).left

pub returns-in-Waits-clause-decided : goal.returns-in-Waits-clause-decided
returns-in-Waits-clause-decided c =
    (was-asked Waits c.args.shard c.args.key.now c.args.code c.args.entries.now.items (set c.args.entries.now.items c.in-Some.place c.with_heard.result) c.in-Some.place c.index.result.now
    (sym (rw c.deref.ensures.value at c.in-Some.ensures.place)) c.index.ensures (sym c.is_asked.ensures ∙ c.if-not-is_asked.false)
    (ap (λ h. joint c.args.code h) (sym c.with-heard.ensures) ∙ sym c.joint.ensures.value ∙ c.in-Waits.is)
    (ap (λ e. set c.args.entries.now.items c.in-Some.place e) c.with_heard.ensures.made
    ∙ set-is c.args.key.now c.args.entries.now.items c.in-Some.place c.with-heard.result
    (sym (rw c.deref.ensures.value at c.in-Some.ensures.place))
    ∙ ap (λ h. put (entry c.args.key.now h) c.args.entries.now.items) c.with-heard.ensures)).decided

pub returns-in-Waits-clause-left : goal.returns-in-Waits-clause-left
returns-in-Waits-clause-left c =
    (was-asked Waits c.args.shard c.args.key.now c.args.code c.args.entries.now.items (set c.args.entries.now.items c.in-Some.place c.with_heard.result) c.in-Some.place c.index.result.now
    (sym (rw c.deref.ensures.value at c.in-Some.ensures.place)) c.index.ensures (sym c.is_asked.ensures ∙ c.if-not-is_asked.false)
    (ap (λ h. joint c.args.code h) (sym c.with-heard.ensures) ∙ sym c.joint.ensures.value ∙ c.in-Waits.is)
    (ap (λ e. set c.args.entries.now.items c.in-Some.place e) c.with_heard.ensures.made
    ∙ set-is c.args.key.now c.args.entries.now.items c.in-Some.place c.with-heard.result
    (sym (rw c.deref.ensures.value at c.in-Some.ensures.place))
    ∙ ap (λ h. put (entry c.args.key.now h) c.args.entries.now.items) c.with-heard.ensures)).left

pub returns-in-Same-clause-decided : goal.returns-in-Same-clause-decided
returns-in-Same-clause-decided c =
    (was-asked Same c.args.shard c.args.key.now c.args.code c.args.entries.now.items c.remove.new.self.items c.in-Some.place c.index.result.now
    (sym (rw c.deref.ensures.value at c.in-Some.ensures.place)) c.index.ensures (sym c.is_asked.ensures ∙ c.if-not-is_asked.false)
    (ap (λ h. joint c.args.code h) (sym c.with-heard.ensures) ∙ sym c.joint.ensures.value ∙ c.in-Same.is)
    (c.remove.ensures.items ∙ taken-is c.args.key.now c.args.entries.now.items c.in-Some.place
    (sym (rw c.deref.ensures.value at c.in-Some.ensures.place)))).decided

pub returns-in-Same-clause-left : goal.returns-in-Same-clause-left
returns-in-Same-clause-left c =
    (was-asked Same c.args.shard c.args.key.now c.args.code c.args.entries.now.items c.remove.new.self.items c.in-Some.place c.index.result.now
    (sym (rw c.deref.ensures.value at c.in-Some.ensures.place)) c.index.ensures (sym c.is_asked.ensures ∙ c.if-not-is_asked.false)
    (ap (λ h. joint c.args.code h) (sym c.with-heard.ensures) ∙ sym c.joint.ensures.value ∙ c.in-Same.is)
    (c.remove.ensures.items ∙ taken-is c.args.key.now c.args.entries.now.items c.in-Some.place
    (sym (rw c.deref.ensures.value at c.in-Some.ensures.place)))).left

pub returns-in-Differ-clause-decided : goal.returns-in-Differ-clause-decided
returns-in-Differ-clause-decided c =
    (was-asked Differ c.args.shard c.args.key.now c.args.code c.args.entries.now.items c.remove-in-Differ.new.self.items c.in-Some.place c.index.result.now
    (sym (rw c.deref.ensures.value at c.in-Some.ensures.place)) c.index.ensures (sym c.is_asked.ensures ∙ c.if-not-is_asked.false)
    (ap (λ h. joint c.args.code h) (sym c.with-heard.ensures) ∙ sym c.joint.ensures.value ∙ c.in-Differ.is)
    (c.remove-in-Differ.ensures.items ∙ taken-is c.args.key.now c.args.entries.now.items c.in-Some.place
    (sym (rw c.deref.ensures.value at c.in-Some.ensures.place)))).decided

pub returns-in-Differ-clause-left : goal.returns-in-Differ-clause-left
returns-in-Differ-clause-left c =
    (was-asked Differ c.args.shard c.args.key.now c.args.code c.args.entries.now.items c.remove-in-Differ.new.self.items c.in-Some.place c.index.result.now
    (sym (rw c.deref.ensures.value at c.in-Some.ensures.place)) c.index.ensures (sym c.is_asked.ensures ∙ c.if-not-is_asked.false)
    (ap (λ h. joint c.args.code h) (sym c.with-heard.ensures) ∙ sym c.joint.ensures.value ∙ c.in-Differ.is)
    (c.remove-in-Differ.ensures.items ∙ taken-is c.args.key.now c.args.entries.now.items c.in-Some.place
    (sym (rw c.deref.ensures.value at c.in-Some.ensures.place)))).left
