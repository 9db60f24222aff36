use Rattle.std.proofs.Common.{rules, ◌≡◌, ℕ, List, Some, subst, sym, refl}
use Rattle.iso_host.specs.declared.peer.PeerFault.TheVariants.{Memory}
use Rattle.iso_issuer.specs.Books.{Books}
use Rattle.iso_host.specs.Entering.{StaysWithout}
use Rattle.iso_host.specs.Peers.{one_peer}
use Rattle.iso_guard.specs.Guarding.{guard_of}
use Rattle.iso_guard.specs.Taking.{TakesGuarded}
use Rattle.iso_guard.proofs.Frames.{holds_nothing, frames_enter}
use Rattle.iso_guard.proofs.taking.take_held.Goals as goal

pub returns-then-is_err-clause-took : goal.returns-then-is_err-clause-took
returns-then-is_err-clause-took g c =
    let guard = guard_of c.args.link.now c.args.terms.now in
    let held = c.args.held.now.items in
    let waiting = c.args.waiting.now.items in
    let without = subst (λ (b : Books). StaysWithout b) c.issuer.ensures c.one_journal.ensures.none in
    let same : c.extend_from_slice.new.self.items ≡ held = search rules in
    rw c.turned.ensures (subst (λ (l : List ℕ). TakesGuarded guard (one_peer held c.args.host.now waiting) (one_peer l c.args.host.now waiting) c.args.bytes.now
    (record { used = 0; stopped = Some Memory })) (sym same) (holds_nothing guard held waiting c.args.bytes.now c.args.host.now c.args.host.now without refl))

pub returns-clause-allowed : goal.returns-clause-allowed
returns-clause-allowed g c =
    frames_enter (guard_of c.args.link.now c.args.terms.now) c.args.host.now c.take_frames-taken.new.host _ _ _ c.take_frames-taken.result c.one_journal.ensures.more
    c.take_frames-taken.ensures.took
