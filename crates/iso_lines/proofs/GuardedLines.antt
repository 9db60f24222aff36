-- What is heard of a peer of a guarded line.
use Rattle.std.proofs.Common.{◌≡◌, ◌∙◌, ◌++◌, ℕ, Bool, true, false, inl, inr, refl, sym, ap, subst, List, drop, append_assoc, append-nil}
use Rattle.std.specs.Prelude.{Option, Some, None, Result, Ok, Err, IfOk, OnErr}
use Rattle.iso_wire.specs.FrameLaws.{FrameLaws}
use Rattle.iso_wire.specs.Framing.{frame_of, frames_of}
use Rattle.iso_issuer.specs.Books.{Books}
use Rattle.iso_host.specs.Entering.{books_after_bodies, BodiesGoOn, StaysWithout}
use Rattle.iso_host.specs.declared.peer.PeerFault.{PeerFault}
use Rattle.iso_host.specs.declared.peer.PeerFault.TheVariants as fault
use Rattle.iso_peers.specs.Turn.{books_change}
use Rattle.iso_peers.specs.declared.turn.Turned.{Turned}
use Rattle.iso_guard.specs.Guarding.{Guard, GuardedState}
use Rattle.iso_guard.specs.Entering.{entering_of, books_after_guarded}
use Rattle.iso_guard.specs.Taking.{TakesGuarded, StopsGuarded, guarded_at}
use Rattle.iso_durable.specs.declared.log.LogFailed.{LogFailed}
use Rattle.iso_lines.specs.declared.line.Line.{Line}
use Rattle.iso_lines.specs.declared.peer.Peer.{Peer}
use Rattle.iso_lines.specs.declared.standing.Closing.{Closing}
use Rattle.iso_lines.specs.Guarded.{guard_at, is_guarded}
use Rattle.iso_lines.specs.Hearing.{growth, Dealing, dealing_by, dealing_of, HearsBytes, ended_of, ended_after}
use Rattle.iso_lines.proofs.Turns.{ended_goes_on}
use Rattle.iso_lines.proofs.Taken.{Made, made_all, made_one_more, made_heard, split_at, no_both}

pub made_guarded : (key : ℕ) (old new : GuardedState) (before after : Books) (bytes : List ℕ) (turned : Turned) (e0 e1 : Option Closing) → FrameLaws → BodiesGoOn → StaysWithout before
    → TakesGuarded old.guard (guarded_at old before) (guarded_at new after) bytes turned → e0 ≡ None → e1 ≡ ended_of e0 turned.stopped
    → Made key old.guard old.held new.held old.waiting new.waiting e0 e1 before after bytes
made_guarded key old new before after bytes turned e0 e1 joins law without took none ends =
    go turned.stopped took.stops ends
  where
    g : Guard
    g = old.guard

    rest : List ℕ
    rest = drop turned.used bytes

    front : old.held ++ bytes ≡ frames_of old.guard.header took.bodies ++ (new.held ++ drop turned.used bytes)
    front = split_at old.held bytes new.held old.guard.header took.bodies turned.used took.joined

    same : (why : Closing) → e1 ≡ Some why → after ≡ books_after_guarded old.guard before took.bodies
        → Made key old.guard old.held new.held old.waiting new.waiting e0 e1 before after bytes
    same why some is =
        made_all key old.guard old.held new.held old.waiting new.waiting e0 e1 before after bytes (new.held ++ drop turned.used bytes) took.bodies took.answers law (without old.guard.table)
        front took.fit took.output took.waits is none (λ is_none. absurd (ended_goes_on why (sym some ∙ is_none)))

    go : (s : Option PeerFault) → StopsGuarded old.guard new.held (drop turned.used bytes) (books_change (books_after_guarded old.guard before took.bodies) after) s → e1 ≡ ended_of e0 s
        → Made key old.guard old.held new.held old.waiting new.waiting e0 e1 before after bytes
    go None stops ends =
        made_all key old.guard old.held new.held old.waiting new.waiting e0 e1 before after bytes new.held took.bodies took.answers law (without old.guard.table)
        (front ∙ ap (λ (l : List ℕ). frames_of old.guard.header took.bodies ++ l) (ap (λ (l : List ℕ). new.held ++ l) stops.0 ∙ append-nil new.held))
        took.fit took.output took.waits stops.2 none (λ is_none. (refl, stops.1))
    go (Some fault.BadHeader) stops ends = same _ ends stops.2
    go (Some fault.Memory) (inl is) ends = same _ ends is
    go (Some fault.Memory) (inr (body, more, is, fits, inl stays)) ends = same _ ends stays
    go (Some fault.Memory) (inr (body, more, is, fits, inr enters)) ends =
        made_one_more key old.guard old.held new.held old.waiting new.waiting e0 e1 before after bytes (more ++ drop turned.used bytes) took.bodies body took.answers joins law
        (without old.guard.table)
        (front ∙ ap (λ (l : List ℕ). frames_of old.guard.header took.bodies ++ l)
        (ap (λ (l : List ℕ). l ++ drop turned.used bytes) is ∙ append_assoc (frame_of old.guard.header body) more (drop turned.used bytes)))
        took.fit fits took.output took.waits
        (enters ∙ ap (books_after_bodies old.guard.table (books_after_guarded old.guard before took.bodies)) (sym (append-nil (entering_of old.guard body))))
        none (λ is_none. ended_goes_on _ (sym ends ∙ is_none))

-- what was taken is heard
pub guarded_heard : {S : Type 0} (key : ℕ) (p q : Peer S) (before after : Books) (bytes : List ℕ) (r : Result Turned LogFailed) (failed : Bool) → FrameLaws → BodiesGoOn → StaysWithout before
    → is_guarded p.line.terms.now ≡ true → q.line ≡ p.line → IfOk r (TakesGuarded p.guarded.guard (guarded_at p.guarded before) (guarded_at q.guarded after) bytes) → OnErr r (failed ≡ true) → failed ≡ false
    → p.standing.ended ≡ None → q.standing.ended ≡ ended_after p.standing.ended r → HearsBytes key (dealing_of p) (dealing_of q) (growth before after) bytes
guarded_heard key p q before after bytes (Err e) failed joins law without on line took refused sound none ends = absurd (no_both failed refused sound)
guarded_heard key p q before after bytes (Ok turned) failed joins law without on line took refused sound none ends =
    let d : dealing_of p ≡ dealing_by true p.line p.connection p.guarded p.standing.ended =
    ap (λ (t : Bool). dealing_by t p.line p.connection p.guarded p.standing.ended) on in
    let e : dealing_of q ≡ dealing_by true p.line q.connection q.guarded q.standing.ended =
    ap (λ (l : Line). dealing_by (is_guarded l.terms.now) l q.connection q.guarded q.standing.ended) line
    ∙ ap (λ (t : Bool). dealing_by t p.line q.connection q.guarded q.standing.ended) on in
    let made = made_guarded key p.guarded q.guarded before after bytes turned p.standing.ended q.standing.ended joins law without took none ends in
    let of_line : Made key (guard_at p.line) p.guarded.held q.guarded.held p.guarded.waiting q.guarded.waiting p.standing.ended q.standing.ended before after bytes =
    subst (λ (g : Guard). Made key g p.guarded.held q.guarded.held p.guarded.waiting q.guarded.waiting p.standing.ended q.standing.ended before after bytes) p.agreed.2 made in
    subst (λ (x : Dealing). HearsBytes key x (dealing_of q) (growth before after) bytes) (sym d)
    (subst (λ (x : Dealing). HearsBytes key (dealing_by true p.line p.connection p.guarded p.standing.ended) x (growth before after) bytes) (sym e)
    (made_heard key (dealing_by true p.line p.connection p.guarded p.standing.ended) (dealing_by true p.line q.connection q.guarded q.standing.ended) before after bytes refl of_line))
