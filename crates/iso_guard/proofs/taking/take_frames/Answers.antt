use Rattle.std.proofs.Common.{◌≡◌, ◌-◌, ℕ, List, arith, length, take, drop, subst, Ok}
use Rattle.std.proofs.lemmas.List.{length-drop, take_all}
use Rattle.iso_wire.specs.declared.header.Header.{Header}
use Rattle.iso_wire.specs.declared.framing.Framed.{Framed}
use Rattle.iso_wire.specs.Framing.{AnswersFront, Begins}
use Rattle.iso_issuer.specs.Books.{Books}
use Rattle.iso_host.specs.Entering.{StaysWithout}
use Rattle.iso_guard.specs.Guarding.{guard_of}
use Rattle.iso_guard.proofs.Frames.{none_so_far, next_frame}
use Rattle.iso_guard.proofs.taking.take_frames.Goals as goal

pub frames-init : goal.frames-init
frames-init g c =
    let so = none_so_far (guard_of c.args.link.now c.args.terms.now) c.args.host.now c.args.bytes.now c.args.waiting.now.items
    (subst (λ (b : Books). StaysWithout b) c.issuer.ensures c.one_journal.ensures.none) in
    record { within = so.within; so_far = so }

pub frames-preserved : goal.frames-preserved
frames-preserved g c =
    let guard = guard_of c.args.link.now c.args.terms.now in
    let bytes = c.args.bytes.now in
    let used = c.frames.used in
    let size = c.in-Ok-Got.size in
    let body = c.in-Ok-Got.body.now in
    let rest : take (length bytes - used) (drop used bytes) ≡ drop used bytes = take_all (length bytes - used) (drop used bytes) (omega (arith, length-drop used bytes)) in
    let front = subst (λ (f : Framed). AnswersFront c.header.result (take (length bytes - used) (drop used bytes)) (Ok f)) c.in-Ok-Got.field-0-is c.in-Ok-Got.ensures.front in
    let here = subst (λ (h : Header). Begins h (take (length bytes - used) (drop used bytes)) body size) c.header.ensures front in
    let begins = subst (λ (l : List ℕ). Begins guard.header l body size) rest here in
    let so = next_frame guard c.args.host.now bytes c.args.waiting.now.items c.frames-2.ensures c.frames.host c.answer_guarded.new.host used size body c.frames.waiting.items
    c.answer_guarded.new.waiting.items c.one_journal.ensures.more c.frames.invariant.so_far begins c.in-Ok.ensures.answered in
    record { within = so.within; so_far = so }
