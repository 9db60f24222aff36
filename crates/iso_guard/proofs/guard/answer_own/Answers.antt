use Rattle.std.proofs.Common.{rules, ◌≡◌, ◌∙◌, ◌++◌, ◌≤◌, ◌<◌, List, ℕ, ap, subst, length, drop, refl, inr}
use Rattle.iso_wire.specs.declared.header.Header.{Header}
use Rattle.iso_wire.specs.Framing.{frame_of, header_size, largest}
use Rattle.iso_host.specs.Asking.{message_in}
use Rattle.iso_host.specs.Output.{response_to}
use Rattle.iso_guard.proofs.Allowed.{entered_or_kept}
use Rattle.iso_guard.proofs.Answers.{framed, none_behind, on_err, some_behind}
use Rattle.iso_guard.proofs.guard.answer_own.Goals as goal

pub returns-in_err-handled-clause-memory : goal.returns-in_err-handled-clause-memory
returns-in_err-handled-clause-memory c =
    on_err c.from_residual.result _
    (entered_or_kept c.one_journal.ensures.alone c.args.link.now.table c.args.link.now.header c.args.message.now c.args.host.now c.answer.new.self c.in_err-handled.ensures.memory)

pub returns-then-len-size-clause-enters : goal.returns-then-len-size-clause-enters
returns-then-len-size-clause-enters c = c.in_ok-handled.ensures.answered.0 ∙ c.one_journal.ensures.alone c.args.link.now.table c.args.host.now c.args.message.now

pub returns-then-len-size-clause-answered : goal.returns-then-len-size-clause-answered
returns-then-len-size-clause-answered c =
    let grows = c.in_ok-handled.ensures.answered.1 in
    let items : c.answer.new.out.items ≡ grows.0 = grows.2 ∙ ap (λ (l : List ℕ). l ++ grows.0) c.clear.ensures.items in
    let few : length c.answer.new.out.items < header_size c.args.link.now.header = search rules in
    none_behind c.frames.ensures c.args.link.now.table c.args.link.now.header c.args.before.now grows.0 c.args.waiting.now.items c.args.waiting.now.items
    (response_to c.args.host.now (message_in c.args.link.now.table c.args.message.now))
    (framed c.args.link.now.table c.args.link.now.header c.args.host.now (message_in c.args.link.now.table c.args.message.now) grows.0 grows.1)
    (subst (λ (l : List ℕ). length l < header_size c.args.link.now.header) items few) refl

pub returns-in_err-append_behind-clause-memory : goal.returns-in_err-append_behind-clause-memory
returns-in_err-append_behind-clause-memory c =
    on_err c.from_residual-in_err-append_behind.result _
    (inr (c.in_ok-handled.ensures.answered.0 ∙ c.one_journal.ensures.alone c.args.link.now.table c.args.host.now c.args.message.now))

pub returns-clause-enters : goal.returns-clause-enters
returns-clause-enters c = c.in_ok-handled.ensures.answered.0 ∙ c.one_journal.ensures.alone c.args.link.now.table c.args.host.now c.args.message.now

pub returns-clause-answered : goal.returns-clause-answered
returns-clause-answered c =
    let grows = c.in_ok-handled.ensures.answered.1 in
    let message = c.split_at.result.1.now in
    let items : c.answer.new.out.items ≡ grows.0 = grows.2 ∙ ap (λ (l : List ℕ). l ++ grows.0) c.clear.ensures.items in
    let many : header_size c.args.link.now.header ≤ length c.answer.new.out.items = search rules in
    let size : c.size-size.result ≡ header_size c.args.link.now.header = c.size-size.ensures ∙ ap header_size c.header.ensures in
    let back : message ≡ drop c.size-size.result c.answer.new.out.items = search rules in
    some_behind c.frames.ensures c.args.link.now.table c.args.link.now.header c.args.before.now grows.0 message c.args.waiting.now.items c.append_behind.new.out.items
    (response_to c.args.host.now (message_in c.args.link.now.table c.args.message.now))
    (framed c.args.link.now.table c.args.link.now.header c.args.host.now (message_in c.args.link.now.table c.args.message.now) grows.0 grows.1)
    (subst (λ (l : List ℕ). header_size c.args.link.now.header ≤ length l) items many)
    (back ∙ ap (λ (n : ℕ). drop n c.answer.new.out.items) size ∙ ap (drop (header_size c.args.link.now.header)) items)
    (subst (λ (h : Header). length (c.args.before.now ++ message) ≤ largest h) c.header-2.ensures c.in_ok-append_behind.ensures.fits)
    (c.in_ok-append_behind.ensures.framed ∙ ap (λ (h : Header). c.args.waiting.now.items ++ frame_of h (c.args.before.now ++ message)) c.header-2.ensures)
