use Rattle.std.proofs.Common.{rules, ◌≡◌, ◌≢◌, ◌++◌, ◌∙◌, ap, arith, List, ℕ, length, take}
use Rattle.std.proofs.lemmas.List.{take_at}
use Rattle.iso_wire.specs.declared.header.Header.{Header}
use Rattle.iso_host.specs.Asking.{message_in}
use Rattle.iso_wire.specs.Framing.{frame_of}
use Rattle.iso_script.specs.Misbehaving.{garbage}
use Rattle.iso_script.proofs.Garbage.{garbage_in_place}
use Rattle.iso_script.proofs.treating.answer_garbage.Goals as goal

pub returns-in-Ok-clause-written : goal.returns-in-Ok-clause-written
returns-in-Ok-clause-written c =
    let grows = c.in_ok-_handled.ensures.answered.1 in
    let differs : length c.answer.new.out.items ≢ length c.args.out.now.items = search rules in
    let start : c.truncate.new.self.items ≡ c.args.out.now.items =
    c.truncate.ensures.items ∙ ap (take c.len-start.result) grows.2 ∙ take_at c.args.out.now.items grows.0 c.len-start.result (omega (arith, c.len-start.ensures, c.args.out.now.ok.0)) in
    let grown : c.append_short.new.out.items ≡ c.args.out.now.items ++ frame_of c.args.link.now.header garbage =
    c.in-Ok.ensures.framed ∙ ap (λ (l : List ℕ). l ++ frame_of c.header.result garbage) start ∙ ap (λ (h : Header). c.args.out.now.items ++ frame_of h garbage) c.header.ensures in
    garbage_in_place c.args.link.now c.args.host.now (message_in c.args.link.now.table c.args.body.now)
    c.args.out.now.items c.answer.new.out.items c.append_short.new.out.items grows.0 grows.1 grows.2 differs grown
