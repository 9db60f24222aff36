use Rattle.std.proofs.Common.{◌≡◌, ◌≤◌, ◌+◌, ◌-◌, ◌∙◌, ℕ, length, take, drop, ap, arith, []}
use Rattle.iso_wire.specs.Framing.{header_size}
use Rattle.iso_host.specs.Beginning.{head_of}
use Rattle.iso_host.proofs.PeerLemmas.{refuses_front, takes_whole}
use Rattle.iso_host.proofs.taking.take_first.Goals as goal

pub returns-in-Err-answer_body-clause-refused : goal.returns-in-Err-answer_body-clause-refused
returns-in-Err-answer_body-clause-refused c =
    let h = c.args.header in
    let bytes = c.args.bytes.now in
    let told = rw c.in-Ok-Some.field-0-is at c.in-Ok-Some.ensures in
    let rest : c.split_at.result.1.now ≡ drop (header_size h) bytes = c.split_at.ensures.back ∙ ap (λ (k : ℕ). drop k bytes) c.size-in-Ok-Some.ensures in
    let here : c.in-Ok-Some.length ≤ length bytes - header_size h = omega (arith, c.if-length-bytes.true, c.size.ensures) in
    let none : head_of c.args.begun.now ≡ [] = ap (λ (k : ℕ). take k c.args.begun.now.head) c.requires.none in
    refuses_front h bytes c.in-Ok-Some.length told.0 told.1 here c.args.table.now _ _ c.answer_body.new.issuer none (rw rest at c.in-Err-answer_body.ensures.memory)

pub returns-in-Ok-answer_body-clause-took : goal.returns-in-Ok-answer_body-clause-took
returns-in-Ok-answer_body-clause-took c =
    let h = c.args.header in
    let bytes = c.args.bytes.now in
    let told = rw c.in-Ok-Some.field-0-is at c.in-Ok-Some.ensures in
    let rest : c.split_at.result.1.now ≡ drop (header_size h) bytes = c.split_at.ensures.back ∙ ap (λ (k : ℕ). drop k bytes) c.size-in-Ok-Some.ensures in
    let here : c.in-Ok-Some.length ≤ length bytes - header_size h = omega (arith, c.if-length-bytes.true, c.size.ensures) in
    let none : head_of c.args.begun.now ≡ [] = ap (λ (k : ℕ). take k c.args.begun.now.head) c.requires.none in
    let e = c.in-Ok-answer_body.ensures in
    rw c.ending.ensures (takes_whole h bytes c.in-Ok-Some.length told.0 told.1 here c.frames.ensures c.args.table.now _ _ c.args.issuer.now c.answer_body.new.issuer c.args.out.now.items c.answer_body.new.out.items _ c.answer_body.new.told none none
    (ap (λ (k : ℕ). k + c.in-Ok-Some.length) c.size-in-Ok-answer_body.ensures) (rw rest at e.answered) (rw rest at e.handled))
