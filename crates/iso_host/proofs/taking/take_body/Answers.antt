use Rattle.std.proofs.Common.{◌≡◌, ◌∙◌, ◌-◌, ℕ, take, ap, arith}
use Rattle.iso_host.proofs.PeerLemmas.{refuses_body}
use Rattle.iso_host.proofs.taking.take_body.Goals as goal

pub returns-in-Err-clause-refused : goal.returns-in-Err-clause-refused
returns-in-Err-clause-refused c =
    let bytes = c.args.bytes.now in
    let left = c.args.begun.now.left in
    let there = c.in-Some.ensures.lookup.0 in
    let all : left - 0 ≡ left = omega arith in
    let last : c.in-Some.last.now ≡ take left bytes = there.2 ∙ ap (λ (k : ℕ). take k bytes) all in
    refuses_body c.args.table.now c.args.header c.args.begun.now c.args.gathering.now.part c.args.issuer.now c.answer_last.new.issuer bytes c.requires.inside (omega (arith, there)) (rw last at c.in-Err.ensures.memory)
