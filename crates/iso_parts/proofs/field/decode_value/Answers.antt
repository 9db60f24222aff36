use Rattle.std.proofs.Common.{rules, ◌≡◌, ◌≢◌, ◌≤◌, ◌+◌, ℕ, List, length, drop, refl, sym, ap, ap₂, ◌∙◌, arith}
use Rattle.std.proofs.lemmas.Grind.{common_steps}
use Rattle.iso_parts.specs.declared.fault.FieldFault.TheVariants.{Memory}
use Rattle.iso_parts.specs.Reading.{prefix_size, body_size, got, fault, part_at}
use Rattle.iso_parts.proofs.Judges.{length_fails, body_is}
use Rattle.iso_parts.proofs.field.decode_value.Goals as goal

pub returns-in-Err-clause-exact : goal.returns-in-Err-clause-exact
returns-in-Err-clause-exact c = (λ _. length_fails c.args.spec.now c.args.bytes.now c.in-Err.fault (sym c.in-Err.ensures.exact), refl)

pub returns-in-Ok-clause-exact : goal.returns-in-Ok-clause-exact
returns-in-Ok-clause-exact c =
    let s = c.args.spec.now in
    let b : List ℕ = c.args.bytes.now in
    let n = c.in-Ok-Some.n in
    let length_read = rw c.in-Ok-Some.field-0-is at c.in-Ok-Some.ensures.exact in
    let read = rw (c.split_at.ensures.back, c.prefix_size-front.ensures.size, c.body_size-size.ensures.size) at c.in-Ok.ensures in
    let rest : c.split_at.result.1.now ≡ drop (prefix_size s.length) b = c.split_at.ensures.back ∙ ap (λ (k : ℕ). drop k b) c.prefix_size-front.ensures.size in
    let room : body_size s.coding n ≤ length (drop (prefix_size s.length) b) = omega (arith, c.if-rest-size.false, c.body_size-size.ensures.size, ap length rest) in
    let part = body_is s b n read.0 (sym length_read) room read.1 in
    (read.0, part ∙ ap₂ (λ (k m : ℕ). got read.0 (k + m)) (sym c.prefix_size-front.ensures.size) (sym c.body_size-size.ensures.size), read.2)

pub returns-in-Err-decode_body-clause-exact : goal.returns-in-Err-decode_body-clause-exact
returns-in-Err-decode_body-clause-exact c =
    let kept : c.truncate.new.self.items ≡ c.args.out.now.items = search rules in
    let told : c.in-Err-decode_body.fault ≢ Memory → part_at c.args.spec.now c.args.bytes.now ≡ fault c.in-Err-decode_body.fault = grind (arith, common_steps) in
    (told, kept)
