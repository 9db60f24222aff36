use Rattle.std.proofs.Common.{◌≡◌, ◌∙◌, ℕ, List, ap, sym}
use Rattle.std.specs.Prelude.{Some}
use Rattle.iso_record.specs.Heading.{heading_bytes}
use Rattle.iso_service.specs.Front.{front_fault}
use Rattle.iso_service.proofs.Why.{why_front}
use Rattle.iso_service.proofs.starting.check_front.Goals as goal

pub returns-in-Some : goal.returns-in-Some
returns-in-Some g c =
    let wanted = heading_bytes c.args.heading.now in
    let told : front_fault c.in-Ok.front.items wanted ≡ Some c.in-Some.fault =
    sym (c.front_fault.ensures ∙ ap (λ (l : List ℕ). front_fault l wanted) c.deref.ensures.value) ∙ c.in-Some.is in
    why_front (g.J.Journals.held_at c.args.journals.now c.args.path.now) c.in-Ok.front.items wanted c.in-Some.fault c.in-Ok.ensures.bytes told
