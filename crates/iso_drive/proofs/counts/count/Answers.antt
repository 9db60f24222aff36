use Rattle.std.proofs.Common.{◌≡◌, Bool, refl, ap, ◌∙◌}
use Rattle.std.specs.Prelude.{count_by}
use Rattle.iso_acquirer.specs.declared.state.State.{State}
use Rattle.iso_drive.specs.Counts.{is_waiting, is_reversing, is_approved, is_declined, is_reversed, role_is, count_of}
use Rattle.iso_drive.proofs.Counted.{counted}
use Rattle.iso_drive.proofs.counts.count.Goals as goal

pub returns : goal.returns
returns c = λ slots t.
    let each : (such : State → Bool) → count_by (λ m. role_is such m.role) c.args.made.now ≡ count_of such slots
    = λ such. ap (count_by (λ m. role_is such m.role)) t.same ∙ counted such slots in
    rw (c.waiting.ensures, c.reversing.ensures, c.approved.ensures, c.declined.ensures, c.reversed.ensures, each is_waiting, each is_reversing, each is_approved, each is_declined, each is_reversed) refl
