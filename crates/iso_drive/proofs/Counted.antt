-- Counts and sums over the acquirer's orders as the driver has them.
use Rattle.std.proofs.Common.{◌≡◌, ℕ, Bool, refl, arith, ap, List, [], ◌∷◌, cond}
use Rattle.std.specs.Prelude.{count_by, map}
use Rattle.std.proofs.lemmas.List.Sums.{sum_by-cons}
use Rattle.iso_acquirer.specs.declared.slot.Slot.{Slot}
use Rattle.iso_acquirer.specs.declared.slot.Role.{Role as Part}
use Rattle.iso_acquirer.specs.declared.slot.Role.TheVariants.{Transaction, Reversal}
use Rattle.iso_acquirer.specs.declared.state.State.{State}
use Rattle.iso_acquirer.specs.Acquirer.{state_in_role}
use Rattle.iso_drive.specs.declared.made.Made.{Made}
use Rattle.iso_drive.specs.Counts.{is_such, role_is, count_of}
use Rattle.iso_drive.specs.Made.{made_of, role_of}

pub role-such : (such : State → Bool) (role : Part) → role_is such (role_of role) ≡ is_such such (state_in_role role)
role-such such (Transaction stage) = refl
role-such such (Reversal stan) = refl

pub counted : (such : State → Bool) (slots : List Slot) → count_by (λ m. role_is such m.role) (map made_of slots) ≡ count_of such slots
counted such [] = refl
counted such (s ∷ ss) =
    omega (
      arith,
      sum_by-cons (λ (m : Made). cond (role_is such m.role) 1 0) (made_of s) (map made_of ss),
      sum_by-cons (λ (s : Slot). cond (is_such such (state_in_role s.role)) 1 0) s ss,
      counted such ss,
      ap {B = ℕ} (λ b. cond b 1 0) (role-such such s.role),
    )
