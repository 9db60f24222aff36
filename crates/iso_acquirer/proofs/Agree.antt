-- Both ends agree on each transaction.
use Rattle.std.proofs.Common.{◌≡◌, ℕ, refl, subst}
use Rattle.std.specs.Prelude.{Option, Some, None, option_map, option_and_then}
use Rattle.std.proofs.lemmas.Option.{same_Some}
use Rattle.iso_issuer.specs.StandingLaws.{GrantedStands, DeclinedFalls, NoneIsNone, StandsNoMore, ReversedNeverStands}
use Rattle.iso_acquirer.specs.declared.slot.Slot.{Slot}
use Rattle.iso_acquirer.specs.declared.slot.Role.{Role}
use Rattle.iso_acquirer.specs.declared.slot.Role.TheVariants.{Transaction, Reversal}
use Rattle.iso_acquirer.specs.declared.slot.Stage.{Stage}
use Rattle.iso_acquirer.specs.declared.slot.Stage.TheVariants.{Waiting, Reversing, Approved, Declined, Reversed}
use Rattle.iso_acquirer.specs.declared.state.State.{State}
use Rattle.iso_acquirer.specs.Acquirer.{slot_at, state_at_stage, state_in_role}
use Rattle.iso_acquirer.specs.World.{World}
use Rattle.iso_acquirer.specs.Agreed.{IsSound}
use Rattle.iso_acquirer.specs.Agreement.{AgreesIn, BothAgree}
use Rattle.iso_acquirer.proofs.Numbered.{found}
use Rattle.iso_acquirer.proofs.Clauses.{approved-stands, declined-never, reversed-never}

module _ (none_is_none : NoneIsNone) (stands : GrantedStands) (falls : DeclinedFalls) (no_more : StandsNoMore) (never : ReversedNeverStands) (w : World) (sound : IsSound w) where
  by_stage : (stan : ℕ) (s : Slot) → slot_at w.acquirer.slots stan ≡ Some s → (stage : Stage) → s.role ≡ Transaction stage → AgreesIn w s.order (state_at_stage stage)
  by_stage stan s here (Waiting n) role = tt
  by_stage stan s here (Reversing u) role = tt
  by_stage stan s here Approved role =
      approved-stands w.acquirer.id w.acquirer.slots w.sent w.given _ sound.agreed none_is_none stands stan s here (found w.acquirer.slots 1 stan s sound.agreed.numbered here).0 role
  by_stage stan s here (Declined c) role = declined-never w.acquirer.id w.acquirer.slots w.sent w.given w.issuer.accounts w.issuer.orders sound.agreed no_more falls stan s c here role
  by_stage stan s here (Reversed u) role = reversed-never w.acquirer.id w.acquirer.slots w.sent w.given w.issuer.accounts w.issuer.orders sound.agreed never stan s u here role

  by_role : (stan : ℕ) (s : Slot) → slot_at w.acquirer.slots stan ≡ Some s → (role : Role) → s.role ≡ role → (state : State) → state_in_role role ≡ Some state → AgreesIn w s.order state
  by_role stan s here (Transaction stage) role state is = subst (AgreesIn w s.order) (same_Some (state_at_stage stage) state is) (by_stage stan s here stage role)
  by_role stan s here (Reversal k) role state is = cc

  pub both-agree : BothAgree w
  both-agree stan o state made told = by_slot (slot_at w.acquirer.slots stan) refl made told
    where
      by_slot : (f : Option Slot) → slot_at w.acquirer.slots stan ≡ f → option_map (λ s. s.order) f ≡ Some o → option_and_then (λ s. state_in_role s.role) f ≡ Some state → AgreesIn w o state
      by_slot None e g h = cc
      by_slot (Some s) e g h = subst (λ x. AgreesIn w x state) (same_Some s.order o g) (by_role stan s e s.role refl state h)
