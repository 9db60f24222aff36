-- All transactions are closed where none waits.
use Rattle.std.proofs.Common.{◌≡◌, ℕ, Bool, true, false, refl, arith, ap, ◌∙◌, List, [], cond}
use Rattle.std.specs.Prelude.{not, Option, Some, None}
use Rattle.iso_acquirer.specs.declared.slot.Slot.{Slot}
use Rattle.iso_acquirer.specs.declared.state.State.{State}
use Rattle.iso_acquirer.specs.Acquirer.{state_of}
use Rattle.iso_acquirer.specs.Agreement.{is_closed}
use Rattle.iso_waits.specs.declared.due.Due.{Due}
use Rattle.iso_waits.specs.WaitLaws.{WhoWaits}
use Rattle.iso_drive.specs.Open.{is_open, is_open_at, AreAllClosed}
use Rattle.iso_drive.specs.Board.{IsAwaited}

module _ (who : WhoWaits) where
  pub none-open : (waiting : List Due) (slots : List Slot) → IsAwaited waiting slots → waiting ≡ [] → AreAllClosed slots
  none-open waiting slots a none stan state h = go (is_closed state) refl
    where
      go : (b : Bool) → is_closed state ≡ b → is_closed state ≡ true
      go true e = e
      go false e =
          let opened : is_open_at slots stan ≡ true = ap is_open h ∙ ap not e in
          absurd (omega (arith, (who.none waiting).0 none stan, a stan, ap {B = ℕ} (λ b. cond b 1 0) opened))

  pub none-left : (waiting : List Due) (slots : List Slot) → IsAwaited waiting slots → AreAllClosed slots → waiting ≡ []
  none-left waiting slots a closed = (who.none waiting).1 (λ stan. a stan ∙ ap {B = ℕ} (λ b. cond b 1 0) (shut stan (state_of slots stan) refl))
    where
      shut : (stan : ℕ) (f : Option State) → state_of slots stan ≡ f → is_open_at slots stan ≡ false
      shut stan None e = ap is_open e
      shut stan (Some state) e = ap is_open e ∙ ap not (closed stan state e)
