-- Each step of a run keeps what holds of both ends.
use Rattle.std.proofs.Common.{◌≡◌, ℕ, refl, sym, subst, List, [], ◌∷◌}
use Rattle.std.specs.Prelude.{Option, Some, None}
use Rattle.std.specs.List.{AllByRecursion}
use Rattle.std.proofs.lemmas.Option.{none-some}
use Rattle.iso_order.specs.Pan.{AccountNumber}
use Rattle.iso_order.specs.Order.{Instruction}
use Rattle.iso_issuer.specs.declared.account.Account.{Account}
use Rattle.iso_issuer.specs.Books.{journal}
use Rattle.iso_issuer.specs.Laws.{JournalsGrow, KnownChangesNothing, NewComesLast, KeysStayDistinct, AnswersAreEntered}
use Rattle.iso_issuer.specs.StandingLaws.{ReversedStays, WhollyIsReversed}
use Rattle.iso_acquirer.specs.declared.event.Event.{Event}
use Rattle.iso_acquirer.specs.declared.event.Event.TheVariants.{Begin, Timeout, Deliver, Answer, Other}
use Rattle.iso_acquirer.specs.declared.event.Given.{Given}
use Rattle.iso_acquirer.specs.declared.fault.StepFault.{StepFault}
use Rattle.iso_acquirer.specs.Acquirer.{order_at, debit_of}
use Rattle.iso_acquirer.specs.World.{World, IsMade, IsStep, IsRan, IsBegun, IsAsked, IsDelivered, IsAnswerGiven, IsOther}
use Rattle.iso_acquirer.specs.Agreed.{answer_at, IsSound}
use Rattle.iso_acquirer.specs.Agreement.{StaysClosed}
use Rattle.iso_acquirer.specs.Runs.{unused, CanHappen, IsAcquirer}
use Rattle.iso_acquirer.proofs.Lists.{all-at}
use Rattle.iso_acquirer.proofs.Clauses.{transaction_at}
use Rattle.iso_acquirer.proofs.Entered.{agreed-entering, agreed-delivered}
use Rattle.iso_acquirer.proofs.Answered.{agreed-answered}
use Rattle.iso_acquirer.proofs.Begun.{agreed-begun}
use Rattle.iso_acquirer.proofs.TimedOut.{agreed-asked}
use Rattle.iso_acquirer.proofs.Closed.{stays-made}
use Rattle.iso_acquirer.proofs.Valid.{AreValid, valid-at, valid-begun, valid-answered, valid-asked}

-- what holds of both ends, whose acquirer's orders are valid
pub record IsRunSound (w : World) : Type 0 where
  pub sound : IsSound w
  pub own : IsAcquirer w.acquirer.id
  pub valid : AreValid w.acquirer.slots

-- what the laws of the issuer say
pub record IssuerLaws : Type 0 where
  pub grow : JournalsGrow
  pub known : KnownChangesNothing
  pub last : NewComesLast
  pub distinct : KeysStayDistinct
  pub answered : AnswersAreEntered
  pub stay : ReversedStays
  pub wholly : WhollyIsReversed

-- both ends, unused
pub sound-unused : (id : ℕ) (accounts : List Account) (limit : ℕ) → IsAcquirer id → IsRunSound (unused id accounts limit)
sound-unused id accounts limit own = record {
  sound = record {
    agreed = record { numbered = tt; slots_hold = λ n s there. absurd (none-some s there); entries_known = tt; sent_known = tt; given_kept = tt };
    distinct = tt;
  };
  own = own;
  valid = tt;
}

module _ (laws : IssuerLaws) (w : World) (h : IsRunSound w) where
  sound-begun : (pan : AccountNumber) (amount : ℕ) (currency : List ℕ) (sent : ℕ) (new : World) → CanHappen (Begin pan amount currency sent) → IsBegun w (debit_of w.acquirer pan amount currency sent) new → IsRunSound new
  sound-begun pan amount currency sent new can made =
      let o = debit_of w.acquirer pan amount currency sent in
      subst IsRunSound (sym made.after) (record {
        sound = record {
          agreed = agreed-begun w.acquirer.id w.acquirer.slots w.sent w.given (journal w.issuer) o _ h.sound.agreed refl refl refl refl;
          distinct = h.sound.distinct;
        };
        own = h.own;
        valid = valid-begun w.acquirer pan amount currency sent h.own made.left can.0 can.1 h.valid;
      })

  sound-asked : (stan : ℕ) (new : World) → IsAsked w stan new → IsRunSound new
  sound-asked stan new made =
      subst IsRunSound (sym made.after) (record {
        sound = record {
          agreed = agreed-asked w.acquirer.id w.acquirer.slots w.sent w.given (journal w.issuer) h.sound.agreed stan made.asked made.found;
          distinct = h.sound.distinct;
        };
        own = h.own;
        valid = valid-asked w.acquirer.slots h.valid
            (λ n s stage there role. (transaction_at w.acquirer.id w.acquirer.slots w.sent w.given (journal w.issuer) h.sound.agreed n s stage there role).base) stan made.asked made.found;
      })

  sound-delivered : (place : ℕ) (new : World) → IsDelivered w place new → IsRunSound new
  sound-delivered place new made =
      let o = made.order in
      let known : order_at w.acquirer.slots o.key.stan ≡ Some o = all-at (λ (o : Instruction). order_at w.acquirer.slots o.key.stan ≡ Some o) w.sent place o h.sound.agreed.sent_known made.found in
      subst IsRunSound (sym made.after) (record {
        sound = record {
          agreed = agreed-delivered laws.stay laws.grow laws.known laws.last w.acquirer.id w.acquirer.slots w.sent w.given w.issuer o h.sound.agreed h.sound.distinct
              laws.answered (valid-at w.acquirer.slots o.key.stan o h.valid known) known;
          distinct = laws.distinct w.issuer o h.sound.distinct;
        };
        own = h.own;
        valid = h.valid;
      })

  sound-answered : (place : ℕ) (new : World) → IsAnswerGiven w place new → IsRunSound new
  sound-answered place new made =
      let g = made.answer in
      let kept = all-at (λ (g : Given). answer_at (journal w.issuer) g.key ≡ Some g.answer) w.given place g h.sound.agreed.given_kept made.found in
      subst IsRunSound (sym made.after) (record {
        sound = record {
          agreed = agreed-answered laws.wholly w.acquirer.id w.acquirer.slots w.sent w.given (journal w.issuer) g.key g.answer h.sound.agreed kept;
          distinct = h.sound.distinct;
        };
        own = h.own;
        valid = valid-answered w.acquirer.slots g.key g.answer.code h.valid;
      })

  sound-other : (o : Instruction) (new : World) → CanHappen (Other o) → IsOther w o new → IsRunSound new
  sound-other o new can made =
      subst IsRunSound (sym made.after) (record {
        sound = record {
          agreed = agreed-entering laws.stay laws.grow laws.known laws.last w.acquirer.id w.acquirer.slots w.sent w.given w.issuer o h.sound.agreed h.sound.distinct
              can (λ e. absurd (made.others_own e));
          distinct = laws.distinct w.issuer o h.sound.distinct;
        };
        own = h.own;
        valid = h.valid;
      })

  sound-made : (e : Event) (new : World) → CanHappen e → IsMade w e new → IsRunSound new
  sound-made (Begin pan amount currency sent) new can made = sound-begun pan amount currency sent new can made
  sound-made (Timeout stan) new can made = sound-asked stan new made
  sound-made (Deliver place) new can made = sound-delivered place new made
  sound-made (Answer place) new can made = sound-answered place new made
  sound-made (Other o) new can made = sound-other o new can made

  sound-step : (e : Event) (new : World) (f : Option StepFault) → CanHappen e → IsStep w e new f → IsRunSound new
  sound-step e new None can step = sound-made e new can step
  sound-step e new (Some fault) can step = subst IsRunSound (sym step.1) h

  closed-step : (e : Event) (new : World) (f : Option StepFault) → IsStep w e new f → StaysClosed w new
  closed-step e new None step = stays-made w new e h.sound step
  closed-step e new (Some fault) step = subst (λ (v : World). StaysClosed w v) (sym step.1) (λ stan state told closed. told)

module _ (laws : IssuerLaws) where
  pub sound-ran : (w : World) (es : List Event) (n : ℕ) (new : World) → IsRunSound w → AllByRecursion CanHappen es → IsRan w es n new → IsRunSound new
  sound-ran w [] n new h can ran = subst IsRunSound (sym ran.1) h
  sound-ran w (e ∷ es) n new h can (mid, f, m, step, ran, count) = sound-ran mid es m new (sound-step laws w h e mid f can.0 step) can.1 ran

  pub closed-ran : (w : World) (es : List Event) (n : ℕ) (new : World) → IsRunSound w → AllByRecursion CanHappen es → IsRan w es n new → StaysClosed w new
  closed-ran w [] n new h can ran = subst (λ (v : World). StaysClosed w v) (sym ran.1) (λ stan state told closed. told)
  closed-ran w (e ∷ es) n new h can (mid, f, m, step, ran, count) =
      let first = closed-step laws w h e mid f step in
      let rest = closed-ran mid es m new (sound-step laws w h e mid f can.0 step) can.1 ran in
      λ stan state told closed. rest stan state (first stan state told closed) closed
