-- What a driver has of its acquirer, where that changes.
use Rattle.std.proofs.Common.{◌≡◌, ℕ, Bool, true, false, refl, arith, ap, sym, ◌∙◌, subst, List, [], ◌∷◌, ◌++◌, length, ◌<◌, ◌+◌, cond}
use Rattle.std.specs.Prelude.{◌==◌, ◌||◌}
use Rattle.std.proofs.lemmas.Bool.{eqb-true}
use Rattle.iso_order.specs.declared.key.TxKey.{TxKey}
use Rattle.iso_order.specs.Order.{Instruction}
use Rattle.iso_acquirer.specs.declared.slot.Slot.{Slot}
use Rattle.iso_acquirer.specs.declared.state.State.{State}
use Rattle.iso_acquirer.specs.Acquirer.{slot_at, slots_with, transaction_of, timeout, slots_after_answer}
use Rattle.iso_restarts.specs.Diary.{slots_asked}
use Rattle.iso_drive.specs.declared.board.Board.{Board}
use Rattle.iso_waits.specs.declared.due.Due.{Due}
use Rattle.iso_drive.specs.declared.made.Made.{Made}
use Rattle.iso_drive.specs.Answered.{Closes}
use Rattle.iso_drive.specs.Board.{IsBoard, IsAwaited}
use Rattle.iso_waits.specs.WaitLaws.{WhoWaits}
use Rattle.iso_waits.specs.Waits.{times, without}
use Rattle.iso_drive.specs.Made.{made_of, IsTabled, AreInRow}
use Rattle.iso_drive.specs.Open.{is_open, is_open_at}
use Rattle.iso_drive.proofs.Row.{above}
use Rattle.iso_drive.proofs.Tabled.{tabled-push}
use Rattle.iso_drive.proofs.Opened.{open-begun, open-asked, state-none}
use Rattle.iso_drive.proofs.Answer.{open-closed}

-- no answer came in time
pub board-asked : (old new : Board) (slots : List Slot) (stan : ℕ) → IsBoard old slots → IsTabled new.made.items (slots_asked slots (timeout slots stan)) →
    ((n : ℕ) → times n new.waiting.items ≡ times n old.waiting.items) → IsBoard new (slots_asked slots (timeout slots stan))
board-asked old new slots stan b tabled same = record {
  tabled = tabled;
  awaited = λ n. same n ∙ b.awaited n ∙ ap {B = ℕ} (λ c. cond c 1 0) (sym (open-asked slots stan n b.tabled.in_row));
}

module _ (who : WhoWaits) where
  -- a purchase begins
  awaited-begun : (waiting : List Due) (slots : List Slot) (o : Instruction) (at n : ℕ) → IsAwaited waiting slots → AreInRow 1 slots → o.key.stan ≡ length slots + 1 →
      times n (waiting ++ record { stan = o.key.stan; at = at } ∷ []) ≡ cond (is_open_at (slots_with slots o) n) 1 0
  awaited-begun waiting slots o at n old row next = go (o.key.stan == n) refl (is_open_at slots n) refl
    where
      go : (b : Bool) → (o.key.stan == n) ≡ b → (c : Bool) → is_open_at slots n ≡ c → times n (waiting ++ record { stan = o.key.stan; at = at } ∷ []) ≡ cond (is_open_at (slots_with slots o) n) 1 0
      go true e true f =
          let none : slot_at slots n ≡ _ = above slots 1 n row (let is : o.key.stan ≡ n = eqb-true o.key.stan n e in omega (arith, next, is)) in
          let no : true ≡ false = sym f ∙ ap is_open (state-none slots n none) in cc
      go true e false f =
          who.more n waiting (record { stan = o.key.stan; at = at })
          ∙ omega (arith, old n, ap {B = ℕ} (λ b. cond b 1 0) f, ap {B = ℕ} (λ b. cond b 1 0) e)
          ∙ sym (ap {B = ℕ} (λ b. cond b 1 0) (open-begun slots o n row next ∙ ap (λ b. b || (o.key.stan == n)) f ∙ ap (λ b. false || b) e))
      go false e c f =
          who.more n waiting (record { stan = o.key.stan; at = at })
          ∙ omega (arith, old n, ap {B = ℕ} (λ b. cond b 1 0) e)
          ∙ sym (ap {B = ℕ} (λ b. cond b 1 0) (open-begun slots o n row next ∙ ap (λ b. is_open_at slots n || b) e ∙ or-none (is_open_at slots n)))
        where
          or-none : (b : Bool) → (b || false) ≡ b
          or-none true = refl
          or-none false = refl

  pub board-begun : (old new : Board) (slots : List Slot) (o : Instruction) (at : ℕ) → IsBoard old slots → length slots < 999999 → o.key.stan ≡ length slots + 1 →
      new.made.items ≡ old.made.items ++ made_of (transaction_of o) ∷ [] → new.waiting.items ≡ old.waiting.items ++ record { stan = o.key.stan; at = at } ∷ [] → IsBoard new (slots_with slots o)
  board-begun old new slots o at b left next made waits = record {
    tabled = subst (λ (m : List Made). IsTabled m (slots_with slots o)) (sym made) (tabled-push old.made.items slots (transaction_of o) b.tabled left next);
    awaited = λ n. ap (times n) waits ∙ awaited-begun old.waiting.items slots o at n b.awaited b.tabled.in_row next;
  }

  -- an answer closed a transaction
  pub board-closed : (old new : Board) (slots : List Slot) (key : TxKey) (code stan : ℕ) (state : State) → IsBoard old slots → Closes slots key code stan state →
      IsTabled new.made.items (slots_after_answer slots key code) → new.waiting.items ≡ without stan old.waiting.items → IsBoard new (slots_after_answer slots key code)
  board-closed old new slots key code stan state b h tabled waits = record {
    tabled = tabled;
    awaited = λ n. ap (times n) waits ∙ who.less n stan old.waiting.items ∙ go n (n == stan) refl;
  }
    where
      go : (n : ℕ) (t : Bool) → (n == stan) ≡ t → cond (n == stan) 0 (times n old.waiting.items) ≡ cond (is_open_at (slots_after_answer slots key code) n) 1 0
      go n true t = rw (open-closed slots key code stan state n h, t) refl
      go n false t = rw (open-closed slots key code stan state n h, t) (b.awaited n)
