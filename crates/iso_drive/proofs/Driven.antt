-- A driver goes on: what holds of it holds after each call.
use Rattle.std.proofs.Common.{◌≡◌, ℕ, true, ap, sym, ◌∙◌, subst, List, [], ◌∷◌, ◌++◌, length, take, drop, ◌<◌, ◌≤◌, ◌+◌, arith}
use Rattle.std.specs.Prelude.{nat_lt}
use Rattle.std.proofs.lemmas.Grind.{common_steps}
use Rattle.iso_order.specs.declared.key.TxKey.{TxKey}
use Rattle.iso_order.specs.Order.{Instruction}
use Rattle.iso_acquirer.specs.declared.slot.Slot.{Slot}
use Rattle.iso_acquirer.specs.declared.state.State.{State}
use Rattle.iso_acquirer.specs.Acquirer.{transaction_of, timeout, slots_after_answer}
use Rattle.iso_restarts.specs.declared.note.Note.{Note}
use Rattle.iso_restarts.specs.declared.note.Note.TheVariants.{Told}
use Rattle.iso_restarts.specs.Diary.{Diary, in_memory, begins, times_out, hears, slots_asked}
use Rattle.iso_restarts.specs.Durable.{diary_of, IsConsistent}
use Rattle.iso_restarts.specs.NoteLaws.{NotesFollow}
use Rattle.iso_drive.specs.declared.driver.Driver.{Driver}
use Rattle.iso_drive.specs.declared.board.Board.{Board}
use Rattle.iso_waits.specs.declared.due.Due.{Due}
use Rattle.iso_drive.specs.Answered.{Closes}
use Rattle.iso_drive.specs.Board.{IsBoard}
use Rattle.iso_waits.specs.WaitLaws.{WhoWaits, StayInTime}
use Rattle.iso_waits.specs.Waits.{moment_after, again, times, without, AreInTime}
use Rattle.iso_drive.specs.Driving.{IsDriving}
use Rattle.iso_drive.specs.Made.{made_of, IsTabled}
use Rattle.iso_drive.proofs.Boarded.{board-begun, board-asked}
use Rattle.iso_drive.proofs.Notes.{slots-wrote, slots-begun, slots-timed-out, id-begun, id-timed-out}
use Rattle.iso_drive.proofs.Tabled.{made-length}

less : (n m : ℕ) → n < m → nat_lt n m ≡ true
less n m h = grind (arith, common_steps)

pub later : (clock now patience : ℕ) → clock ≤ now → moment_after clock patience ≤ moment_after now patience
later clock now patience h = omega arith

module _ (follow : NotesFollow) (who : WhoWaits) (time : StayInTime) {L : Type 0} (is_ready : L → Type 0) (synced pending : L → List Note) (old new : Driver L) (is : IsDriving is_ready synced pending old)
    (consistent : IsConsistent is_ready synced pending new.acquirer) (own : new.id ≡ old.id) (patient : new.patience ≡ old.patience) where
  before : Diary
  before = diary_of synced pending old.acquirer

  slots : List Slot
  slots = (in_memory before).slots

  -- a purchase begins
  pub driving-begun : (o : Instruction) (at : ℕ) → diary_of synced pending new.acquirer ≡ begins (diary_of synced pending old.acquirer) o →
      length old.board.made.items < 999999 → o.key.stan ≡ length (in_memory (diary_of synced pending old.acquirer)).slots + 1 →
      new.board.made.items ≡ old.board.made.items ++ made_of (transaction_of o) ∷ [] →
      new.board.waiting.items ≡ old.board.waiting.items ++ record { stan = o.key.stan; at = at } ∷ [] →
      old.clock ≤ new.clock → at ≡ moment_after new.clock new.patience → IsDriving is_ready synced pending new
  driving-begun o at diary left next made waits on at-is =
      let d = diary_of synced pending old.acquirer in
      let few : length (in_memory d).slots < 999999 = subst (λ n. n < 999999) (made-length old.board.made.items (in_memory d).slots is.board.tabled) left in
      let became : (in_memory (diary_of synced pending new.acquirer)).slots ≡ _ = ap (λ (x : Diary). (in_memory x).slots) diary ∙ slots-begun follow d o (less (length (in_memory d).slots) 999999 few) in
      record {
        consistent = consistent;
        own = own ∙ is.own ∙ sym (ap (λ (x : Diary). x.id) diary ∙ id-begun d o);
        board = subst (IsBoard new.board) (sym became) (board-begun who old.board new.board (in_memory d).slots o at is.board few next made waits);
        in_time =
            subst (λ (w : List Due). AreInTime (moment_after new.clock new.patience) w) (sym waits)
            (subst (λ n. AreInTime n (old.board.waiting.items ++ record { stan = o.key.stan; at = at } ∷ [])) at-is
            (time.more (moment_after old.clock old.patience) old.board.waiting.items (record { stan = o.key.stan; at = at })
            (subst (λ n. moment_after old.clock old.patience ≤ n) (sym at-is) (subst (λ p. moment_after old.clock old.patience ≤ moment_after new.clock p) (sym patient) (later old.clock new.clock old.patience on)))
            is.in_time));
      }

  -- the first that waits is timed out
  pub driving-asked : (stan at : ℕ) → diary_of synced pending new.acquirer ≡ times_out (diary_of synced pending old.acquirer) stan →
      ((s : List Slot) → IsTabled old.board.made.items s → IsTabled new.board.made.items (slots_asked s (timeout s stan))) →
      new.board.waiting.items ≡ drop 1 old.board.waiting.items ++ again at (take 1 old.board.waiting.items) →
      new.clock ≡ old.clock → at ≡ moment_after old.clock old.patience → IsDriving is_ready synced pending new
  driving-asked stan at diary tabled waits clock at-is =
      let d = diary_of synced pending old.acquirer in
      let became : (in_memory (diary_of synced pending new.acquirer)).slots ≡ slots_asked (in_memory d).slots (timeout (in_memory d).slots stan) = ap (λ (x : Diary). (in_memory x).slots) diary ∙ slots-timed-out follow d stan in
      record {
        consistent = consistent;
        own = own ∙ is.own ∙ sym (ap (λ (x : Diary). x.id) diary ∙ id-timed-out d stan);
        board =
            subst (IsBoard new.board) (sym became)
            (board-asked old.board new.board (in_memory d).slots stan is.board (tabled (in_memory d).slots is.board.tabled)
            (λ n. ap (times n) waits ∙ who.again n at old.board.waiting.items));
        in_time =
            subst (λ (w : List Due). AreInTime (moment_after new.clock new.patience) w) (sym waits)
            (subst (λ c. AreInTime (moment_after c new.patience) (drop 1 old.board.waiting.items ++ again at (take 1 old.board.waiting.items))) (sym clock)
            (subst (λ p. AreInTime (moment_after old.clock p) (drop 1 old.board.waiting.items ++ again at (take 1 old.board.waiting.items))) (sym patient)
            (subst (λ n. AreInTime (moment_after old.clock old.patience) (drop 1 old.board.waiting.items ++ again n (take 1 old.board.waiting.items))) (sym at-is)
            (time.again (moment_after old.clock old.patience) old.board.waiting.items is.in_time))));
      }

  -- an answer closed a transaction
  pub driving-closed : (key : TxKey) (code stan : ℕ) (state : State) → diary_of synced pending new.acquirer ≡ hears (diary_of synced pending old.acquirer) key code →
      Closes (in_memory (diary_of synced pending old.acquirer)).slots key code stan state →
      IsBoard new.board (slots_after_answer (in_memory (diary_of synced pending old.acquirer)).slots key code) →
      new.board.waiting.items ≡ without stan old.board.waiting.items → new.clock ≡ old.clock → IsDriving is_ready synced pending new
  driving-closed key code stan state diary closed board waits clock =
      let d = diary_of synced pending old.acquirer in
      let became : (in_memory (diary_of synced pending new.acquirer)).slots ≡ slots_after_answer (in_memory d).slots key code = ap (λ (x : Diary). (in_memory x).slots) diary ∙ slots-wrote follow d (Told key code) in
      record {
        consistent = consistent;
        own = own ∙ is.own ∙ sym (ap (λ (x : Diary). x.id) diary);
        board = subst (IsBoard new.board) (sym became) board;
        in_time =
            subst (λ (w : List Due). AreInTime (moment_after new.clock new.patience) w) (sym waits)
            (subst (λ c. AreInTime (moment_after c new.patience) (without stan old.board.waiting.items)) (sym clock)
            (subst (λ p. AreInTime (moment_after old.clock p) (without stan old.board.waiting.items)) (sym patient)
            (time.less (moment_after old.clock old.patience) stan old.board.waiting.items is.in_time)));
      }

-- it is told a moment
pub driving-moment : (time : StayInTime) {L : Type 0} (is_ready : L → Type 0) (synced pending : L → List Note) (old new : Driver L) → IsDriving is_ready synced pending old →
    new.acquirer ≡ old.acquirer → new.id ≡ old.id → new.board ≡ old.board → new.patience ≡ old.patience → old.clock ≤ new.clock → IsDriving is_ready synced pending new
driving-moment time is_ready synced pending old new is acquirer own board patient on = record {
  consistent = subst (IsConsistent is_ready synced pending) (sym acquirer) is.consistent;
  own = own ∙ is.own ∙ sym (ap (λ a. a.acquirer.id) acquirer);
  board =
      subst (λ a. IsBoard new.board (in_memory (diary_of synced pending a)).slots) (sym acquirer)
      (subst (λ (b : Board). IsBoard b (in_memory (diary_of synced pending old.acquirer)).slots) (sym board) is.board);
  in_time =
      subst (λ (b : Board). AreInTime (moment_after new.clock new.patience) b.waiting.items) (sym board)
      (subst (λ p. AreInTime (moment_after new.clock p) old.board.waiting.items) (sym patient)
      (time.later (moment_after old.clock old.patience) (moment_after new.clock old.patience) old.board.waiting.items (later old.clock new.clock old.patience on) is.in_time));
}
