-- What an answer comes to.
use Rattle.std.proofs.Common.{◌≡◌, ℕ, zero, suc, Bool, true, false, refl, arith, ap, sym, ◌∙◌, List, [], ◌∷◌, ◌-◌, cond, slice_set, inl, inr, subst}
use Rattle.std.specs.Prelude.{◌==◌, ◌||◌, not, Option, Some, None, option_map, slice_get}
use Rattle.std.proofs.lemmas.Bool.{both_ways, eqb-true, eqb-false}
use Rattle.std.proofs.lemmas.Option.{same_Some}
use Rattle.iso_order.specs.declared.key.TxKey.{TxKey}
use Rattle.iso_order.specs.Key.{same_key}
use Rattle.iso_acquirer.specs.declared.slot.Slot.{Slot}
use Rattle.iso_acquirer.specs.declared.slot.Role.{Role as Part}
use Rattle.iso_acquirer.specs.declared.slot.Role.TheVariants.{Transaction, Reversal}
use Rattle.iso_acquirer.specs.declared.slot.Stage.{Stage}
use Rattle.iso_acquirer.specs.declared.slot.Stage.TheVariants as phase
use Rattle.iso_acquirer.specs.declared.state.State.{State}
use Rattle.iso_acquirer.specs.declared.state.State.TheVariants.{Waiting, Reversing, Approved, Declined, Reversed}
use Rattle.iso_acquirer.specs.Acquirer.{slot_at, state_of, state_in_role, state_at_stage, on_stage, slot_at_stage, slots_at_stage, stage_after, stage_after_undo, slots_after_answer, slots_after_answer_of_slot, slots_after_answer_in_role}
use Rattle.iso_acquirer.specs.Agreement.{is_closed}
use Rattle.iso_drive.specs.declared.made.Made.{Made}
use Rattle.iso_drive.specs.declared.made.Role.TheVariants.{Payment, Reversal as Undone}
use Rattle.iso_drive.specs.Answered.{has_key, is_made, Closes, ComesTo}
use Rattle.iso_drive.specs.Made.{made_of, role_of, AreInRow, own_end, undo_end, undo_end_in, undo_end_at, told_by, IsTabled}
use Rattle.iso_drive.specs.Open.{is_open, is_open_at}
use Rattle.iso_drive.proofs.Row.{placed, unchanged, written, found}
use Rattle.iso_drive.proofs.Opened.{state-found, state-other, state-same, state-none, answer-shape}

-- ---- an answer that closes a transaction changes its stage

pub closes-step : (slots : List Slot) (key : TxKey) (code stan : ℕ) (state : State) → Closes slots key code stan state →
    (step : Stage → Stage) × (slots_after_answer slots key code ≡ slots_at_stage step stan slots)
closes-step slots key code stan state h =
    elim (answer-shape slots key code) [
      | inl e ↦ absurd (both_ways (is_open_at slots stan) (ap (λ (l : List Slot). is_open_at l stan) (sym e) ∙ shut) h.was_open)
      | inr e ↦ (e.0, e.2 ∙ by_test e.0 e.1 e.2 (e.1 == stan) refl)
    ]
  where
    shut : is_open_at (slots_after_answer slots key code) stan ≡ false
    shut = ap is_open h.now ∙ ap not h.closed

    by_test : (step : Stage → Stage) (m : ℕ) → slots_after_answer slots key code ≡ slots_at_stage step m slots → (b : Bool) → (m == stan) ≡ b → slots_at_stage step m slots ≡ slots_at_stage step stan slots
    by_test step m e true t = ap (λ k. slots_at_stage step k slots) (eqb-true m stan t)
    by_test step m e false t =
        absurd (both_ways (is_open_at slots stan)
        (sym (ap is_open (state-other step m slots stan (eqb-false m stan t))) ∙ ap (λ (l : List Slot). is_open_at l stan) (sym e) ∙ shut) h.was_open)

-- an open transaction is kept
pub open-found : (slots : List Slot) (stan : ℕ) → is_open_at slots stan ≡ true → (s : Slot) × (stage : Stage) × (slot_at slots stan ≡ Some s) × (s.role ≡ Transaction stage)
open-found slots stan h = at (slot_at slots stan) refl
  where
    by_role : (s : Slot) → slot_at slots stan ≡ Some s → (role : Part) → s.role ≡ role → (s : Slot) × (stage : Stage) × (slot_at slots stan ≡ Some s) × (s.role ≡ Transaction stage)
    by_role s there (Transaction stage) is = (s, stage, there, is)
    by_role s there (Reversal k) is = absurd (both_ways (is_open_at slots stan) (ap is_open (state-found slots stan s there ∙ ap state_in_role is)) h)

    at : (f : Option Slot) → slot_at slots stan ≡ f → (s : Slot) × (stage : Stage) × (slot_at slots stan ≡ Some s) × (s.role ≡ Transaction stage)
    at None e = absurd (both_ways (is_open_at slots stan) (ap is_open (state-none slots stan e)) h)
    at (Some s) e = by_role s e s.role refl

-- which are open after it
pub open-closed : (slots : List Slot) (key : TxKey) (code stan : ℕ) (state : State) (n : ℕ) → Closes slots key code stan state →
    is_open_at (slots_after_answer slots key code) n ≡ cond (n == stan) false (is_open_at slots n)
open-closed slots key code stan state n h = go (n == stan) refl
  where
    go : (b : Bool) → (n == stan) ≡ b → is_open_at (slots_after_answer slots key code) n ≡ cond (n == stan) false (is_open_at slots n)
    go true t =
        ap (is_open_at (slots_after_answer slots key code)) (eqb-true n stan t) ∙ ap is_open h.now ∙ ap not h.closed
        ∙ sym (ap (λ b. cond b false (is_open_at slots n)) t)
    go false t =
        let to = closes-step slots key code stan state h in
        ap (λ (l : List Slot). is_open_at l n) to.1 ∙ ap is_open (state-other to.0 stan slots n (λ e. eqb-false n stan t (sym e)))
        ∙ sym (ap (λ b. cond b false (is_open_at slots n)) t)

-- ---- an answer that leaves its transaction as it is

-- to write what stands there changes nothing
set-same : {X : Type 0} (xs : List X) (i : ℕ) (x : X) → slice_get xs i ≡ Some x → slice_set xs i x ≡ xs
set-same [] i x h = cc
set-same (y ∷ ys) zero x h = let same : x ≡ y = cc in ap (λ z. z ∷ ys) same
set-same (y ∷ ys) (suc i) x h = ap (λ zs. y ∷ zs) (set-same ys i x h)

stays : (step : Stage → Stage) (slots : List Slot) (m : ℕ) (s : Slot) → AreInRow 1 slots → slot_at slots m ≡ Some s → slot_at_stage step s ≡ s → slots_at_stage step m slots ≡ slots
stays step slots m s row there same =
    let at = found slots 1 m s row there in
    sym (written step slots 1 (m - 1) m s s row (omega (arith, at.1)) there same)
    ∙ set-same slots (m - 1) s (sym (placed slots 1 (m - 1) m row (omega (arith, at.1))) ∙ there)

stays-role : (step : Stage → Stage) (s : Slot) (role : Part) → s.role ≡ role → on_stage step role ≡ role → slot_at_stage step s ≡ s
stays-role step s role is same = ap (λ (r : Part). record { order = s.order; role = r }) (ap (on_stage step) is ∙ same ∙ sym is)

module _ (slots : List Slot) (key : TxKey) (code : ℕ) (s : Slot) (row : AreInRow 1 slots) (there : slot_at slots key.stan ≡ Some s) (same : same_key s.order.key key ≡ true) where
  pub made-is : is_made slots key ≡ true
  made-is = ap (λ (f : Option Slot). has_key f key) there ∙ same

  after : (role : Part) → s.role ≡ role → slots_after_answer slots key code ≡ slots_after_answer_in_role slots key.stan code role
  after role is =
      ap (slots_after_answer_of_slot slots key code) there ∙ ap (λ b. cond b (slots_after_answer_in_role slots key.stan code s.role) slots) same
      ∙ ap (slots_after_answer_in_role slots key.stan code) is

  known : (step : Stage → Stage) (m : ℕ) (t : Slot) (stage : Stage) → slots_after_answer slots key code ≡ slots_at_stage step m slots → slot_at slots m ≡ Some t → t.role ≡ Transaction stage → step stage ≡ stage →
      ComesTo slots key code (told_by m None)
  known step m t stage e at is keeps =
      (e ∙ stays step slots m t row at (stays-role step t (Transaction stage) is (ap Transaction keeps)), made-is)

  closes : (step : Stage → Stage) (m : ℕ) (t : Slot) (stage : Stage) (state : State) → slots_after_answer slots key code ≡ slots_at_stage step m slots → slot_at slots m ≡ Some t → t.role ≡ Transaction stage →
      is_closed (state_at_stage stage) ≡ false → state_at_stage (step stage) ≡ state → is_closed state ≡ true → ComesTo slots key code (told_by m (Some state))
  closes step m t stage state e at is opened to shut = record {
    made = made-is;
    was_open = ap is_open (state-found slots m t at ∙ ap state_in_role is) ∙ ap not opened;
    now = ap (λ (l : List Slot). state_of l m) e ∙ state-same step m slots t at ∙ ap (λ r. state_in_role (on_stage step r)) is ∙ ap Some to;
    closed = shut;
  }

  -- an answer to a transaction's own order
  pub own-comes : (stage : Stage) → s.role ≡ Transaction stage → ComesTo slots key code (told_by key.stan (own_end (state_at_stage stage) code))
  own-comes (phase.Waiting n) is = go (code == 0) refl ((code == 94) || (code == 96)) refl
    where
      go : (a : Bool) → (code == 0) ≡ a → (b : Bool) → ((code == 94) || (code == 96)) ≡ b → ComesTo slots key code (told_by key.stan (own_end (Waiting n) code))
      go true e b f = rw e (closes (stage_after code) key.stan s (phase.Waiting n) Approved (after (Transaction (phase.Waiting n)) is) there is refl (rw e refl) refl)
      go false e true f = rw (e, f) (known (stage_after code) key.stan s (phase.Waiting n) (after (Transaction (phase.Waiting n)) is) there is (rw (e, f) refl))
      go false e false f = rw (e, f) (closes (stage_after code) key.stan s (phase.Waiting n) (Declined code) (after (Transaction (phase.Waiting n)) is) there is refl (rw (e, f) refl) refl)
  own-comes (phase.Reversing u) is = known (stage_after code) key.stan s (phase.Reversing u) (after (Transaction (phase.Reversing u)) is) there is refl
  own-comes phase.Approved is = known (stage_after code) key.stan s phase.Approved (after (Transaction phase.Approved) is) there is refl
  own-comes (phase.Declined c) is = known (stage_after code) key.stan s (phase.Declined c) (after (Transaction (phase.Declined c)) is) there is refl
  own-comes (phase.Reversed u) is = known (stage_after code) key.stan s (phase.Reversed u) (after (Transaction (phase.Reversed u)) is) there is refl

  undo-by : (m : ℕ) → s.role ≡ Reversal m → (t : Slot) (stage : Stage) → slot_at slots m ≡ Some t → t.role ≡ Transaction stage → ComesTo slots key code (told_by m (undo_end (state_at_stage stage) code))
  undo-by m is t (phase.Waiting n) at role = known (stage_after_undo code) m t (phase.Waiting n) (after (Reversal m) is) at role refl
  undo-by m is t (phase.Reversing u) at role = go (code == 0) refl
    where
      go : (a : Bool) → (code == 0) ≡ a → ComesTo slots key code (told_by m (undo_end Reversing code))
      go true e = rw e (closes (stage_after_undo code) m t (phase.Reversing u) Reversed (after (Reversal m) is) at role refl (rw e refl) refl)
      go false e = rw e (known (stage_after_undo code) m t (phase.Reversing u) (after (Reversal m) is) at role (rw e refl))
  undo-by m is t phase.Approved at role = known (stage_after_undo code) m t phase.Approved (after (Reversal m) is) at role refl
  undo-by m is t (phase.Declined c) at role = known (stage_after_undo code) m t (phase.Declined c) (after (Reversal m) is) at role refl
  undo-by m is t (phase.Reversed u) at role = known (stage_after_undo code) m t (phase.Reversed u) (after (Reversal m) is) at role refl

  undo-role : (m : ℕ) → s.role ≡ Reversal m → (t : Slot) → slot_at slots m ≡ Some t → (role : Part) → t.role ≡ role → ComesTo slots key code (told_by m (undo_end_in (role_of role) code))
  undo-role m is t at (Transaction stage) role = undo-by m is t stage at role
  undo-role m is t at (Reversal k) role =
      (after (Reversal m) is ∙ stays (stage_after_undo code) slots m t row at (stays-role (stage_after_undo code) t (Reversal k) role refl), made-is)

  -- an answer to the reversal of a transaction
  pub undo-comes : (m : ℕ) → s.role ≡ Reversal m → (f : Option Slot) → slot_at slots m ≡ f → ComesTo slots key code (told_by m (undo_end_at (option_map made_of f) code))
  undo-comes m is None at = (after (Reversal m) is ∙ unchanged (stage_after_undo code) slots m at, made-is)
  undo-comes m is (Some t) at = undo-role m is t at t.role refl

-- ---- the orders as the driver has them, once an answer closed a transaction

pub tabled-closed : (old new : List Made) (slots : List Slot) (key : TxKey) (code stan : ℕ) (state : State) → Closes slots key code stan state →
    ((s : Slot) (stage : Stage) (step : Stage → Stage) → slot_at slots stan ≡ Some s → s.role ≡ Transaction stage → state_at_stage (step stage) ≡ state → IsTabled new (slots_at_stage step stan slots)) →
    IsTabled new (slots_after_answer slots key code)
tabled-closed old new slots key code stan state h put =
    let one = open-found slots stan h.was_open in
    let to = closes-step slots key code stan state h in
    let ends : Some (state_at_stage (to.0 one.1)) ≡ Some state =
    sym (ap (λ r. state_in_role (on_stage to.0 r)) one.3) ∙ sym (state-same to.0 stan slots one.0 one.2) ∙ ap (λ (l : List Slot). state_of l stan) (sym to.1) ∙ h.now in
    subst (IsTabled new) (sym to.1) (put one.0 one.1 to.0 one.2 one.3 (same_Some (state_at_stage (to.0 one.1)) state ends))

-- ---- what the driver makes of an answer, by the orders as it has them

judged : (f : Option Slot) (m : Made) → Some m ≡ option_map made_of f → (s : Slot) × (f ≡ Some s) × (made_of s ≡ m)
judged None m h = cc
judged (Some s) m h = (s, refl, sym (same_Some m (made_of s) h))

payment : (role : Part) (state : State) → role_of role ≡ Payment state → (stage : Stage) × (role ≡ Transaction stage) × (state_at_stage stage ≡ state)
payment (Transaction stage) state h = (stage, refl, cc)
payment (Reversal k) state h = cc

reversal : (role : Part) (k : ℕ) → role_of role ≡ Undone k → role ≡ Reversal k
reversal (Transaction stage) k h = cc
reversal (Reversal n) k h = cc

pub own-judged : (slots : List Slot) (key : TxKey) (code : ℕ) (m : Made) (state : State) → AreInRow 1 slots → Some m ≡ option_map made_of (slot_at slots key.stan) → same_key m.key key ≡ true →
    m.role ≡ Payment state → ComesTo slots key code (told_by key.stan (own_end state code))
own-judged slots key code m state row there same role =
    let one = judged (slot_at slots key.stan) m there in
    let pays = payment one.0.role state (ap (λ (x : Made). x.role) one.2 ∙ role) in
    subst (λ (x : State). ComesTo slots key code (told_by key.stan (own_end x code))) pays.2
    (own-comes slots key code one.0 row one.1 (ap (λ (x : Made). same_key x.key key) one.2 ∙ same) pays.0 pays.1)

pub undo-judged : (slots : List Slot) (key : TxKey) (code : ℕ) (m : Made) (k : ℕ) → AreInRow 1 slots → Some m ≡ option_map made_of (slot_at slots key.stan) → same_key m.key key ≡ true →
    m.role ≡ Undone k → ComesTo slots key code (told_by k (undo_end_at (option_map made_of (slot_at slots k)) code))
undo-judged slots key code m k row there same role =
    let one = judged (slot_at slots key.stan) m there in
    undo-comes slots key code one.0 row one.1 (ap (λ (x : Made). same_key x.key key) one.2 ∙ same) k
    (reversal one.0.role k (ap (λ (x : Made). x.role) one.2 ∙ role)) (slot_at slots k) refl
