-- The orders as a driver has them, where the acquirer's change.
use Rattle.std.proofs.Common.{◌≡◌, ℕ, cond, refl, arith, ap, sym, ◌∙◌, List, [], ◌∷◌, ◌++◌, length, ◌<◌, ◌+◌, ◌-◌, slice_set, subst}
use Rattle.std.specs.Prelude.{◌==◌, Option, Some, None, slice_get, option_map, map}
use Rattle.std.proofs.lemmas.Bool.{eq-eqb}
use Rattle.std.proofs.lemmas.Option.{same_Some, slice_get-map}
use Rattle.std.proofs.lemmas.List.{map-set, map-append, length-append, length-map}
use Rattle.iso_order.specs.declared.act.Act.{Act}
use Rattle.iso_order.specs.declared.act.Act.TheVariants.{Debit}
use Rattle.iso_order.specs.declared.act.Money.{Money}
use Rattle.iso_order.specs.declared.key.TxKey.{TxKey}
use Rattle.iso_order.specs.Order.{Instruction}
use Rattle.iso_acquirer.specs.declared.slot.Slot.{Slot}
use Rattle.iso_acquirer.specs.declared.slot.Role.{Role as Part}
use Rattle.iso_acquirer.specs.declared.slot.Role.TheVariants.{Transaction, Reversal}
use Rattle.iso_acquirer.specs.declared.slot.Stage.{Stage}
use Rattle.iso_acquirer.specs.declared.slot.Stage.TheVariants as phase
use Rattle.iso_acquirer.specs.declared.state.State.{State}
use Rattle.iso_acquirer.specs.declared.state.State.TheVariants.{Waiting}
use Rattle.iso_acquirer.specs.Acquirer.{slot_at, state_at_stage, on_stage, slot_at_stage, slots_at_stage, timeout, timeout_of_slot, timeout_in_role, timeout_at_stage, slots_with_reversal, reversal_for, transaction_of}
use Rattle.iso_restarts.specs.Diary.{slots_asked}
use Rattle.iso_drive.specs.declared.made.Made.{Made}
use Rattle.iso_drive.specs.declared.made.Role.TheVariants.{Payment}
use Rattle.iso_drive.specs.Made.{made_of, role_of, debit_in, IsTabled}
use Rattle.iso_drive.proofs.Row.{placed, written, row-changed, row-push, found}

-- ---- to look an order up

pub made-at : (made : List Made) (slots : List Slot) (stan : ℕ) → IsTabled made slots → 0 < stan → slice_get made (stan - 1) ≡ option_map made_of (slot_at slots stan)
made-at made slots stan t some =
    ap (λ (m : List Made). slice_get m (stan - 1)) t.same
    ∙ slice_get-map made_of slots (stan - 1)
    ∙ ap (option_map made_of) (sym (placed slots 1 (stan - 1) stan t.in_row (omega arith)))

pub made-length : (made : List Made) (slots : List Slot) → IsTabled made slots → length made ≡ length slots
made-length made slots t = ap length t.same ∙ length-map slots made_of

-- ---- to change it

pub length-changed : (step : Stage → Stage) (m : ℕ) (slots : List Slot) → length (slots_at_stage step m slots) ≡ length slots
length-changed step m slots = length-map slots (λ (s : Slot). cond (s.order.key.stan == m) (slot_at_stage step s) s)

pub made-stage : (step : Stage → Stage) (s : Slot) (stage : Stage) (state : State) → s.role ≡ Transaction stage → state_at_stage (step stage) ≡ state →
    made_of (slot_at_stage step s) ≡ record { key = s.order.key; debit = debit_in s.order.act; role = Payment state }
made-stage step s stage state is to =
    ap (λ (r : Part). record { key = s.order.key; debit = debit_in s.order.act; role = role_of (on_stage step r) }) is
    ∙ ap (λ (x : State). record { key = s.order.key; debit = debit_in s.order.act; role = Payment x }) to

pub tabled-stage : (made : List Made) (slots : List Slot) (stan : ℕ) (s : Slot) (stage : Stage) (step : Stage → Stage) (state : State) → IsTabled made slots → slot_at slots stan ≡ Some s →
    s.role ≡ Transaction stage → state_at_stage (step stage) ≡ state →
    IsTabled (slice_set made (stan - 1) (record { key = s.order.key; debit = debit_in s.order.act; role = Payment state })) (slots_at_stage step stan slots)
tabled-stage made slots stan s stage step state t there is to =
    let at = found slots 1 stan s t.in_row there in
    record {
      few = rw (length-changed step stan slots) t.few;
      in_row = row-changed step stan slots 1 t.in_row;
      same =
          ap (λ (m : List Made). slice_set m (stan - 1) (record { key = s.order.key; debit = debit_in s.order.act; role = Payment state })) t.same
          ∙ ap (λ (x : Made). slice_set (map made_of slots) (stan - 1) x) (sym (made-stage step s stage state is to))
          ∙ sym (map-set made_of slots (stan - 1) (slot_at_stage step s))
          ∙ ap (map made_of) (written step slots 1 (stan - 1) stan s (slot_at_stage step s) t.in_row (omega (arith, at.1)) there refl);
    }

pub tabled-push : (made : List Made) (slots : List Slot) (s : Slot) → IsTabled made slots → length slots < 999999 → s.order.key.stan ≡ length slots + 1 →
    IsTabled (made ++ made_of s ∷ []) (slots ++ s ∷ [])
tabled-push made slots s t few next = record {
  few = omega (arith, length-append slots (s ∷ []), few);
  in_row = row-push slots s 1 t.in_row (omega (arith, next));
  same = ap (λ (m : List Made). m ++ made_of s ∷ []) t.same ∙ sym (map-append made_of slots (s ∷ []));
}

-- ---- what a time-out makes of the acquirer's

pub asked-at : (slots : List Slot) (stan : ℕ) (f : Option Slot) → slot_at slots stan ≡ f → slots_asked slots (timeout slots stan) ≡ slots_asked slots (timeout_of_slot slots f)
asked-at slots stan f h = ap (λ (g : Option Slot). slots_asked slots (timeout_of_slot slots g)) h

pub asked-role : (slots : List Slot) (stan : ℕ) (s : Slot) (role : Part) → slot_at slots stan ≡ Some s → s.role ≡ role → slots_asked slots (timeout slots stan) ≡ slots_asked slots (timeout_in_role slots s.order role)
asked-role slots stan s role there is = asked-at slots stan (Some s) there ∙ ap (λ (r : Part). slots_asked slots (timeout_in_role slots s.order r)) is

pub stage-waits : (stage : Stage) (n : ℕ) → state_at_stage stage ≡ Waiting n → stage ≡ phase.Waiting n
stage-waits (phase.Waiting m) n h = cc
stage-waits (phase.Reversing u) n h = cc
stage-waits phase.Approved n h = cc
stage-waits (phase.Declined c) n h = cc
stage-waits (phase.Reversed u) n h = cc

pub asked-again : (slots : List Slot) (o : Instruction) (n : ℕ) → n ≡ 1 → slots_asked slots (timeout_at_stage slots o (phase.Waiting n)) ≡ slots_at_stage (λ _. phase.Waiting 2) o.key.stan slots
asked-again slots o n is = rw (eq-eqb n 1 is) refl

-- ---- a time-out, and what the driver makes of it

pub asked-once : (slots : List Slot) (s : Slot) (stage : Stage) (n : ℕ) → state_at_stage stage ≡ Waiting n → n ≡ 1 →
    slots_at_stage (λ _. phase.Waiting 2) s.order.key.stan slots ≡ slots_asked slots (timeout_at_stage slots s.order stage)
asked-once slots s stage n waits is =
    sym (ap (λ (p : Stage). slots_asked slots (timeout_at_stage slots s.order p)) (stage-waits stage n waits) ∙ asked-again slots s.order n is)

payment-role : (role : Part) (state : State) → role_of role ≡ Payment state → (stage : Stage) × (role ≡ Transaction stage) × (state_at_stage stage ≡ state)
payment-role (Transaction stage) state h = (stage, refl, cc)
payment-role (Reversal k) state h = cc

made-found : (f : Option Slot) (m : Made) → Some m ≡ option_map made_of f → (s : Slot) × (f ≡ Some s) × (made_of s ≡ m)
made-found None m h = cc
made-found (Some s) m h = (s, refl, sym (same_Some m (made_of s) h))

pub timed-out : (old new : List Made) (slots : List Slot) (stan : ℕ) (m : Made) (state : State) → IsTabled old slots → Some m ≡ option_map made_of (slot_at slots stan) → m.role ≡ Payment state →
    ((s : Slot) (stage : Stage) → slot_at slots m.key.stan ≡ Some s → s.role ≡ Transaction stage → made_of s ≡ m → state_at_stage stage ≡ state → IsTabled new (slots_asked slots (timeout_at_stage slots s.order stage))) →
    IsTabled new (slots_asked slots (timeout slots stan))
timed-out old new slots stan m state t there role by =
    let one = made-found (slot_at slots stan) m there in
    let pays = payment-role one.0.role state (ap (λ (x : Made). x.role) one.2 ∙ role) in
    let own : m.key.stan ≡ stan = sym (ap (λ (x : Made). x.key.stan) one.2) ∙ (found slots 1 stan one.0 t.in_row one.1).0 in
    subst (IsTabled new) (sym (asked-role slots stan one.0 (Transaction pays.0) one.1 pays.1))
    (by one.0 pays.0 (ap (slot_at slots) own ∙ one.1) pays.1 one.2 pays.2)

pub tabled-reversed : (mid new : List Made) (slots : List Slot) (s : Slot) (u : Instruction) → IsTabled mid (slots_at_stage (λ _. phase.Reversing u.key.stan) s.order.key.stan slots) → u.key.stan ≡ length slots + 1 →
    length slots < 999999 → new ≡ mid ++ made_of (reversal_for s.order.key.stan u) ∷ [] → IsTabled new (slots_with_reversal slots s.order.key.stan u)
tabled-reversed mid new slots s u t next few is =
    let same = length-changed (λ _. phase.Reversing u.key.stan) s.order.key.stan slots in
    subst (λ (l : List Made). IsTabled l (slots_with_reversal slots s.order.key.stan u)) (sym is)
    (tabled-push mid (slots_at_stage (λ _. phase.Reversing u.key.stan) s.order.key.stan slots) (reversal_for s.order.key.stan u) t (omega (arith, same, few)) (omega (arith, same, next)))

-- ---- a purchase that begins

pub made-begun : (o : Instruction) (k : TxKey) (m : Money) → k ≡ o.key → Debit m ≡ o.act → record { key = k; debit = Some m; role = Payment (Waiting 1) } ≡ made_of (transaction_of o)
made-begun o k m key act =
    ap (λ (x : TxKey). record { key = x; debit = Some m; role = Payment (Waiting 1) }) key
    ∙ ap (λ (a : Act). record { key = o.key; debit = debit_in a; role = Payment (Waiting 1) }) act
