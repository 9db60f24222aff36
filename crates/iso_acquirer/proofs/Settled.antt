-- The books of both ends, where nothing is open.
use Rattle.std.proofs.Common.{◌≡◌, ℕ, Bool, true, false, refl, arith, ap, sym, ◌∙◌, subst, List, [], ◌∷◌, cond, append-nil}
use Rattle.std.specs.Prelude.{◌==◌, Some, None, map, is_some, option_and_then, ℤ, pos, ◌+ℤ◌, ◌-ℤ◌}
use Rattle.std.specs.List.{AllByRecursion}
use Rattle.std.proofs.lemmas.Int.{ints}
use Rattle.std.proofs.lemmas.Option.{same_Some}
use Rattle.iso_order.specs.declared.act.Act.TheVariants.{Debit}
use Rattle.iso_order.specs.declared.act.Money.{Money}
use Rattle.iso_order.specs.Pan.{AccountNumber}
use Rattle.iso_order.specs.declared.key.TxKey.{TxKey}
use Rattle.iso_order.specs.Key.{class_digit}
use Rattle.iso_order.specs.Order.{Instruction, same_pan}
use Rattle.iso_issuer.specs.declared.account.Account.{Account}
use Rattle.iso_issuer.specs.declared.effect.Side.TheVariants.{Credited, Debited, Held}
use Rattle.iso_issuer.specs.declared.journal.Entry.{Entry}
use Rattle.iso_issuer.specs.Effect.{effect_of, effect_by, effect_amount}
use Rattle.iso_issuer.specs.Journal.{entry_at, is_standing, weight, is_entered, HasDistinctKeys}
use Rattle.iso_issuer.specs.Balance.{share, total, ledger}
use Rattle.iso_issuer.specs.Decision.{journal_of}
use Rattle.iso_issuer.specs.Books.{journal}
use Rattle.iso_issuer.specs.Laws.{EntriesAreOfOrders, EnteredHasEntry}
use Rattle.iso_issuer.specs.StandingLaws.{GrantedWeighsAll, DeclinedFalls, FallenWeighsNothing, NoneIsNone, NeverStands, StandsNoMore, ReversedNeverStands}
use Rattle.iso_acquirer.specs.declared.slot.Slot.{Slot}
use Rattle.iso_acquirer.specs.declared.slot.Role.{Role}
use Rattle.iso_acquirer.specs.declared.slot.Role.TheVariants.{Transaction, Reversal}
use Rattle.iso_acquirer.specs.declared.slot.Stage.{Stage}
use Rattle.iso_acquirer.specs.declared.slot.Stage.TheVariants.{Waiting, Reversing, Approved, Declined, Reversed}
use Rattle.iso_acquirer.specs.Acquirer.{slot_at, state_at_stage, state_in_role}
use Rattle.iso_acquirer.specs.World.{World}
use Rattle.iso_acquirer.specs.Agreed.{IsTransaction, IsRole, IsKnown, IsSound}
use Rattle.iso_acquirer.specs.Agreement.{is_closed, is_state_approved, debit_amount, approved_total, IsSettled, BooksAgree}
use Rattle.iso_acquirer.proofs.Lists.{all-weaker}
use Rattle.iso_acquirer.proofs.Numbered.{found}
use Rattle.iso_acquirer.proofs.Made.{class_two}
use Rattle.iso_acquirer.proofs.Clauses.{found_known, slot_of_order, kept_entry, debit_effect, approved_granted, declined-never, reversed-never}
use Rattle.iso_acquirer.proofs.Sums.{sum-all, sum-none, all-map, all-slots, all-entries, slot_sum, at_slot, IsOwnIn, to-slots}

-- what the acquirer's books count of an order
abbrev approved_in : AccountNumber → Slot → ℕ
approved_in pan s = cond (is_state_approved (state_in_role s.role)) (debit_amount pan s.order.act) 0

zero_cond : (b : Bool) (n : ℕ) → n ≡ 0 → cond b n 0 ≡ 0
zero_cond true n h = h
zero_cond false n h = refl

never_now : (accounts : List Account) (orders : List Instruction) (k : TxKey) (e : Entry) → NeverStands accounts orders k → HasDistinctKeys orders →
    entry_at (journal_of accounts orders) k ≡ Some e → is_standing (journal_of accounts orders) e ≡ false
never_now accounts orders k e never distinct here =
    subst (λ os. HasDistinctKeys os → entry_at (journal_of accounts os) k ≡ Some e → is_standing (journal_of accounts os) e ≡ false) (append-nil orders) (λ d h. never [] e d h) distinct here

-- a debit of class 2 takes its amount
debit_taken : (o : Instruction) (m : Money) → o.act ≡ Debit m → class_digit o.key ≡ 2 → effect_of o ≡ Some (record { pan = m.pan; side = Debited; amount = m.amount; ends = None })
debit_taken o m act two =
    ap (effect_by o.key) act ∙ ap (λ c. Some (record { pan = m.pan; side = cond (c == 1) Held Debited; amount = m.amount; ends = None })) two

-- what an entry counts for
record Counts (w : World) (pan : AccountNumber) (e : Entry) : Type 0 where
  taken : share Debited pan (effect_of e.order) (weight (journal w.issuer) e) ≡ at_slot w.acquirer.slots (approved_in pan) e.order.key.stan
  given : share Credited pan (effect_of e.order) (weight (journal w.issuer) e) ≡ 0
  held : share Held pan (effect_of e.order) (weight (journal w.issuer) e) ≡ 0

plain : (z : ℤ) (n : ℕ) → z +ℤ pos 0 -ℤ pos n ≡ z -ℤ pos n
plain z n = omega (arith, ints)

plain_too : (z : ℤ) (n : ℕ) → z -ℤ pos n -ℤ pos 0 ≡ z -ℤ pos n
plain_too z n = omega (arith, ints)

module _ (of_orders : EntriesAreOfOrders) (entered_has : EnteredHasEntry) (weighs : GrantedWeighsAll) (falls : DeclinedFalls) (nothing : FallenWeighsNothing)
    (none_is_none : NoneIsNone) (no_more : StandsNoMore) (never : ReversedNeverStands) (w : World) (sound : IsSound w) (settled : IsSettled w) (pan : AccountNumber) where
  orders_are : map (λ e. e.order) (journal w.issuer) ≡ w.issuer.orders
  orders_are = of_orders w.issuer.accounts w.issuer.orders

  distinct_entries : HasDistinctKeys (map (λ e. e.order) (journal w.issuer))
  distinct_entries = subst HasDistinctKeys (sym orders_are) sound.distinct

  owned : AllByRecursion (IsOwnIn w.acquirer.slots) (journal w.issuer)
  owned = both (journal w.issuer) sound.agreed.entries_known
      (all-map (λ (o : Instruction). o.key.acquirer ≡ w.acquirer.id) (λ (e : Entry). e.order) (journal w.issuer)
      (subst (AllByRecursion (λ (o : Instruction). o.key.acquirer ≡ w.acquirer.id)) (sym orders_are) settled.no_others))
    where
      both : (es : List Entry) → AllByRecursion (IsKnown w.acquirer.id w.acquirer.slots) es → AllByRecursion (λ (e : Entry). e.order.key.acquirer ≡ w.acquirer.id) es → AllByRecursion (IsOwnIn w.acquirer.slots) es
      both [] known own = tt
      both (e ∷ es) known own = (known.0.own own.0, both es known.1 own.1)

  -- an entry of a debit that weighs so much
  of_debit : (e : Entry) (s : Slot) (m : Money) (n : ℕ) → slot_at w.acquirer.slots e.order.key.stan ≡ Some s → s.order ≡ e.order → s.order.act ≡ Debit m → s.order.key.base ≡ 200 →
      weight (journal w.issuer) e ≡ n → cond (same_pan m.pan pan) n 0 ≡ approved_in pan s → Counts w pan e
  of_debit e s m n here same act base heavy amount =
      let act_is : e.order.act ≡ Debit m = ap (λ (o : Instruction). o.act) (sym same) ∙ act in
      let two : class_digit e.order.key ≡ 2 = class_two e.order.key (ap (λ (o : Instruction). o.key.base) (sym same) ∙ base) in
      let effect = debit_taken e.order m act_is two in
      record {
        taken = ap (λ f. share Debited pan f (weight (journal w.issuer) e)) effect ∙ ap (λ n. cond (same_pan m.pan pan) n 0) heavy ∙ amount ∙ ap (slot_sum (approved_in pan)) (sym here);
        given = ap (λ f. share Credited pan f (weight (journal w.issuer) e)) effect;
        held = ap (λ f. share Held pan f (weight (journal w.issuer) e)) effect;
      }

  -- one that doesn't stand
  of_fallen : (e : Entry) (s : Slot) (m : Money) → slot_at w.acquirer.slots e.order.key.stan ≡ Some s → s.order ≡ e.order → s.order.act ≡ Debit m → s.order.key.base ≡ 200 →
      entry_at (journal w.issuer) e.order.key ≡ Some e → NeverStands w.issuer.accounts w.issuer.orders s.order.key → is_state_approved (state_in_role s.role) ≡ false → Counts w pan e
  of_fallen e s m here same act base at stands_never off =
      of_debit e s m 0 here same act base
      (nothing (journal w.issuer) e (never_now w.issuer.accounts w.issuer.orders s.order.key e stands_never sound.distinct (ap (λ (o : Instruction). entry_at (journal w.issuer) o.key) same ∙ at)))
      (zero_cond (same_pan m.pan pan) 0 refl ∙ sym (ap (λ b. cond b (debit_amount pan s.order.act) 0) off))

  of_stage : (e : Entry) (s : Slot) → entry_at (journal w.issuer) e.order.key ≡ Some e → slot_at w.acquirer.slots e.order.key.stan ≡ Some s → s.order ≡ e.order →
      (stage : Stage) → s.role ≡ Transaction stage → is_closed (state_at_stage stage) ≡ true → IsTransaction (journal w.issuer) w.acquirer.slots s.order stage → Counts w pan e
  of_stage e s at here same (Waiting n) role closed t = cc
  of_stage e s at here same (Reversing u) role closed t = cc
  of_stage e s at here same Approved role closed t =
      let place = found w.acquirer.slots 1 e.order.key.stan s sound.agreed.numbered here in
      let g = approved_granted w.acquirer.id w.acquirer.slots w.sent w.given (journal w.issuer) sound.agreed none_is_none e.order.key.stan s here place.0 role in
      let entry : g.entry ≡ e = same_Some g.entry e (sym g.found_it ∙ ap (λ (o : Instruction). entry_at (journal w.issuer) o.key) same ∙ at) in
      let act_is : g.entry.order.act ≡ Debit t.money = ap (λ (o : Instruction). o.act) g.same ∙ t.debit in
      let two : class_digit g.entry.order.key ≡ 2 = class_two g.entry.order.key (ap (λ (o : Instruction). o.key.base) g.same ∙ t.base) in
      of_debit e s t.money t.money.amount here same t.debit t.base
      (ap (weight (journal w.issuer)) (sym entry) ∙ weighs (journal w.issuer) g.entry two (debit_effect g.entry.order t.money act_is) g.granted g.free ∙ ap effect_amount (debit_taken g.entry.order t.money act_is two))
      (sym (ap (λ r. cond (is_state_approved (state_in_role r)) (debit_amount pan s.order.act) 0) role ∙ ap (debit_amount pan) t.debit))
  of_stage e s at here same (Declined c) role closed t =
      of_fallen e s t.money here same t.debit t.base at
      (declined-never w.acquirer.id w.acquirer.slots w.sent w.given w.issuer.accounts w.issuer.orders sound.agreed no_more falls e.order.key.stan s c here role) (ap (λ r. is_state_approved (state_in_role r)) role)
  of_stage e s at here same (Reversed u) role closed t =
      of_fallen e s t.money here same t.debit t.base at
      (reversed-never w.acquirer.id w.acquirer.slots w.sent w.given w.issuer.accounts w.issuer.orders sound.agreed never e.order.key.stan s u here role) (ap (λ r. is_state_approved (state_in_role r)) role)

  of_role : (e : Entry) (s : Slot) → entry_at (journal w.issuer) e.order.key ≡ Some e → slot_at w.acquirer.slots e.order.key.stan ≡ Some s → s.order ≡ e.order →
      (role : Role) → s.role ≡ role → IsRole (journal w.issuer) w.acquirer.slots s.order role → Counts w pan e
  of_role e s at here same (Transaction stage) role t =
      of_stage e s at here same stage role
      (settled.closed e.order.key.stan (state_at_stage stage) (ap (option_and_then (λ (s : Slot). state_in_role s.role)) here ∙ ap state_in_role role)) t
  of_role e s at here same (Reversal k) role t =
      let none : effect_of e.order ≡ None = ap (effect_by e.order.key) (ap (λ (o : Instruction). o.act) (sym same) ∙ t.names) in
      record {
        taken = ap (λ f. share Debited pan f (weight (journal w.issuer) e)) none ∙ sym (ap (slot_sum (approved_in pan)) here ∙ ap (λ r. cond (is_state_approved (state_in_role r)) (debit_amount pan s.order.act) 0) role);
        given = ap (λ f. share Credited pan f (weight (journal w.issuer) e)) none;
        held = ap (λ f. share Held pan f (weight (journal w.issuer) e)) none;
      }

  each_counts : AllByRecursion (Counts w pan) (journal w.issuer)
  each_counts = all-entries (Counts w pan) (journal w.issuer) distinct_entries (λ e at.
      let known = found_known (IsOwnIn w.acquirer.slots) (journal w.issuer) e.order.key e owned at in
      let slot = slot_of_order w.acquirer.slots e.order.key.stan e.order known.0 in
      of_role e slot.0 at slot.1 slot.2 slot.0.role refl (sound.agreed.slots_hold e.order.key.stan slot.0 slot.1).role)

  -- what is approved is entered
  entered_amount : (s : Slot) → (role : Role) → s.role ≡ role → IsRole (journal w.issuer) w.acquirer.slots s.order role →
      cond (is_entered (map (λ e. e.order) (journal w.issuer)) s.order.key) (cond (is_state_approved (state_in_role role)) (debit_amount pan s.order.act) 0) 0 ≡ cond (is_state_approved (state_in_role role)) (debit_amount pan s.order.act) 0
  entered_amount s (Transaction Approved) role t =
      let kept = kept_entry (journal w.issuer) s.order.key 0 t.held in
      ap (λ b. cond b (debit_amount pan s.order.act) 0) (ap (λ os. is_entered os s.order.key) orders_are ∙ entered_has w.issuer.accounts w.issuer.orders s.order.key ∙ ap is_some kept.1)
  entered_amount s (Transaction (Waiting n)) role t = zero_cond _ 0 refl
  entered_amount s (Transaction (Reversing u)) role t = zero_cond _ 0 refl
  entered_amount s (Transaction (Declined c)) role t = zero_cond _ 0 refl
  entered_amount s (Transaction (Reversed u)) role t = zero_cond _ 0 refl
  entered_amount s (Reversal k) role t = zero_cond _ 0 refl

  taken_is : total Debited pan (journal w.issuer) ≡ approved_total pan w.acquirer.slots
  taken_is =
      sum-all (λ (e : Entry). share Debited pan (effect_of e.order) (weight (journal w.issuer) e)) (λ (e : Entry). at_slot w.acquirer.slots (approved_in pan) e.order.key.stan) (journal w.issuer)
      (all-weaker (Counts w pan) (λ (e : Entry). share Debited pan (effect_of e.order) (weight (journal w.issuer) e) ≡ at_slot w.acquirer.slots (approved_in pan) e.order.key.stan) (journal w.issuer) (λ e c. c.taken) each_counts)
      ∙ to-slots w.acquirer.slots (approved_in pan) sound.agreed.numbered (journal w.issuer) distinct_entries owned
      ∙ sum-all (λ (s : Slot). cond (is_entered (map (λ e. e.order) (journal w.issuer)) s.order.key) (approved_in pan s) 0) (approved_in pan) w.acquirer.slots
      (all-slots (λ (s : Slot). cond (is_entered (map (λ e. e.order) (journal w.issuer)) s.order.key) (approved_in pan s) 0 ≡ approved_in pan s) w.acquirer.slots 1 sound.agreed.numbered
      (λ n s here. entered_amount s s.role refl (sound.agreed.slots_hold n s here).role))

  given_is : total Credited pan (journal w.issuer) ≡ 0
  given_is = sum-none (λ (e : Entry). share Credited pan (effect_of e.order) (weight (journal w.issuer) e)) (journal w.issuer)
      (all-weaker (Counts w pan) (λ (e : Entry). share Credited pan (effect_of e.order) (weight (journal w.issuer) e) ≡ 0) (journal w.issuer) (λ e c. c.given) each_counts)

  held_is : total Held pan (journal w.issuer) ≡ 0
  held_is = sum-none (λ (e : Entry). share Held pan (effect_of e.order) (weight (journal w.issuer) e)) (journal w.issuer)
      (all-weaker (Counts w pan) (λ (e : Entry). share Held pan (effect_of e.order) (weight (journal w.issuer) e) ≡ 0) (journal w.issuer) (λ e c. c.held) each_counts)

-- the books of both ends agree
pub books-agree : EntriesAreOfOrders → EnteredHasEntry → GrantedWeighsAll → DeclinedFalls → FallenWeighsNothing → NoneIsNone → StandsNoMore → ReversedNeverStands →
    (w : World) → IsSound w → BooksAgree w
books-agree of_orders entered_has weighs falls nothing none_is_none no_more never w sound settled a = (
  on_ledger,
  ap (λ z. z -ℤ pos (total Held a.pan (journal w.issuer))) on_ledger
      ∙ ap (λ n. a.opening -ℤ pos (approved_total a.pan w.acquirer.slots) -ℤ pos n) (held_is of_orders entered_has weighs falls nothing none_is_none no_more never w sound settled a.pan)
      ∙ plain_too a.opening (approved_total a.pan w.acquirer.slots),
)
  where
    on_ledger : ledger (journal w.issuer) a ≡ a.opening -ℤ pos (approved_total a.pan w.acquirer.slots)
    on_ledger =
        ap (λ n. a.opening +ℤ pos n -ℤ pos (total Debited a.pan (journal w.issuer))) (given_is of_orders entered_has weighs falls nothing none_is_none no_more never w sound settled a.pan)
        ∙ ap (λ n. a.opening +ℤ pos 0 -ℤ pos n) (taken_is of_orders entered_has weighs falls nothing none_is_none no_more never w sound settled a.pan)
        ∙ plain a.opening (approved_total a.pan w.acquirer.slots)
