-- The acquirer makes an order: a debit, or a reversal.
use Rattle.std.proofs.Common.{◌≡◌, ℕ, Bool, true, false, refl, arith, ap, sym, ◌∙◌, subst, List, [], ◌∷◌, ◌++◌, length, ◌+◌, cond}
use Rattle.std.specs.Prelude.{◌==◌, Option, Some, None, option_map}
use Rattle.std.specs.List.{AllByRecursion}
use Rattle.std.specs.Option.{option_or}
use Rattle.std.proofs.lemmas.List.Folds.{find-append}
use Rattle.std.proofs.lemmas.Option.{same_Some, none-some}
use Rattle.std.proofs.lemmas.Bool.{eqb-true, eq-eqb}
use Rattle.iso_order.specs.declared.act.Act.TheVariants.{Debit}
use Rattle.iso_order.specs.declared.act.Money.{Money}
use Rattle.iso_order.specs.Order.{Instruction}
use Rattle.iso_issuer.specs.declared.journal.Entry.{Entry}
use Rattle.iso_acquirer.specs.declared.event.Given.{Given}
use Rattle.iso_acquirer.specs.declared.slot.Slot.{Slot}
use Rattle.iso_acquirer.specs.declared.slot.Role.{Role}
use Rattle.iso_acquirer.specs.declared.slot.Role.TheVariants.{Transaction, Reversal}
use Rattle.iso_acquirer.specs.declared.slot.Stage.TheVariants.{Waiting, Reversing}
use Rattle.iso_acquirer.specs.Acquirer.{slot_at, order_at, undo_of, reversal_under, on_stage, slot_at_stage, slots_at_stage, transaction_of, reversal_for, slots_with, slots_with_reversal}
use Rattle.iso_acquirer.specs.Room.{AreNumbered}
use Rattle.iso_acquirer.specs.Agreed.{answer_at, IsRole, IsSlot, IsKnown, IsAgreed}
use Rattle.iso_acquirer.proofs.Lists.{all-weaker, all-push, find-more}
use Rattle.iso_acquirer.proofs.Numbered.{above, found, numbered-changed, numbered-push, length-changed}
use Rattle.iso_acquirer.proofs.Clauses.{slot_of_order, same_stage}
use Rattle.iso_acquirer.proofs.Changed.{KeepsUndo, changed-found, changed-back, order-changed, known-changed, sent-changed, reversal-changed}

-- one of the acquirer's orders is sent, for the first time or again
pub agreed-sent : (id : ℕ) (slots : List Slot) (sent : List Instruction) (given : List Given) (entries : List Entry) (o : Instruction) →
    IsAgreed id slots sent given entries → order_at slots o.key.stan ≡ Some o → IsAgreed id slots (sent ++ o ∷ []) given entries
agreed-sent id slots sent given entries o w is = record {
  numbered = w.numbered;
  slots_hold = w.slots_hold;
  entries_known = w.entries_known;
  sent_known = all-push (λ (o : Instruction). order_at slots o.key.stan ≡ Some o) sent o w.sent_known is;
  given_kept = w.given_kept;
}

-- ---- one slot more

slot-last : (slots : List Slot) (s : Slot) (n : ℕ) → slot_at slots n ≡ None → slot_at (slots ++ s ∷ []) n ≡ cond (s.order.key.stan == n) (Some s) None
slot-last slots s n h = find-append (λ x. x.order.key.stan == n) slots (s ∷ []) ∙ ap (λ f. option_or f (cond (s.order.key.stan == n) (Some s) None)) h

pub slot-more : (slots : List Slot) (s : Slot) (n : ℕ) (t : Slot) → slot_at slots n ≡ Some t → slot_at (slots ++ s ∷ []) n ≡ Some t
slot-more slots s n t h = find-more (λ x. x.order.key.stan == n) slots (s ∷ []) t h

order-more : (slots : List Slot) (s : Slot) (n : ℕ) (o : Instruction) → order_at slots n ≡ Some o → order_at (slots ++ s ∷ []) n ≡ Some o
order-more slots s n o h =
    let slot = slot_of_order slots n o h in
    ap (option_map (λ (x : Slot). x.order)) (slot-more slots s n slot.0 slot.1) ∙ ap Some slot.2

-- the last slot is found
slot-new : (slots : List Slot) (s : Slot) → AreNumbered 1 slots → s.order.key.stan ≡ length slots + 1 → slot_at (slots ++ s ∷ []) s.order.key.stan ≡ Some s
slot-new slots s numbered next =
    slot-last slots s s.order.key.stan (above slots 1 s.order.key.stan numbered (omega (arith, next)))
    ∙ ap (λ b. cond b (Some s) None) (eq-eqb s.order.key.stan s.order.key.stan refl)

pub order-new : (slots : List Slot) (s : Slot) → AreNumbered 1 slots → s.order.key.stan ≡ length slots + 1 → order_at (slots ++ s ∷ []) s.order.key.stan ≡ Some s.order
order-new slots s numbered next = ap (option_map (λ (x : Slot). x.order)) (slot-new slots s numbered next)

role-more : (entries : List Entry) (slots : List Slot) (s : Slot) (o : Instruction) (role : Role) → IsRole entries slots o role → IsRole entries (slots ++ s ∷ []) o role
role-more entries slots s o (Transaction stage) h = record {
  base = h.base;
  money = h.money;
  debit = h.debit;
  held = h.held;
  undone = λ u e. order-more slots s u.key.stan u (h.undone u e);
}
role-more entries slots s o (Reversal stan) h = record {
  original = h.original;
  stage = h.stage;
  found = slot-more slots s stan h.original h.found;
  transaction = h.transaction;
  kept = h.kept;
  names = h.names;
}

agreed-made : (id : ℕ) (slots : List Slot) (sent : List Instruction) (given : List Given) (entries : List Entry) (s : Slot) →
    AreNumbered 1 slots →
    ((n : ℕ) (t : Slot) → slot_at slots n ≡ Some t → IsSlot id entries (slots ++ s ∷ []) t) →
    AllByRecursion (IsKnown id slots) entries → AllByRecursion (λ o. order_at slots o.key.stan ≡ Some o) sent → AllByRecursion (λ g. answer_at entries g.key ≡ Some g.answer) given →
    s.order.key.stan ≡ length slots + 1 → IsSlot id entries (slots ++ s ∷ []) s → IsAgreed id (slots ++ s ∷ []) sent given entries
agreed-made id slots sent given entries s numbered old_hold known sent_known given_kept next holds = record {
  numbered = numbered-push slots s 1 numbered (omega (arith, next));
  slots_hold = λ n t there. by_old n t (slot_at slots n) refl there;
  entries_known = all-weaker (IsKnown id slots) (IsKnown id (slots ++ s ∷ [])) entries
      (λ e known. record { valid = known.valid; own = λ is. order-more slots s e.order.key.stan e.order (known.own is) }) known;
  sent_known = all-weaker (λ (p : Instruction). order_at slots p.key.stan ≡ Some p) (λ (p : Instruction). order_at (slots ++ s ∷ []) p.key.stan ≡ Some p) sent
      (λ p known. order-more slots s p.key.stan p known) sent_known;
  given_kept = given_kept;
}
  where
    by_old : (n : ℕ) (t : Slot) (f : Option Slot) → slot_at slots n ≡ f → slot_at (slots ++ s ∷ []) n ≡ Some t → IsSlot id entries (slots ++ s ∷ []) t
    by_old n t (Some x) e there = subst (IsSlot id entries (slots ++ s ∷ [])) (same_Some x t (sym (slot-more slots s n x e) ∙ there)) (old_hold n x e)
    by_old n t None e there = by_test (s.order.key.stan == n) (sym (slot-last slots s n e) ∙ there)
      where
        by_test : (b : Bool) → cond b (Some s) None ≡ Some t → IsSlot id entries (slots ++ s ∷ []) t
        by_test true h = subst (IsSlot id entries (slots ++ s ∷ [])) (same_Some s t h) holds
        by_test false h = cc

-- a transaction begins
pub agreed-begun : (id : ℕ) (slots : List Slot) (sent : List Instruction) (given : List Given) (entries : List Entry) (o : Instruction) (m : Money) →
    IsAgreed id slots sent given entries → o.key.stan ≡ length slots + 1 → o.key.acquirer ≡ id → o.key.base ≡ 200 → o.act ≡ Debit m →
    IsAgreed id (slots_with slots o) (sent ++ o ∷ []) given entries
agreed-begun id slots sent given entries o m w next own base act =
    agreed-sent id (slots_with slots o) sent given entries o
    (agreed-made id slots sent given entries (transaction_of o) w.numbered
    (λ n s here. let old = w.slots_hold n s here in record { own = old.own; role = role-more entries slots (transaction_of o) s.order s.role old.role })
    w.entries_known w.sent_known w.given_kept next
    (record { own = own; role = record { base = base; money = m; debit = act; held = tt; undone = λ u is. absurd (none-some u is) } }))
    (order-new slots (transaction_of o) w.numbered next)

-- ---- a transaction that waits is reversed

module _ (id : ℕ) (slots : List Slot) (sent : List Instruction) (given : List Given) (entries : List Entry) (stan n : ℕ) (s : Slot) (u : Instruction)
    (w : IsAgreed id slots sent given entries) (here : slot_at slots stan ≡ Some s) (role : s.role ≡ Transaction (Waiting n))
    (next : u.key.stan ≡ length slots + 1) (own : u.key.acquirer ≡ id) (is : u ≡ reversal_under u.key.stan s.order) where
  abbrev marked : List Slot
  marked = slots_at_stage (λ _. Reversing u.key.stan) stan slots

  keeps : KeepsUndo slots (λ _. Reversing u.key.stan) stan
  keeps x stage v there is undo =
      let same : Waiting n ≡ stage = same_stage (Waiting n) stage (sym role ∙ ap (λ (y : Slot). y.role) (same_Some s x (sym here ∙ there)) ∙ is) in
      absurd (none-some v (ap (undo_of x.order) same ∙ undo))

  length_marked : length marked ≡ length slots
  length_marked = length-changed (λ _. Reversing u.key.stan) stan slots

  next_marked : u.key.stan ≡ length marked + 1
  next_marked = next ∙ ap (λ k. k + 1) (sym length_marked)

  numbered_marked : AreNumbered 1 marked
  numbered_marked = numbered-changed (λ _. Reversing u.key.stan) stan slots 1 w.numbered

  pub order_reversing : order_at (slots_with_reversal slots stan u) u.key.stan ≡ Some u
  order_reversing = order-new marked (reversal_for stan u) numbered_marked next_marked

  role_marked : (x : Slot) → s ≡ x → (r : Role) → IsRole entries slots x.order r → IsRole entries (slots_with_reversal slots stan u) x.order (on_stage (λ _. Reversing u.key.stan) r)
  role_marked x same (Transaction stage) h = record {
    base = h.base;
    money = h.money;
    debit = h.debit;
    held = tt;
    undone = λ v made. subst (λ (z : Instruction). order_at (slots_with_reversal slots stan u) z.key.stan ≡ Some z)
        (same_Some u v (ap Some (is ∙ ap (λ (y : Slot). reversal_under u.key.stan y.order) same) ∙ made)) order_reversing;
  }
  role_marked x same (Reversal k) h = role-more entries marked (reversal_for stan u) x.order (Reversal k) (reversal-changed (λ _. Reversing u.key.stan) stan slots k x.order w.numbered keeps h)

  role_other : (x : Slot) (r : Role) → IsRole entries slots x.order r → IsRole entries (slots_with_reversal slots stan u) x.order r
  role_other x (Transaction stage) h = record {
    base = h.base;
    money = h.money;
    debit = h.debit;
    held = h.held;
    undone = λ v is. order-more marked (reversal_for stan u) v.key.stan v (order-changed (λ _. Reversing u.key.stan) stan slots v.key.stan ∙ h.undone v is);
  }
  role_other x (Reversal k) h = role-more entries marked (reversal_for stan u) x.order (Reversal k) (reversal-changed (λ _. Reversing u.key.stan) stan slots k x.order w.numbered keeps h)

  -- what was kept before the reversal
  before : (k : ℕ) (t : Slot) → slot_at marked k ≡ Some t → IsSlot id entries (slots_with_reversal slots stan u) t
  before k t there =
      let back = changed-back (λ _. Reversing u.key.stan) stan slots k t there in
      subst (IsSlot id entries (slots_with_reversal slots stan u)) back.2 (by_test back.0 back.1 (back.0.order.key.stan == stan) refl)
    where
      by_test : (x : Slot) → slot_at slots k ≡ Some x → (b : Bool) → (x.order.key.stan == stan) ≡ b → IsSlot id entries (slots_with_reversal slots stan u) (cond b (slot_at_stage (λ _. Reversing u.key.stan) x) x)
      by_test x at true e =
          let old = w.slots_hold k x at in
          let place : k ≡ stan = sym (found slots 1 k x w.numbered at).0 ∙ eqb-true x.order.key.stan stan e in
          record { own = old.own; role = role_marked x (same_Some s x (sym here ∙ ap (slot_at slots) (sym place) ∙ at)) x.role old.role }
      by_test x at false e = let old = w.slots_hold k x at in record { own = old.own; role = role_other x x.role old.role }

  pub agreed-reversing : IsAgreed id (slots_with_reversal slots stan u) (sent ++ u ∷ []) given entries
  agreed-reversing =
      agreed-sent id (slots_with_reversal slots stan u) sent given entries u
      (agreed-made id marked sent given entries (reversal_for stan u) numbered_marked before
      (known-changed id (λ _. Reversing u.key.stan) stan slots entries w.entries_known) (sent-changed (λ _. Reversing u.key.stan) stan slots sent w.sent_known) w.given_kept next_marked
      (record {
        own = own;
        role = record {
          original = slot_at_stage (λ _. Reversing u.key.stan) s;
          stage = Reversing u.key.stan;
          found = slot-more marked (reversal_for stan u) stan (slot_at_stage (λ _. Reversing u.key.stan) s)
              (changed-found (λ _. Reversing u.key.stan) stan slots stan s here ∙ ap (λ b. Some (cond b (slot_at_stage (λ _. Reversing u.key.stan) s) s)) (eq-eqb s.order.key.stan stan (found slots 1 stan s w.numbered here).0));
          transaction = ap (on_stage (λ _. Reversing u.key.stan)) role;
          kept = ap Some (sym is);
          names = ap (λ (o : Instruction). o.act) is;
        };
      }))
      order_reversing
