-- An answer that the issuer gave comes to the acquirer.
use Rattle.std.proofs.Common.{◌≡◌, ◌≢◌, ℕ, Bool, true, false, refl, arith, ap, sym, ◌∙◌, List, cond}
use Rattle.std.specs.Prelude.{◌||◌, ◌==◌, Option, Some, None, option_map}
use Rattle.std.proofs.lemmas.Grind.{common_steps}
use Rattle.std.proofs.lemmas.Option.{same_Some}
use Rattle.std.proofs.lemmas.Bool.{eqb-true}
use Rattle.iso_order.specs.declared.key.TxKey.{TxKey}
use Rattle.iso_order.specs.Key.{same_key}
use Rattle.iso_order.specs.Outcome.{Outcome}
use Rattle.iso_order.specs.Order.{Instruction}
use Rattle.iso_issuer.specs.declared.journal.Entry.{Entry}
use Rattle.iso_issuer.specs.Effect.{is_key}
use Rattle.iso_issuer.specs.Journal.{entry_at, undone_key, is_reversed}
use Rattle.iso_issuer.specs.StandingLaws.{WhollyIsReversed}
use Rattle.iso_acquirer.specs.declared.event.Given.{Given}
use Rattle.iso_acquirer.specs.declared.slot.Slot.{Slot}
use Rattle.iso_acquirer.specs.declared.slot.Role.{Role}
use Rattle.iso_acquirer.specs.declared.slot.Role.TheVariants.{Transaction, Reversal}
use Rattle.iso_acquirer.specs.declared.slot.Stage.{Stage}
use Rattle.iso_acquirer.specs.declared.slot.Stage.TheVariants.{Waiting, Reversing, Approved, Declined, Reversed}
use Rattle.iso_acquirer.specs.Acquirer.{slot_at, undo_of, reversal_under, stage_after, stage_after_undo, slots_after_answer, slots_after_answer_in_role, slots_after_answer_of_slot}
use Rattle.iso_acquirer.specs.Agreed.{answer_at, code_at, IsStageOf, IsReversal, IsRole, IsAgreed}
use Rattle.iso_acquirer.proofs.Keys.{same_key_is, same_key_self}
use Rattle.iso_acquirer.proofs.Numbered.{found}
use Rattle.iso_acquirer.proofs.Clauses.{own_order, all_wholly, transaction_at}
use Rattle.iso_acquirer.proofs.Changed.{agreed-changed}

-- an answer to a transaction's own order
held-after : (entries : List Entry) (k : TxKey) (a : Outcome) (stage : Stage) → answer_at entries k ≡ Some a → IsStageOf entries k stage → IsStageOf entries k (stage_after a.code stage)
held-after entries k a (Waiting n) kept h = go (a.code == 0) refl ((a.code == 94) || (a.code == 96))
  where
    code : code_at entries k ≡ Some a.code
    code = ap (option_map (λ (a : Outcome). a.code)) kept

    not_zero : (c : ℕ) → (c == 0) ≡ false → c ≢ 0
    not_zero c e = λ z. grind (arith, common_steps, e, z)

    go : (b : Bool) → (a.code == 0) ≡ b → (t : Bool) → IsStageOf entries k (cond b Approved (cond t (Waiting n) (Declined a.code)))
    go true e t = code ∙ ap Some (eqb-true a.code 0 e)
    go false e true = tt
    go false e false = (code, not_zero a.code e)
held-after entries k a (Reversing u) kept h = h
held-after entries k a Approved kept h = h
held-after entries k a (Declined c) kept h = h
held-after entries k a (Reversed u) kept h = h

-- an answer to its reversal
held-undone : (entries : List Entry) (k : TxKey) (code : ℕ) (stage : Stage) → is_reversed entries k ≡ true → IsStageOf entries k stage → IsStageOf entries k (stage_after_undo code stage)
held-undone entries k code (Waiting n) r h = h
held-undone entries k code (Reversing u) r h = go (code == 0)
  where
    go : (b : Bool) → IsStageOf entries k (cond b (Reversed u) (Reversing u))
    go true = r
    go false = h
held-undone entries k code Approved r h = h
held-undone entries k code (Declined c) r h = h
held-undone entries k code (Reversed u) r h = h

-- neither makes or drops a reversal
after-undo : (code : ℕ) (o : Instruction) (stage : Stage) → undo_of o (stage_after code stage) ≡ undo_of o stage
after-undo code o (Waiting n) = go (code == 0) ((code == 94) || (code == 96))
  where
    go : (b t : Bool) → undo_of o (cond b Approved (cond t (Waiting n) (Declined code))) ≡ None
    go true t = refl
    go false true = refl
    go false false = refl
after-undo code o (Reversing u) = refl
after-undo code o Approved = refl
after-undo code o (Declined c) = refl
after-undo code o (Reversed u) = refl

undone-undo : (code : ℕ) (o : Instruction) (stage : Stage) → undo_of o (stage_after_undo code stage) ≡ undo_of o stage
undone-undo code o (Waiting n) = refl
undone-undo code o (Reversing u) = go (code == 0)
  where
    go : (b : Bool) → undo_of o (cond b (Reversed u) (Reversing u)) ≡ Some (reversal_under u o)
    go true = refl
    go false = refl
undone-undo code o Approved = refl
undone-undo code o (Declined c) = refl
undone-undo code o (Reversed u) = refl

entry_of_answer : (es : List Entry) (k : TxKey) (a : Outcome) → answer_at es k ≡ Some a → (e : Entry) × (entry_at es k ≡ Some e)
entry_of_answer es k a h = go (entry_at es k) refl h
  where
    go : (f : Option Entry) → entry_at es k ≡ f → option_map (λ e. e.answer) f ≡ Some a → (e : Entry) × (entry_at es k ≡ Some e)
    go None e g = cc
    go (Some x) e g = (x, e)

module _ (wholly : WhollyIsReversed) (id : ℕ) (slots : List Slot) (sent : List Instruction) (given : List Given) (entries : List Entry) (key : TxKey) (a : Outcome)
    (w : IsAgreed id slots sent given entries) (kept : answer_at entries key ≡ Some a) where
  -- a reversal that was answered was entered
  entered-undo : (s : Slot) (n : ℕ) (t : Slot) (stage : Stage) → slot_at slots key.stan ≡ Some s → s.order.key ≡ key → IsReversal slots n s.order →
      slot_at slots n ≡ Some t → t.role ≡ Transaction stage → is_reversed entries t.order.key ≡ true
  entered-undo s n t stage here is h there role =
      let entry = entry_of_answer entries key a kept in
      let at : entry_at entries s.order.key ≡ Some entry.0 = ap (entry_at entries) is ∙ entry.1 in
      let same : s.order ≡ entry.0.order = own_order id slots sent given entries w key.stan s entry.0 here (ap (λ (q : TxKey). q.stan) is) at in
      let original : h.original ≡ t = same_Some h.original t (sym h.found ∙ there) in
      let key_is : h.original.order.key ≡ t.order.key = ap (λ (x : Slot). x.order.key) original in
      let place : t.order.key.stan ≡ n = (found slots 1 n t w.numbered there).0 in
      let names : is_key (undone_key entry.0.order.act) t.order.key ≡ true =
      ap (λ (o : Instruction). is_key (undone_key o.act) t.order.key) (sym same) ∙ ap (λ act. is_key (undone_key act) t.order.key) h.names ∙ ap (λ k. same_key k t.order.key) key_is ∙ same_key_self t.order.key in
      wholly entries t.order.key key entry.0 (all_wholly id slots sent given entries w n t stage there place role) entry.1 names

  by_role : (s : Slot) (role : Role) → slot_at slots key.stan ≡ Some s → s.order.key ≡ key → s.role ≡ role → IsRole entries slots s.order role →
      IsAgreed id (slots_after_answer_in_role slots key.stan a.code role) sent given entries
  by_role s (Transaction stage) here is role h =
      agreed-changed id slots sent given entries (stage_after a.code) key.stan w
      (λ t from u there held undo. after-undo a.code t.order from ∙ undo)
      (λ t from there held h.
      let same : s ≡ t = same_Some s t (sym here ∙ there) in
      held-after entries t.order.key a from (ap (answer_at entries) (ap (λ (x : Slot). x.order.key) (sym same) ∙ is) ∙ kept) h)
      (λ t from u there held undo. (transaction_at id slots sent given entries w key.stan t from there held).undone u (sym (after-undo a.code t.order from) ∙ undo))
  by_role s (Reversal n) here is role h =
      agreed-changed id slots sent given entries (stage_after_undo a.code) n w
      (λ t from u there held undo. undone-undo a.code t.order from ∙ undo)
      (λ t from there held g. held-undone entries t.order.key a.code from (entered-undo s n t from here is h there held) g)
      (λ t from u there held undo. (transaction_at id slots sent given entries w n t from there held).undone u (sym (undone-undo a.code t.order from) ∙ undo))

  by_test : (s : Slot) (b : Bool) → slot_at slots key.stan ≡ Some s → same_key s.order.key key ≡ b → IsAgreed id (cond b (slots_after_answer_in_role slots key.stan a.code s.role) slots) sent given entries
  by_test s true here e = by_role s s.role here (same_key_is s.order.key key e) refl (w.slots_hold key.stan s here).role
  by_test s false here e = w

  pub agreed-answered : IsAgreed id (slots_after_answer slots key a.code) sent given entries
  agreed-answered = by_slot (slot_at slots key.stan) refl
    where
      by_slot : (f : Option Slot) → slot_at slots key.stan ≡ f → IsAgreed id (slots_after_answer_of_slot slots key a.code f) sent given entries
      by_slot None e = w
      by_slot (Some s) e = by_test s (same_key s.order.key key) e refl
