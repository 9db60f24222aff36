-- The issuer enters an order.
use Rattle.std.proofs.Common.{◌≡◌, ℕ, Bool, true, false, refl, ap, sym, ◌∙◌, subst, List, [], ◌∷◌, ◌++◌}
use Rattle.std.specs.Prelude.{Option, Some, None, option_map}
use Rattle.iso_order.specs.declared.key.TxKey.{TxKey}
use Rattle.iso_order.specs.Key.{same_key}
use Rattle.iso_order.specs.Outcome.{Outcome}
use Rattle.iso_order.specs.Order.{Instruction, is_valid}
use Rattle.iso_issuer.specs.declared.journal.Entry.{Entry}
use Rattle.iso_issuer.specs.Journal.{entry_at, is_entered, HasDistinctKeys}
use Rattle.iso_issuer.specs.Decision.{new_entry, answer_for}
use Rattle.iso_issuer.specs.Books.{Books, journal, books_with}
use Rattle.iso_issuer.specs.Laws.{JournalsGrow, KnownChangesNothing, NewComesLast, AnswersAreEntered}
use Rattle.iso_issuer.specs.StandingLaws.{ReversedStays}
use Rattle.iso_acquirer.specs.declared.event.Given.{Given}
use Rattle.iso_acquirer.specs.declared.slot.Slot.{Slot}
use Rattle.iso_acquirer.specs.declared.slot.Role.{Role}
use Rattle.iso_acquirer.specs.declared.slot.Role.TheVariants.{Transaction, Reversal}
use Rattle.iso_acquirer.specs.declared.slot.Stage.{Stage}
use Rattle.iso_acquirer.specs.declared.slot.Stage.TheVariants.{Waiting, Reversing, Approved, Declined, Reversed}
use Rattle.iso_acquirer.specs.Acquirer.{order_at}
use Rattle.iso_acquirer.specs.Agreed.{answer_at, code_at, IsStageOf, IsRole, IsKnown, IsAgreed}
use Rattle.iso_acquirer.proofs.Lists.{all-weaker, all-push, find-more}
use Rattle.iso_acquirer.proofs.Clauses.{own_order, slot_of_order}

-- ---- what the entries say goes on to hold

answer-more : (es fs : List Entry) (k : TxKey) (a : Outcome) → answer_at es k ≡ Some a → answer_at (es ++ fs) k ≡ Some a
answer-more es fs k a h = go (entry_at es k) refl h
  where
    go : (f : Option Entry) → entry_at es k ≡ f → option_map (λ e. e.answer) f ≡ Some a → answer_at (es ++ fs) k ≡ Some a
    go None e g = cc
    go (Some x) e g = ap (option_map (λ e. e.answer)) (find-more (λ y. same_key y.order.key k) es fs x e) ∙ g

code-more : (es fs : List Entry) (k : TxKey) (c : ℕ) → code_at es k ≡ Some c → code_at (es ++ fs) k ≡ Some c
code-more es fs k c h = go (answer_at es k) refl h
  where
    go : (f : Option Outcome) → answer_at es k ≡ f → option_map (λ a. a.code) f ≡ Some c → code_at (es ++ fs) k ≡ Some c
    go None e g = cc
    go (Some a) e g = ap (option_map (λ a. a.code)) (answer-more es fs k a e) ∙ g

held-more : ReversedStays → (es fs : List Entry) (k : TxKey) (stage : Stage) → IsStageOf es k stage → IsStageOf (es ++ fs) k stage
held-more stay es fs k (Waiting n) h = tt
held-more stay es fs k (Reversing u) h = tt
held-more stay es fs k Approved h = code-more es fs k 0 h
held-more stay es fs k (Declined c) h = (code-more es fs k c h.0, h.1)
held-more stay es fs k (Reversed u) h = stay es fs k h

role-more : ReversedStays → (es fs : List Entry) (slots : List Slot) (o : Instruction) (role : Role) → IsRole es slots o role → IsRole (es ++ fs) slots o role
role-more stay es fs slots o (Transaction stage) h = record {
  base = h.base;
  money = h.money;
  debit = h.debit;
  held = held-more stay es fs o.key stage h.held;
  undone = h.undone;
}
role-more stay es fs slots o (Reversal stan) h = h

-- a new order enters, one of the acquirer's own or one of others
agreed-more : ReversedStays → (id : ℕ) (slots : List Slot) (sent : List Instruction) (given : List Given) (entries : List Entry) (e : Entry) →
    IsAgreed id slots sent given entries → IsKnown id slots e → IsAgreed id slots sent given (entries ++ e ∷ [])
agreed-more stay id slots sent given entries e w known = record {
  numbered = w.numbered;
  slots_hold = λ n s here. let old = w.slots_hold n s here in record { own = old.own; role = role-more stay entries (e ∷ []) slots s.order s.role old.role };
  entries_known = all-push (IsKnown id slots) entries e w.entries_known known;
  sent_known = w.sent_known;
  given_kept = all-weaker (λ (g : Given). answer_at entries g.key ≡ Some g.answer) (λ (g : Given). answer_at (entries ++ e ∷ []) g.key ≡ Some g.answer) given
      (λ g. answer-more entries (e ∷ []) g.key g.answer) w.given_kept;
}

-- ---- the laws of the issuer's books

module _ (stay : ReversedStays) (grow : JournalsGrow) (known_stays : KnownChangesNothing) (new_last : NewComesLast)
    (id : ℕ) (slots : List Slot) (sent : List Instruction) (given : List Given) (b : Books) (o : Instruction) (w : IsAgreed id slots sent given (journal b)) (distinct : HasDistinctKeys b.orders) where
  on-known : is_entered b.orders o.key ≡ true → journal (books_with b o) ≡ journal b
  on-known e = ap journal (known_stays b o distinct e)

  on-new : is_entered b.orders o.key ≡ false → journal (books_with b o) ≡ journal b ++ new_entry b.accounts (journal b) o ∷ []
  on-new e = ap journal (new_last b o distinct e) ∙ grow b.accounts b.orders o

  -- an order enters that is new or was there, one of the acquirer's own or one of others
  pub agreed-entering : is_valid o ≡ true → (o.key.acquirer ≡ id → order_at slots o.key.stan ≡ Some o) → IsAgreed id slots sent given (journal (books_with b o))
  agreed-entering valid own = go (is_entered b.orders o.key) refl
    where
      go : (t : Bool) → is_entered b.orders o.key ≡ t → IsAgreed id slots sent given (journal (books_with b o))
      go true e = subst (IsAgreed id slots sent given) (sym (on-known e)) w
      go false e = subst (IsAgreed id slots sent given) (sym (on-new e))
          (agreed-more stay id slots sent given (journal b) (new_entry b.accounts (journal b) o) w (record { valid = valid; own = own }))

  -- the answer for one of the acquirer's orders is the answer that is kept of it
  answer-kept : AnswersAreEntered → order_at slots o.key.stan ≡ Some o → answer_at (journal (books_with b o)) o.key ≡ Some (answer_for b.accounts (journal b) o)
  answer-kept kept made = ap (option_map (λ e. e.answer)) (kept b o distinct own-entry)
    where
      own-entry : (e : Entry) → entry_at (journal b) o.key ≡ Some e → e.order ≡ o
      own-entry e at =
          let slot = slot_of_order slots o.key.stan o made in
          let same : slot.0.order ≡ e.order = own_order id slots sent given (journal b) w o.key.stan slot.0 e slot.1 (ap (λ (p : Instruction). p.key.stan) slot.2) (ap (λ (p : Instruction). entry_at (journal b) p.key) slot.2 ∙ at) in
          sym same ∙ slot.2

  -- one of the acquirer's orders is delivered, and its answer given
  pub agreed-delivered : AnswersAreEntered → is_valid o ≡ true → order_at slots o.key.stan ≡ Some o →
      IsAgreed id slots sent (given ++ record { key = o.key; answer = answer_for b.accounts (journal b) o } ∷ []) (journal (books_with b o))
  agreed-delivered kept valid made =
      let after = agreed-entering valid (λ _. made) in
      record {
        numbered = after.numbered;
        slots_hold = after.slots_hold;
        entries_known = after.entries_known;
        sent_known = after.sent_known;
        given_kept = all-push (λ (g : Given). answer_at (journal (books_with b o)) g.key ≡ Some g.answer) given (record { key = o.key; answer = answer_for b.accounts (journal b) o }) after.given_kept (answer-kept kept made);
      }
