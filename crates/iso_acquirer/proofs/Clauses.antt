-- What the invariant says of a transaction.
use Rattle.std.proofs.Common.{◌≡◌, ℕ, Bool, true, false, refl, ap, sym, ◌∙◌, subst, List, [], ◌∷◌, cond}
use Rattle.std.specs.Prelude.{Option, Some, None, option_map, is_some}
use Rattle.std.specs.List.{AllByRecursion}
use Rattle.std.proofs.lemmas.Option.{same_Some, none-some}
use Rattle.iso_order.specs.declared.key.TxKey.{TxKey}
use Rattle.iso_order.specs.declared.act.Act.{Act}
use Rattle.iso_order.specs.declared.act.Act.TheVariants.{Debit, Credit, Inquiry, Undo, Complete}
use Rattle.iso_order.specs.declared.act.Money.{Money}
use Rattle.iso_order.specs.Key.{same_key}
use Rattle.iso_order.specs.Order.{Instruction}
use Rattle.iso_issuer.specs.declared.account.Account.{Account}
use Rattle.iso_issuer.specs.declared.journal.Entry.{Entry}
use Rattle.iso_issuer.specs.Effect.{effect_of, effect_by, is_key}
use Rattle.iso_issuer.specs.Journal.{entry_at, left_at, left_by, undone_key}
use Rattle.iso_issuer.specs.Decision.{journal_of}
use Rattle.iso_issuer.specs.StandingLaws.{GrantedStands, DeclinedFalls, NoneReverses, NoneIsNone, AllReverseWholly, NeverStands, StandsNoMore, ReversedNeverStands}
use Rattle.iso_acquirer.specs.declared.event.Given.{Given}
use Rattle.iso_acquirer.specs.declared.slot.Slot.{Slot}
use Rattle.iso_acquirer.specs.declared.slot.Role.{Role}
use Rattle.iso_acquirer.specs.declared.slot.Role.TheVariants.{Transaction, Reversal}
use Rattle.iso_acquirer.specs.declared.slot.Stage.{Stage}
use Rattle.iso_acquirer.specs.declared.slot.Stage.TheVariants.{Approved, Declined, Reversed}
use Rattle.iso_acquirer.specs.Acquirer.{slot_at, order_at, undo_of}
use Rattle.iso_acquirer.specs.Agreed.{code_at, IsTransaction, IsRole, IsKnown, IsAgreed}
use Rattle.iso_acquirer.specs.Agreement.{StandsIn}
use Rattle.iso_acquirer.proofs.Keys.{same_key_is}
use Rattle.iso_acquirer.proofs.Lists.{all-weaker}
use Rattle.iso_acquirer.proofs.Numbered.{found}
use Rattle.iso_acquirer.proofs.Made.{class_two, undo-acquirer}

-- the entry that is found under a key has that key, and what holds of all entries
pub found_known : (P : Entry → Type 0) (es : List Entry) (k : TxKey) (e : Entry) → AllByRecursion P es → entry_at es k ≡ Some e → P e × (e.order.key ≡ k)
found_known P [] k e all h = cc
found_known P (x ∷ xs) k e all h = by_test (same_key x.order.key k) refl h (found_known P xs k e all.1)
  where
    by_test : (b : Bool) → same_key x.order.key k ≡ b → cond b (Some x) (entry_at xs k) ≡ Some e → (entry_at xs k ≡ Some e → P e × (e.order.key ≡ k)) → P e × (e.order.key ≡ k)
    by_test true t here rest = let same : x ≡ e = same_Some x e here in subst (λ y. P y × (y.order.key ≡ k)) same (all.0, same_key_is x.order.key k t)
    by_test false t here rest = rest here

-- what reverses a key is a reversal of it
reverses : (k : TxKey) (a : Act) → is_key (undone_key a) k ≡ true → a ≡ Undo k (left_by a)
reverses k (Undo o left) h = ap (λ q. Undo q left) (same_key_is o k h)
reverses k (Debit m) h = cc
reverses k (Credit m) h = cc
reverses k (Inquiry m) h = cc
reverses k (Complete m hold) h = cc

debit_not_undo : (m : Money) (k : TxKey) (left : ℕ) → Debit m ≡ Undo k left → ⊥
debit_not_undo m k left h = cc

pub same_stage : (a b : Stage) → Transaction a ≡ Transaction b → a ≡ b
same_stage a b h = cc

-- the order that is under a trace number is that of the slot there
pub order_of_slot : (slots : List Slot) (n : ℕ) (s : Slot) (o : Instruction) → slot_at slots n ≡ Some s → order_at slots n ≡ Some o → s.order ≡ o
order_of_slot slots n s o h g = same_Some s.order o (ap (option_map (λ s. s.order)) (sym h) ∙ g)

pub slot_of_order : (slots : List Slot) (n : ℕ) (o : Instruction) → order_at slots n ≡ Some o → (s : Slot) × (slot_at slots n ≡ Some s) × (s.order ≡ o)
slot_of_order slots n o h = go (slot_at slots n) refl h
  where
    go : (f : Option Slot) → slot_at slots n ≡ f → option_map (λ s. s.order) f ≡ Some o → (s : Slot) × (slot_at slots n ≡ Some s) × (s.order ≡ o)
    go None e g = cc
    go (Some s) e g = (s, e, same_Some s.order o g)

-- what is kept of an entry under a key
pub kept_entry : (es : List Entry) (k : TxKey) (code : ℕ) → code_at es k ≡ Some code → (e : Entry) × (entry_at es k ≡ Some e) × (e.answer.code ≡ code)
kept_entry es k code h = go (entry_at es k) refl h
  where
    go : (f : Option Entry) → entry_at es k ≡ f → option_map (λ a. a.code) (option_map (λ e. e.answer) f) ≡ Some code → (e : Entry) × (entry_at es k ≡ Some e) × (e.answer.code ≡ code)
    go None e g = cc
    go (Some x) e g = (x, e, same_Some x.answer.code code g)

-- a debit does something
pub debit_effect : (o : Instruction) (m : Money) → o.act ≡ Debit m → is_some (effect_of o) ≡ true
debit_effect o m act = ap (λ a. is_some (effect_by o.key a)) act

module _ (id : ℕ) (slots : List Slot) (sent : List Instruction) (given : List Given) (entries : List Entry) (w : IsAgreed id slots sent given entries) where
  -- an entered order of this acquirer is the one that it made under that key
  pub own_order : (n : ℕ) (s : Slot) (e : Entry) → slot_at slots n ≡ Some s → s.order.key.stan ≡ n → entry_at entries s.order.key ≡ Some e → s.order ≡ e.order
  own_order n s e here place at =
      let known = found_known (IsKnown id slots) entries s.order.key e w.entries_known at in
      let own : e.order.key.acquirer ≡ id = ap (λ (k : TxKey). k.acquirer) known.1 ∙ (w.slots_hold n s here).own in
      let under : order_at slots n ≡ Some e.order = ap (order_at slots) (sym place ∙ sym (ap (λ (k : TxKey). k.stan) known.1)) ∙ known.0.own own in
      order_of_slot slots n s e.order here under

  pub transaction_at : (n : ℕ) (s : Slot) (stage : Stage) → slot_at slots n ≡ Some s → s.role ≡ Transaction stage → IsTransaction entries slots s.order stage
  transaction_at n s stage here role = subst (IsRole entries slots s.order) role (w.slots_hold n s here).role

  -- an entered reversal of a transaction is the one that the acquirer made, and leaves nothing
  pub own_reversal : (n : ℕ) (s : Slot) (stage : Stage) → slot_at slots n ≡ Some s → s.order.key.stan ≡ n → s.role ≡ Transaction stage →
      (r : Entry) → IsKnown id slots r → is_key (undone_key r.order.act) s.order.key ≡ true → (left_by r.order.act ≡ 0) × (undo_of s.order stage ≡ Some r.order)
  own_reversal n s stage here place role r known is =
      let act = reverses s.order.key r.order.act is in
      let own : r.order.key.acquirer ≡ id = sym (undo-acquirer r.order s.order.key (left_by r.order.act) known.valid act) ∙ (w.slots_hold n s here).own in
      let under = slot_of_order slots r.order.key.stan r.order (known.own own) in
      by_role under.0 under.2 under.0.role (w.slots_hold r.order.key.stan under.0 under.1).role
    where
      by_role : (x : Slot) → x.order ≡ r.order → (role : Role) → IsRole entries slots x.order role → (left_by r.order.act ≡ 0) × (undo_of s.order stage ≡ Some r.order)
      by_role x same (Transaction other) held =
          absurd (debit_not_undo held.money s.order.key (left_by r.order.act) (sym held.debit ∙ ap (λ (o : Instruction). o.act) same ∙ reverses s.order.key r.order.act is))
      by_role x same (Reversal stan) held =
          let act : r.order.act ≡ Undo held.original.order.key 0 = ap (λ (o : Instruction). o.act) (sym same) ∙ held.names in
          let key : s.order.key ≡ held.original.order.key = same_Some s.order.key held.original.order.key (ap undone_key (sym (reverses s.order.key r.order.act is) ∙ act)) in
          let at : n ≡ stan = sym place ∙ ap (λ (k : TxKey). k.stan) key ∙ (found slots 1 stan held.original w.numbered held.found).0 in
          let one : s ≡ held.original = same_Some s held.original (sym here ∙ ap (slot_at slots) at ∙ held.found) in
          let stages : stage ≡ held.stage = same_stage stage held.stage (sym role ∙ ap (λ (x : Slot). x.role) one ∙ held.transaction) in
          (ap left_by act, ap (λ (x : Slot). undo_of x.order stage) one ∙ ap (undo_of held.original.order) stages ∙ held.kept ∙ ap Some same)

  -- no entered order reverses a transaction that has no reversal
  pub none_reverses : (n : ℕ) (s : Slot) (stage : Stage) → slot_at slots n ≡ Some s → s.order.key.stan ≡ n → s.role ≡ Transaction stage → undo_of s.order stage ≡ None → NoneReverses entries s.order.key
  none_reverses n s stage here place role none =
      all-weaker (IsKnown id slots) (λ r. is_key (undone_key r.order.act) s.order.key ≡ false) entries (λ r known. by_test r known (is_key (undone_key r.order.act) s.order.key) refl) w.entries_known
    where
      by_test : (r : Entry) → IsKnown id slots r → (b : Bool) → is_key (undone_key r.order.act) s.order.key ≡ b → b ≡ false
      by_test r known false t = refl
      by_test r known true t = absurd (none-some r.order (sym none ∙ (own_reversal n s stage here place role r known t).1))

  -- each entered reversal of a transaction leaves nothing
  pub all_wholly : (n : ℕ) (s : Slot) (stage : Stage) → slot_at slots n ≡ Some s → s.order.key.stan ≡ n → s.role ≡ Transaction stage → AllReverseWholly entries s.order.key
  all_wholly n s stage here place role =
      all-weaker (IsKnown id slots) (λ r. is_key (undone_key r.order.act) s.order.key ≡ true → left_by r.order.act ≡ 0) entries
      (λ r known t. (own_reversal n s stage here place role r known t).0) w.entries_known

  module _ (none_is_none : NoneIsNone) where
    -- what the acquirer holds as approved is granted and not reversed
    pub record IsGranted (s : Slot) : Type 0 where
      pub entry : Entry
      pub found_it : entry_at entries s.order.key ≡ Some entry
      pub same : entry.order ≡ s.order
      pub granted : entry.answer.code ≡ 0
      pub free : left_at entries entry.order.key ≡ None

    pub approved_granted : (n : ℕ) (s : Slot) → slot_at slots n ≡ Some s → s.order.key.stan ≡ n → s.role ≡ Transaction Approved → IsGranted s
    approved_granted n s here place role =
        let kept = kept_entry entries s.order.key 0 (transaction_at n s Approved here role).held in
        let same : s.order ≡ kept.0.order = own_order n s kept.0 here place kept.1 in
        record {
          entry = kept.0;
          found_it = kept.1;
          same = sym same;
          granted = kept.2;
          free = ap (λ (o : Instruction). left_at entries o.key) (sym same) ∙ none_is_none entries s.order.key (none_reverses n s Approved here place role refl);
        }

    -- so it stands at the issuer
    pub approved-stands : GrantedStands → (n : ℕ) (s : Slot) → slot_at slots n ≡ Some s → s.order.key.stan ≡ n → s.role ≡ Transaction Approved → StandsIn entries s.order
    approved-stands stands n s here place role =
        let g = approved_granted n s here place role in
        let t = transaction_at n s Approved here role in
        record {
          entry = g.entry;
          found = g.found_it;
          same = g.same;
          counts = stands entries g.entry (class_two g.entry.order.key (ap (λ (o : Instruction). o.key.base) g.same ∙ t.base))
              (debit_effect g.entry.order t.money (ap (λ (o : Instruction). o.act) g.same ∙ t.debit)) g.granted g.free;
        }

-- what the acquirer holds as declined or reversed never stands again
module _ (id : ℕ) (slots : List Slot) (sent : List Instruction) (given : List Given) (accounts : List Account) (orders : List Instruction)
    (w : IsAgreed id slots sent given (journal_of accounts orders)) where
  pub declined-never : StandsNoMore → DeclinedFalls → (n : ℕ) (s : Slot) (c : ℕ) → slot_at slots n ≡ Some s → s.role ≡ Transaction (Declined c) → NeverStands accounts orders s.order.key
  declined-never no_more falls n s c here role =
      let t = transaction_at id slots sent given (journal_of accounts orders) w n s (Declined c) here role in
      let kept = kept_entry (journal_of accounts orders) s.order.key c t.held.0 in
      no_more accounts orders s.order.key kept.0 (class_two s.order.key t.base) kept.1
      (falls (journal_of accounts orders) kept.0 (λ z. t.held.1 (sym kept.2 ∙ z)))

  pub reversed-never : ReversedNeverStands → (n : ℕ) (s : Slot) (u : ℕ) → slot_at slots n ≡ Some s → s.role ≡ Transaction (Reversed u) → NeverStands accounts orders s.order.key
  reversed-never never n s u here role =
      never accounts orders s.order.key (transaction_at id slots sent given (journal_of accounts orders) w n s (Reversed u) here role).held
