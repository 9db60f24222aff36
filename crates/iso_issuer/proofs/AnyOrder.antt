-- The same orders in another order.
use Rattle.std.proofs.Common.{◌≡◌, ◌≢◌, ◌≤◌, ℕ, Bool, true, false, not, refl, arith, ap, sym, ◌∙◌, subst, List, [], ◌∷◌, ◌++◌, map, cond}
use Rattle.std.specs.Prelude.{◌&&◌, ◌||◌, ◌==◌, Option, Some, None, option_map, find, sum_by, count_by, pos, ◌+ℤ◌, ◌-ℤ◌, int_lt}
use Rattle.std.specs.List.{list_any, AllByRecursion}
use Rattle.std.specs.List.Sorted.{IsPermutation}
use Rattle.std.proofs.lemmas.List.Sorted.{sum_by-IsPermutation, list_any-IsPermutation}
use Rattle.std.proofs.lemmas.List.Elements.{All-push, All-weaker, All-from_recursion, recursion_from_All}
use Rattle.std.proofs.lemmas.List.Sums.{sum_by-cons}
use Rattle.iso_order.specs.declared.key.TxKey.{TxKey}
use Rattle.iso_order.specs.declared.act.Act.{Act}
use Rattle.iso_order.specs.declared.act.Act.TheVariants.{Debit, Credit, Inquiry, Undo, Complete}
use Rattle.iso_order.specs.declared.act.Money.{Money}
use Rattle.iso_order.specs.Pan.{AccountNumber}
use Rattle.iso_order.specs.Key.{function_digit}
use Rattle.iso_order.specs.Order.{Instruction, same_currency}
use Rattle.iso_issuer.specs.declared.account.Account.{Account}
use Rattle.iso_issuer.specs.declared.effect.Effect.{Effect}
use Rattle.iso_issuer.specs.declared.effect.Side.{Side}
use Rattle.iso_issuer.specs.declared.effect.Side.TheVariants.{Credited, Debited, Held}
use Rattle.iso_issuer.specs.declared.journal.Entry.{Entry}
use Rattle.iso_issuer.specs.Account.{account_of}
use Rattle.iso_issuer.specs.Effect.{effect_of, effect_amount, is_key, is_end_of, same_side, side_of, is_drawn}
use Rattle.iso_issuer.specs.Journal.{undone_key, left_by, left_at, is_nothing, is_reversed, smaller_of, is_counted_with, is_counted, is_completed, is_ended, weight}
use Rattle.iso_issuer.specs.Balance.{share, total, ledger, available}
use Rattle.iso_issuer.specs.Decision.{account_code, code_of, new_entry, entries_after, journal_of}
use Rattle.iso_issuer.specs.StandingLaws.{NoneShort, AreReordered}
use Rattle.iso_issuer.proofs.Places.{found-map}
use Rattle.iso_issuer.proofs.GoesOn.{entered-begins, orders-of}
use Rattle.iso_issuer.proofs.Standing.{nothing-stays}

-- ---- what orders do, told without their order

-- an order that reverses this key
abbrev names : TxKey → Instruction → Bool
names key o = is_key (undone_key o.act) key

-- what the first one leaves
abbrev left_in : List Instruction → TxKey → Option ℕ
left_in orders key = option_map (λ o. left_by o.act) (find (names key) orders)

-- the account is there, in the currency
abbrev on_account : Money → Option Account → Bool
on_account m None = false
on_account m (Some a) = same_currency a.currency m.currency

-- a debit, a credit or a completion on such an account
abbrev is_good : List Account → Act → Bool
is_good accounts (Debit m) = on_account m (account_of accounts m.pan)
is_good accounts (Credit m) = on_account m (account_of accounts m.pan)
is_good accounts (Inquiry m) = false
is_good accounts (Undo original left) = false
is_good accounts (Complete m hold) = on_account m (account_of accounts m.pan)

-- one that is not wholly reversed
abbrev counts_in : List Account → List Instruction → Instruction → Bool
counts_in accounts orders o = is_good accounts o.act && not (is_nothing (left_in orders o.key))

abbrev completed_in : List Account → List Instruction → TxKey → AccountNumber → Bool
completed_in accounts orders key pan = list_any (λ c. counts_in accounts orders c && is_end_of key pan (effect_of c)) orders

abbrev ended_in : List Account → List Instruction → TxKey → Option Effect → Bool
ended_in accounts orders key None = false
ended_in accounts orders key (Some f) = same_side f.side Held && completed_in accounts orders key f.pan

abbrev weight_in : List Account → List Instruction → Instruction → ℕ
weight_in accounts orders o =
    cond (counts_in accounts orders o && not (ended_in accounts orders o.key (effect_of o))) (smaller_of (effect_amount (effect_of o)) (left_in orders o.key)) 0

-- ---- an entry counts where its order does

by_code : (c t : Bool) → ◌≢◌ {A = ℕ} (cond c (cond t 51 0) 12) 51 → (cond c (cond t 51 0) 12 == 0) ≡ c
by_code true true h = absurd (h refl)
by_code true false h = refl
by_code false t h = refl

debit_good : (before : List Entry) (key : TxKey) (m : Money) (f : Option Account) → account_code before (record { key = key; act = Debit m }) m f ≢ 51 →
    (account_code before (record { key = key; act = Debit m }) m f == 0) ≡ on_account m f
debit_good before key m None long = refl
debit_good before key m (Some a) long =
    by_code (same_currency a.currency m.currency) (is_drawn (side_of key) && (function_digit key == 0) && int_lt (available before a) (pos (smaller_of m.amount (left_at before key)))) long

credit_good : (before : List Entry) (key : TxKey) (m : Money) (f : Option Account) → account_code before (record { key = key; act = Credit m }) m f ≢ 51 →
    (account_code before (record { key = key; act = Credit m }) m f == 0) ≡ on_account m f
credit_good before key m None long = refl
credit_good before key m (Some a) long = by_code (same_currency a.currency m.currency) false long

complete_good : (before : List Entry) (key : TxKey) (m : Money) (hold : TxKey) (f : Option Account) → account_code before (record { key = key; act = Complete m hold }) m f ≢ 51 →
    (account_code before (record { key = key; act = Complete m hold }) m f == 0) ≡ on_account m f
complete_good before key m hold None long = refl
complete_good before key m hold (Some a) long =
    by_code (same_currency a.currency m.currency) ((function_digit key == 0) && int_lt (available before a) (pos (smaller_of m.amount (left_at before key)))) long

and_off : (b : Bool) → b && false ≡ false
and_off true = refl
and_off false = refl

counts_by : (rev r : Bool) (code : ℕ) (good : Bool) → (rev ≡ true → r ≡ true) → (code ≢ 51 → (code == 0) ≡ good) → cond rev 21 code ≢ 51 →
    (cond rev 21 code == 0) && not r ≡ good && not r
counts_by true r code good later same long =
    let is : not r ≡ false = ap not (later refl) in
    rw (is, and_off good) refl
counts_by false r code good later same long = ap (λ b. b && not r) (same long)

-- `left` tells what is left of each key in the end
new_counts : (accounts : List Account) (before : List Entry) (key : TxKey) (act : Act) (left : Option ℕ) →
    (is_reversed before key ≡ true → is_nothing left ≡ true) → code_of accounts before (record { key = key; act = act }) ≢ 51 →
    is_counted_with left (new_entry accounts before (record { key = key; act = act })) ≡ is_good accounts act && not (is_nothing left)
new_counts accounts before key (Debit m) left later long =
    counts_by (is_reversed before key) (is_nothing left) (account_code before (record { key = key; act = Debit m }) m (account_of accounts m.pan)) (on_account m (account_of accounts m.pan))
    later (debit_good before key m (account_of accounts m.pan)) long
new_counts accounts before key (Credit m) left later long =
    counts_by (is_reversed before key) (is_nothing left) (account_code before (record { key = key; act = Credit m }) m (account_of accounts m.pan)) (on_account m (account_of accounts m.pan))
    later (credit_good before key m (account_of accounts m.pan)) long
new_counts accounts before key (Inquiry m) left later long = refl
new_counts accounts before key (Undo original rest) left later long = refl
new_counts accounts before key (Complete m hold) left later long =
    counts_by (is_reversed before key) (is_nothing left) (account_code before (record { key = key; act = Complete m hold }) m (account_of accounts m.pan)) (on_account m (account_of accounts m.pan))
    later (complete_good before key m hold (account_of accounts m.pan)) long

-- ---- all entries

all-push : {X : Type 0} (P : X → Type 0) (xs : List X) (x : X) → AllByRecursion P xs → P x → AllByRecursion P (xs ++ x ∷ [])
all-push P xs x all p = recursion_from_All P (xs ++ x ∷ []) (All-push P xs x (All-from_recursion P xs all) p)

all-last : {X : Type 0} (P : X → Type 0) (xs ys : List X) (x : X) → AllByRecursion P ((xs ++ x ∷ []) ++ ys) → P x
all-last P [] ys x all = all.0
all-last P (y ∷ xs) ys x all = all-last P xs ys x all.1

all-weaker : {X : Type 0} (P Q : X → Type 0) (xs : List X) → ((x : X) → P x → Q x) → AllByRecursion P xs → AllByRecursion Q xs
all-weaker P Q xs f all = recursion_from_All Q xs (All-weaker P Q f xs (All-from_recursion P xs all))

every : {X : Type 0} (P : X → Type 0) (xs : List X) → ((x : X) → P x) → AllByRecursion P xs
every P xs each = recursion_from_All P xs (λ k d less. each _)

abbrev Counts : List Account → (TxKey → Option ℕ) → Entry → Type 0
Counts accounts left e = is_counted_with (left e.order.key) e ≡ is_good accounts e.order.act && not (is_nothing (left e.order.key))

each_counts : (accounts : List Account) (left : TxKey → Option ℕ) (before : List Entry) (os : List Instruction) →
    ((k : TxKey) → is_reversed (entries_after accounts before os) k ≡ true → is_nothing (left k) ≡ true) →
    AllByRecursion (λ e. e.answer.code ≢ 51) (entries_after accounts before os) → AllByRecursion (Counts accounts left) before →
    AllByRecursion (Counts accounts left) (entries_after accounts before os)
each_counts accounts left before [] later long all = all
each_counts accounts left before (o ∷ os) later long all =
    let es = before ++ new_entry accounts before o ∷ [] in
    let rest = entered-begins accounts es os in
    let whole = entered-begins accounts before (o ∷ os) in
    let short : code_of accounts before o ≢ 51 = all-last (λ (e : Entry). e.answer.code ≢ 51) before rest.0 (new_entry accounts before o) (subst (AllByRecursion (λ (e : Entry). e.answer.code ≢ 51)) rest.1 long) in
    let here : Counts accounts left (new_entry accounts before o) = new_counts accounts before o.key o.act (left o.key)
    (λ h. later o.key (ap (λ (j : List Entry). is_reversed j o.key) whole.1 ∙ nothing-stays before whole.0 o.key h)) short in
    each_counts accounts left es os later long (all-push (Counts accounts left) before (new_entry accounts before o) all here)

-- ---- sums and tests over entries and over their orders

sum-all : {X : Type 0} (f g : X → ℕ) (xs : List X) → AllByRecursion (λ x. f x ≡ g x) xs → sum_by f xs ≡ sum_by g xs
sum-all f g [] all = refl
sum-all f g (x ∷ xs) all = omega (arith, all.0, sum-all f g xs all.1, sum_by-cons f x xs, sum_by-cons g x xs)

sum-mapped : {X Y : Type 0} (f : Y → ℕ) (g : X → Y) (xs : List X) → sum_by (λ x. f (g x)) xs ≡ sum_by f (map g xs)
sum-mapped f g [] = refl
sum-mapped f g (x ∷ xs) = omega (arith, sum-mapped f g xs, sum_by-cons (λ x. f (g x)) x xs, sum_by-cons f (g x) (map g xs))

any-all : {X : Type 0} (p q : X → Bool) (xs : List X) → AllByRecursion (λ x. p x ≡ q x) xs → list_any p xs ≡ list_any q xs
any-all p q [] all = refl
any-all p q (x ∷ xs) all = ap (λ b. b || list_any p xs) all.0 ∙ ap (λ b. q x || b) (any-all p q xs all.1)

any-mapped : {X Y : Type 0} (p : Y → Bool) (f : X → Y) (xs : List X) → list_any (λ x. p (f x)) xs ≡ list_any p (map f xs)
any-mapped p f [] = refl
any-mapped p f (x ∷ xs) = ap (λ b. p (f x) || b) (any-mapped p f xs)

-- ---- a journal, by its orders

module _ (accounts : List Account) (orders : List Instruction) (long : NoneShort accounts orders) where
  left-of : (key : TxKey) → left_at (journal_of accounts orders) key ≡ left_in orders key
  left-of key =
      both (find (λ (e : Entry). names key e.order) (journal_of accounts orders))
      ∙ ap (option_map (λ (o : Instruction). left_by o.act)) (sym (found-map (names key) (λ (e : Entry). e.order) (journal_of accounts orders)) ∙ ap (find (names key)) (orders-of accounts orders))
    where
      both : (o : Option Entry) → option_map (λ (r : Entry). left_by r.order.act) o ≡ option_map (λ (o : Instruction). left_by o.act) (option_map (λ (e : Entry). e.order) o)
      both None = refl
      both (Some r) = refl

  counted : AllByRecursion (λ e. is_counted (journal_of accounts orders) e ≡ counts_in accounts orders e.order) (journal_of accounts orders)
  counted =
      all-weaker (Counts accounts (left_at (journal_of accounts orders))) (λ (e : Entry). is_counted (journal_of accounts orders) e ≡ counts_in accounts orders e.order) (journal_of accounts orders)
      (λ e h. h ∙ ap (λ n. is_good accounts e.order.act && not (is_nothing n)) (left-of e.order.key))
      (each_counts accounts (left_at (journal_of accounts orders)) [] orders (λ k h. h) long tt)

  completed : (key : TxKey) (pan : AccountNumber) → is_completed (journal_of accounts orders) key pan ≡ completed_in accounts orders key pan
  completed key pan =
      any-all (λ (c : Entry). is_counted (journal_of accounts orders) c && is_end_of key pan (effect_of c.order)) (λ (c : Entry). counts_in accounts orders c.order && is_end_of key pan (effect_of c.order)) (journal_of accounts orders)
      (all-weaker (λ (e : Entry). is_counted (journal_of accounts orders) e ≡ counts_in accounts orders e.order)
      (λ (c : Entry). is_counted (journal_of accounts orders) c && is_end_of key pan (effect_of c.order) ≡ counts_in accounts orders c.order && is_end_of key pan (effect_of c.order)) (journal_of accounts orders)
      (λ c h. ap (λ b. b && is_end_of key pan (effect_of c.order)) h) counted)
      ∙ any-mapped (λ (c : Instruction). counts_in accounts orders c && is_end_of key pan (effect_of c)) (λ (e : Entry). e.order) (journal_of accounts orders)
      ∙ ap (list_any (λ (c : Instruction). counts_in accounts orders c && is_end_of key pan (effect_of c))) (orders-of accounts orders)

  ended : (key : TxKey) (f : Option Effect) → is_ended (journal_of accounts orders) key f ≡ ended_in accounts orders key f
  ended key None = refl
  ended key (Some f) = ap (λ b. same_side f.side Held && b) (completed key f.pan)

  weighed : (e : Entry) → is_counted (journal_of accounts orders) e ≡ counts_in accounts orders e.order → weight (journal_of accounts orders) e ≡ weight_in accounts orders e.order
  weighed e h =
      ap (λ b. cond (b && not (is_ended (journal_of accounts orders) e.order.key (effect_of e.order))) (smaller_of (effect_amount (effect_of e.order)) (left_at (journal_of accounts orders) e.order.key)) 0) h
      ∙ ap (λ b. cond (counts_in accounts orders e.order && not b) (smaller_of (effect_amount (effect_of e.order)) (left_at (journal_of accounts orders) e.order.key)) 0) (ended e.order.key (effect_of e.order))
      ∙ ap (λ n. cond (counts_in accounts orders e.order && not (ended_in accounts orders e.order.key (effect_of e.order))) (smaller_of (effect_amount (effect_of e.order)) n) 0) (left-of e.order.key)

  total-of : (side : Side) (pan : AccountNumber) → total side pan (journal_of accounts orders) ≡ sum_by (λ o. share side pan (effect_of o) (weight_in accounts orders o)) orders
  total-of side pan =
      sum-all (λ (e : Entry). share side pan (effect_of e.order) (weight (journal_of accounts orders) e)) (λ (e : Entry). share side pan (effect_of e.order) (weight_in accounts orders e.order)) (journal_of accounts orders)
      (all-weaker (λ (e : Entry). is_counted (journal_of accounts orders) e ≡ counts_in accounts orders e.order)
      (λ (e : Entry). share side pan (effect_of e.order) (weight (journal_of accounts orders) e) ≡ share side pan (effect_of e.order) (weight_in accounts orders e.order)) (journal_of accounts orders)
      (λ e h. ap (share side pan (effect_of e.order)) (weighed e h)) counted)
      ∙ sum-mapped (λ (o : Instruction). share side pan (effect_of o) (weight_in accounts orders o)) (λ (e : Entry). e.order) (journal_of accounts orders)
      ∙ ap (sum_by (λ (o : Instruction). share side pan (effect_of o) (weight_in accounts orders o))) (orders-of accounts orders)

-- ---- the same orders in another order

module _ {X : Type 0} (p : X → Bool) (f : X → ℕ) where
  none-passes : (xs : List X) → count_by p xs ≡ 0 → sum_by (λ x. cond (p x) (f x) 0) xs ≡ 0
  none-passes [] h = refl
  none-passes (x ∷ xs) h = by_test (p x) refl (none-passes xs)
    where
      by_test : (b : Bool) → p x ≡ b → (count_by p xs ≡ 0 → sum_by (λ x. cond (p x) (f x) 0) xs ≡ 0) → sum_by (λ x. cond (p x) (f x) 0) (x ∷ xs) ≡ 0
      by_test true e rest = absurd (omega (arith, h, sum_by-cons (λ x. cond (p x) 1 0) x xs, ap {B = ℕ} (λ b. cond b 1 0) e))
      by_test false e rest =
          let none : count_by p xs ≡ 0 = omega (arith, h, sum_by-cons (λ x. cond (p x) 1 0) x xs) in
          omega (arith, rest none, sum_by-cons (λ x. cond (p x) (f x) 0) x xs, ap (λ b. cond b (f x) 0) e)

  -- what at most one element tells, by a sum
  told-once : (xs : List X) → count_by p xs ≤ 1 → option_map f (find p xs) ≡ cond (list_any p xs) (Some (sum_by (λ x. cond (p x) (f x) 0) xs)) None
  told-once [] h = refl
  told-once (x ∷ xs) h = by_test (p x) refl (told-once xs)
    where
      by_test : (b : Bool) → p x ≡ b → (count_by p xs ≤ 1 → option_map f (find p xs) ≡ cond (list_any p xs) (Some (sum_by (λ x. cond (p x) (f x) 0) xs)) None) →
          option_map f (cond b (Some x) (find p xs)) ≡ cond (b || list_any p xs) (Some (sum_by (λ x. cond (p x) (f x) 0) (x ∷ xs))) None
      by_test true e rest =
          let none : count_by p xs ≡ 0 = omega (arith, h, sum_by-cons (λ x. cond (p x) 1 0) x xs, ap {B = ℕ} (λ b. cond b 1 0) e) in
          let told : f x ≡ sum_by (λ x. cond (p x) (f x) 0) (x ∷ xs) = omega (arith, none-passes xs none, sum_by-cons (λ x. cond (p x) (f x) 0) x xs, ap (λ b. cond b (f x) 0) e) in
          ap Some told
      by_test false e rest =
          let few : count_by p xs ≤ 1 = omega (arith, h, sum_by-cons (λ x. cond (p x) 1 0) x xs) in
          let told : sum_by (λ x. cond (p x) (f x) 0) xs ≡ sum_by (λ x. cond (p x) (f x) 0) (x ∷ xs) = omega (arith, sum_by-cons (λ x. cond (p x) (f x) 0) x xs, ap (λ b. cond b (f x) 0) e) in
          rest few ∙ ap (λ n. cond (list_any p xs) (Some n) None) told

  told-same : (xs ys : List X) → IsPermutation xs ys → count_by p xs ≤ 1 → option_map f (find p ys) ≡ option_map f (find p xs)
  told-same xs ys same once =
      let few : count_by p ys ≤ 1 = omega (arith, once, sum_by-IsPermutation (λ x. cond (p x) 1 0) xs ys same) in
      told-once ys few
      ∙ ap (λ b. cond b (Some (sum_by (λ x. cond (p x) (f x) 0) ys)) None) (sym (list_any-IsPermutation p xs ys same))
      ∙ ap (λ n. cond (list_any p xs) (Some n) None) (sum_by-IsPermutation (λ x. cond (p x) (f x) 0) xs ys same)
      ∙ sym (told-once xs once)

module _ (accounts : List Account) (xs ys : List Instruction) (are : AreReordered accounts xs ys) where
  left-same : (key : TxKey) → left_in ys key ≡ left_in xs key
  left-same key = told-same (names key) (λ (o : Instruction). left_by o.act) xs ys are.same (are.once key)

  counts-same : (o : Instruction) → counts_in accounts ys o ≡ counts_in accounts xs o
  counts-same o = ap (λ n. is_good accounts o.act && not (is_nothing n)) (left-same o.key)

  completed-same : (key : TxKey) (pan : AccountNumber) → completed_in accounts ys key pan ≡ completed_in accounts xs key pan
  completed-same key pan =
      sym (list_any-IsPermutation (λ (c : Instruction). counts_in accounts ys c && is_end_of key pan (effect_of c)) xs ys are.same)
      ∙ any-all (λ (c : Instruction). counts_in accounts ys c && is_end_of key pan (effect_of c)) (λ (c : Instruction). counts_in accounts xs c && is_end_of key pan (effect_of c)) xs
      (every (λ (c : Instruction). counts_in accounts ys c && is_end_of key pan (effect_of c) ≡ counts_in accounts xs c && is_end_of key pan (effect_of c)) xs
      (λ c. ap (λ b. b && is_end_of key pan (effect_of c)) (counts-same c)))

  ended-same : (key : TxKey) (f : Option Effect) → ended_in accounts ys key f ≡ ended_in accounts xs key f
  ended-same key None = refl
  ended-same key (Some f) = ap (λ b. same_side f.side Held && b) (completed-same key f.pan)

  weight-same : (o : Instruction) → weight_in accounts ys o ≡ weight_in accounts xs o
  weight-same o =
      ap (λ b. cond (b && not (ended_in accounts ys o.key (effect_of o))) (smaller_of (effect_amount (effect_of o)) (left_in ys o.key)) 0) (counts-same o)
      ∙ ap (λ b. cond (counts_in accounts xs o && not b) (smaller_of (effect_amount (effect_of o)) (left_in ys o.key)) 0) (ended-same o.key (effect_of o))
      ∙ ap (λ n. cond (counts_in accounts xs o && not (ended_in accounts xs o.key (effect_of o))) (smaller_of (effect_amount (effect_of o)) n) 0) (left-same o.key)

  total-same : (side : Side) (pan : AccountNumber) → total side pan (journal_of accounts ys) ≡ total side pan (journal_of accounts xs)
  total-same side pan =
      total-of accounts ys are.enough_too side pan
      ∙ sum_by-IsPermutation (λ (o : Instruction). share side pan (effect_of o) (weight_in accounts ys o)) xs ys are.same
      ∙ sum-all (λ (o : Instruction). share side pan (effect_of o) (weight_in accounts ys o)) (λ (o : Instruction). share side pan (effect_of o) (weight_in accounts xs o)) xs
      (every (λ (o : Instruction). share side pan (effect_of o) (weight_in accounts ys o) ≡ share side pan (effect_of o) (weight_in accounts xs o)) xs
      (λ o. ap (share side pan (effect_of o)) (weight-same o)))
      ∙ sym (total-of accounts xs are.enough side pan)

pub ledgers-agree : (accounts : List Account) (xs ys : List Instruction) (a : Account) → AreReordered accounts xs ys →
    ledger (journal_of accounts ys) a ≡ ledger (journal_of accounts xs) a
ledgers-agree accounts xs ys a are =
    ap (λ n. a.opening +ℤ pos n -ℤ pos (total Debited a.pan (journal_of accounts ys))) (total-same accounts xs ys are Credited a.pan)
    ∙ ap (λ n. a.opening +ℤ pos (total Credited a.pan (journal_of accounts xs)) -ℤ pos n) (total-same accounts xs ys are Debited a.pan)

pub available-agree : (accounts : List Account) (xs ys : List Instruction) (a : Account) → AreReordered accounts xs ys →
    available (journal_of accounts ys) a ≡ available (journal_of accounts xs) a
available-agree accounts xs ys a are =
    ap (λ z. z -ℤ pos (total Held a.pan (journal_of accounts ys))) (ledgers-agree accounts xs ys a are)
    ∙ ap (λ n. ledger (journal_of accounts xs) a -ℤ pos n) (total-same accounts xs ys are Held a.pan)
