-- A completion of a hold that isn't there is what a debit is.
use Rattle.std.proofs.Common.{◌≡◌, ℕ, Bool, true, false, cond, not, refl, arith, ap, sym, ◌∙◌}
use Rattle.std.proofs.Common.{subst}
use Rattle.std.proofs.Common.{List, [], ◌∷◌, ◌++◌, ◌+◌, length}
use Rattle.std.specs.Prelude.{◌==◌, ◌&&◌, ◌||◌, Option, Some, None, option_map, is_some}
use Rattle.std.specs.Prelude.{sum_by, pos, ◌+ℤ◌, ◌-ℤ◌, int_lt, if◌then◌else◌}
use Rattle.std.specs.List.{list_any, AllByRecursion}
use Rattle.std.specs.Option.{option_or}
use Rattle.std.proofs.lemmas.List.Folds.{find-append}
use Rattle.std.proofs.lemmas.List.Sums.{sum_by-cons}
use Rattle.iso_order.specs.declared.act.Act.TheVariants.{Debit, Complete}
use Rattle.iso_order.specs.declared.act.Money.{Money}
use Rattle.iso_order.specs.declared.key.TxKey.{TxKey}
use Rattle.iso_order.specs.Key.{class_digit, function_digit, same_key}
use Rattle.iso_order.specs.Order.{Instruction, same_pan, same_currency}
use Rattle.iso_order.specs.Pan.{AccountNumber}
use Rattle.iso_issuer.specs.declared.account.Account.{Account}
use Rattle.iso_issuer.specs.declared.balances.Balance.{Balance}
use Rattle.iso_issuer.specs.declared.effect.Effect.{Effect}
use Rattle.iso_issuer.specs.declared.effect.Side.{Side}
use Rattle.iso_issuer.specs.declared.effect.Side.TheVariants.{Credited, Debited, Held}
use Rattle.iso_issuer.specs.declared.journal.Entry.{Entry}
use Rattle.iso_issuer.specs.Account.{account_of}
use Rattle.iso_issuer.specs.Balance.{share, total, available, balance_on}
use Rattle.iso_issuer.specs.Books.{Books, journal, books_with}
use Rattle.iso_issuer.specs.Decision.{account_code, code_of, new_answer, answer_by}
use Rattle.iso_issuer.specs.Decision.{new_entry}
use Rattle.iso_issuer.specs.Effect.{effect_of, effect_amount, is_key, is_end_of, side_of}
use Rattle.iso_issuer.specs.Effect.{same_side, is_drawn}
use Rattle.iso_issuer.specs.Journal.{is_entered, entry_at, undone_key, left_by, left_at}
use Rattle.iso_issuer.specs.Journal.{reversal_of, is_nothing, is_reversed, smaller_of}
use Rattle.iso_issuer.specs.Journal.{is_counted_with, is_counted}
use Rattle.iso_issuer.specs.Journal.{is_completed, is_ended, weight, HasDistinctKeys}
use Rattle.iso_shards.specs.Laws.{IsAsDebit}
use Rattle.iso_shards.proofs.Lists.{every, all-weaker}
use Rattle.iso_shards.proofs.Keys.{same_key_sym}
use Rattle.iso_shards.proofs.Places.{completes}
use Rattle.iso_shards.proofs.Steps.{IssuerLaws, all_of_map}

-- ---- an entry more, which reverses nothing, and ends no hold of those before it

-- it ends none of them on any account
abbrev EndsNone : List Entry → Entry → Type 0
EndsNone j e =
    AllByRecursion
    (λ x. (pan : AccountNumber) → is_end_of x.order.key pan (effect_of e.order) ≡ false) j

module _ (j : List Entry) (e : Entry) (no_undo : undone_key e.order.act ≡ None) where
  left_more : (key : TxKey) → left_at (j ++ e ∷ []) key ≡ left_at j key
  left_more key =
      ap (option_map (λ (r : Entry). left_by r.order.act))
      (find-append (λ (r : Entry). is_key (undone_key r.order.act) key) j (e ∷ [])
      ∙ ap (λ k. option_or (reversal_of j key) (cond (is_key k key) (Some e) None)) no_undo
      ∙ or_none (reversal_of j key))
    where
      or_none : (f : Option Entry) → option_or f None ≡ f
      or_none None = refl
      or_none (Some x) = refl

  counted_more : (x : Entry) → is_counted (j ++ e ∷ []) x ≡ is_counted j x
  counted_more x = ap (λ l. is_counted_with l x) (left_more x.order.key)

  completed_more : (key : TxKey) (pan : AccountNumber)
      → is_end_of key pan (effect_of e.order) ≡ false
      → is_completed (j ++ e ∷ []) key pan ≡ is_completed j key pan
  completed_more key pan none = by_list j
    where
      all_off : (b : Bool) → (b && is_end_of key pan (effect_of e.order)) || false ≡ false
      all_off true = ap (λ t. t || false) none
      all_off false = refl

      by_list : (xs : List Entry)
          → list_any (completes (j ++ e ∷ []) key pan) (xs ++ e ∷ [])
          ≡ list_any (completes j key pan) xs
      by_list [] = all_off (is_counted (j ++ e ∷ []) e)
      by_list (x ∷ xs) =
          ap (λ b. (b && is_end_of key pan (effect_of x.order))
          || list_any (completes (j ++ e ∷ []) key pan) (xs ++ e ∷ [])) (counted_more x)
          ∙ ap (λ b. completes j key pan x || b) (by_list xs)

  ended_more : (key : TxKey) (f : Option Effect)
      → ((pan : AccountNumber) → is_end_of key pan (effect_of e.order) ≡ false)
      → is_ended (j ++ e ∷ []) key f ≡ is_ended j key f
  ended_more key None none = refl
  ended_more key (Some f) none =
      ap (λ b. same_side f.side Held && b) (completed_more key f.pan (none f.pan))

  weight_more : (x : Entry)
      → ((pan : AccountNumber) → is_end_of x.order.key pan (effect_of e.order) ≡ false)
      → weight (j ++ e ∷ []) x ≡ weight j x
  weight_more x none =
      ap (λ l. cond (is_counted_with l x
      && not (is_ended (j ++ e ∷ []) x.order.key (effect_of x.order)))
      (smaller_of (effect_amount (effect_of x.order)) l) 0) (left_more x.order.key)
      ∙ ap (λ b. cond (is_counted j x && not b)
      (smaller_of (effect_amount (effect_of x.order)) (left_at j x.order.key)) 0)
      (ended_more x.order.key (effect_of x.order) none)

  total_more : (side : Side) (pan : AccountNumber) → EndsNone j e
      → total side pan (j ++ e ∷ [])
      ≡ total side pan j + share side pan (effect_of e.order) (weight (j ++ e ∷ []) e)
  total_more side pan none = by_list j none
    where
      more : Entry → ℕ
      more x = share side pan (effect_of x.order) (weight (j ++ e ∷ []) x)

      before : Entry → ℕ
      before x = share side pan (effect_of x.order) (weight j x)

      by_list : (xs : List Entry) → EndsNone xs e
          → sum_by more (xs ++ e ∷ []) ≡ sum_by before xs + more e
      by_list [] none = omega (arith, sum_by-cons more e [])
      by_list (x ∷ xs) none =
          let here : more x ≡ before x =
          ap (share side pan (effect_of x.order)) (weight_more x none.0) in
          let rest = by_list xs none.1 in
          omega (arith, here, rest, sum_by-cons more x (xs ++ e ∷ []), sum_by-cons before x xs)

-- ---- a completion, and a debit

module _ (j : List Entry) (key hold : TxKey) (m : Money) (two : class_digit key ≡ 2) where
  -- a debit of class 2 takes
  takes : side_of key ≡ Debited
  takes = ap (λ n. if n == 1 then Held else Debited) two

  code_alike : (accounts : List Account)
      → code_of accounts j (record { key = key; act = Complete m hold })
      ≡ code_of accounts j (record { key = key; act = Debit m })
  code_alike accounts =
      ap (λ c. cond (is_reversed j key) 21 c) (by_found (account_of accounts m.pan))
    where
      by_found : (f : Option Account)
          → account_code j (record { key = key; act = Complete m hold }) m f
          ≡ account_code j (record { key = key; act = Debit m }) m f
      by_found None = refl
      by_found (Some a) =
          ap (λ s. if same_currency a.currency m.currency
          then (if is_drawn s && (function_digit key == 0)
          && int_lt (available j a) (pos (smaller_of m.amount (left_at j key)))
          then 51 else 0)
          else 12) (sym takes)

  answer_alike : (accounts : List Account)
      → new_answer accounts j (record { key = key; act = Complete m hold })
      ≡ new_answer accounts j (record { key = key; act = Debit m })
  answer_alike accounts =
      ap (λ c. record { code = c; seq = length j + 1; shown = if c == 0 then None else None })
      (code_alike accounts)

  -- ---- what each counts

  -- what an answer of this code lets the amount count
  abbrev weighs : ℕ → ℕ
  weighs code =
      cond (((code == 0) && not (is_nothing (left_at j key))) && true)
      (smaller_of m.amount (left_at j key)) 0

  module _ (accounts : List Account) where
    abbrev completed : Entry
    completed = new_entry accounts j (record { key = key; act = Complete m hold })

    abbrev debited : Entry
    debited = new_entry accounts j (record { key = key; act = Debit m })

    weight_completed :
        weight (j ++ completed ∷ []) completed
        ≡ weighs (code_of accounts j (record { key = key; act = Complete m hold }))
    weight_completed =
        ap (λ l. cond (is_counted_with l completed && true) (smaller_of m.amount l) 0)
        (left_more j completed refl key)

    weight_debited :
        weight (j ++ debited ∷ []) debited
        ≡ weighs (code_of accounts j (record { key = key; act = Debit m }))
    weight_debited =
        ap (λ l. cond (is_counted_with l debited
        && not (is_ended (j ++ debited ∷ []) key (effect_of debited.order)))
        (smaller_of m.amount l) 0) (left_more j debited refl key)
        ∙ ap (λ s. cond (is_counted_with (left_at j key) debited
        && not (same_side s Held && is_completed (j ++ debited ∷ []) key m.pan))
        (smaller_of m.amount (left_at j key)) 0) takes

    module _ (away : AllByRecursion (λ x. same_key hold x.order.key ≡ false) j) where
      ends_none : EndsNone j completed
      ends_none =
          all-weaker (λ (x : Entry). same_key hold x.order.key ≡ false) _ j
          (λ x other pan. ap (λ b. b && same_pan m.pan pan) other) away

      total_completed : (side : Side) (pan : AccountNumber)
          → total side pan (j ++ completed ∷ [])
          ≡ total side pan j + cond (same_side Debited side && same_pan m.pan pan)
          (weighs (code_of accounts j (record { key = key; act = Complete m hold }))) 0
      total_completed side pan =
          total_more j completed refl
          side pan ends_none
          ∙ ap (λ w. total side pan j + cond (same_side Debited side && same_pan m.pan pan) w 0)
          weight_completed

      total_debited : (side : Side) (pan : AccountNumber)
          → total side pan (j ++ debited ∷ [])
          ≡ total side pan j + cond (same_side Debited side && same_pan m.pan pan)
          (weighs (code_of accounts j (record { key = key; act = Debit m }))) 0
      total_debited side pan =
          total_more j debited refl side pan (every _ j (λ x p. refl))
          ∙ ap (λ w. total side pan j
          + cond (same_side (side_of key) side && same_pan m.pan pan) w 0) weight_debited
          ∙ ap (λ s. total side pan j + cond (same_side s side && same_pan m.pan pan)
          (weighs (code_of accounts j (record { key = key; act = Debit m }))) 0) takes

      pub total_alike : (side : Side) (pan : AccountNumber)
          → total side pan (j ++ completed ∷ [])
          ≡ total side pan (j ++ debited ∷ [])
      total_alike side pan =
          total_completed side pan
          ∙ ap (λ c. total side pan j + cond (same_side Debited side && same_pan m.pan pan)
          (weighs c) 0) (code_alike accounts)
          ∙ sym (total_debited side pan)

      pub held_stays : (pan : AccountNumber)
          → total Held pan (j ++ completed ∷ [])
          ≡ total Held pan j
      held_stays pan =
          total_completed Held pan ∙ none_more (total Held pan j)
        where
          none_more : (n : ℕ) → n + 0 ≡ n
          none_more n = omega arith

      pub balance_alike : (a : Account)
          → balance_on (j ++ completed ∷ []) a ≡ balance_on (j ++ debited ∷ []) a
      balance_alike a =
          let c = j ++ completed ∷ [] in
          let d = j ++ debited ∷ [] in
          ap (λ n. with_totals n (total Debited a.pan c) (total Held a.pan c))
          (total_alike Credited a.pan)
          ∙ ap (λ n. with_totals (total Credited a.pan d) n (total Held a.pan c))
          (total_alike Debited a.pan)
          ∙ ap (λ n. with_totals (total Credited a.pan d) (total Debited a.pan d) n)
          (total_alike Held a.pan)
        where
          with_totals : ℕ → ℕ → ℕ → Balance
          with_totals credited debited held = record {
            account = a;
            ledger = a.opening +ℤ pos credited -ℤ pos debited;
            available = a.opening +ℤ pos credited -ℤ pos debited -ℤ pos held;
          }

-- ---- the law

-- no order has this key
each_away : (hold : TxKey) (os : List Instruction) → is_entered os hold ≡ false
    → AllByRecursion (λ o. same_key hold o.key ≡ false) os
each_away hold [] none = tt
each_away hold (o ∷ os) none =
    by_test (same_key o.key hold) refl none (each_away hold os)
  where
    by_test : (b : Bool) → same_key o.key hold ≡ b → b || is_entered os hold ≡ false
        → (is_entered os hold ≡ false → AllByRecursion (λ p. same_key hold p.key ≡ false) os)
        → (same_key hold o.key ≡ false) × AllByRecursion (λ p. same_key hold p.key ≡ false) os
    by_test true same none rest = absurd (elsewhere none)
      where
        elsewhere : true ≡ false → ⊥
        elsewhere h = cc
    by_test false other none rest = (same_key_sym hold o.key ∙ other, rest none)

module _ (laws : IssuerLaws) (b : Books) (distinct : HasDistinctKeys b.orders) where
  -- an order of a new key is an entry more
  entered : (o : Instruction) → is_entered b.orders o.key ≡ false
      → journal (books_with b o) ≡ journal b ++ new_entry b.accounts (journal b) o ∷ []
  entered o new =
      ap journal (laws.last b o distinct new) ∙ laws.grow b.accounts b.orders o

  pub is_as_debit : (key hold : TxKey) (m : Money) → class_digit key ≡ 2
      → is_entered b.orders key ≡ false → is_entered b.orders hold ≡ false
      → IsAsDebit b (record { key = key; act = Complete m hold })
      (record { key = key; act = Debit m })
  is_as_debit key hold m two new none = record {
    answer =
        ap (answer_by b.accounts (journal b) c) no_entry
        ∙ answer_alike (journal b) key hold m two b.accounts
        ∙ sym (ap (answer_by b.accounts (journal b) d) no_entry);
    balances = λ a.
        ap (λ (j : List Entry). balance_on j a) (entered c new)
        ∙ balance_alike (journal b) key hold m two b.accounts away a
        ∙ sym (ap (λ (j : List Entry). balance_on j a) (entered d new));
    held = λ pan.
        ap (λ (j : List Entry). total Held pan j) (entered c new)
        ∙ held_stays (journal b) key hold m two b.accounts away pan;
  }
    where
      c : Instruction
      c = record { key = key; act = Complete m hold }

      d : Instruction
      d = record { key = key; act = Debit m }

      no_entry : entry_at (journal b) key ≡ None
      no_entry =
          is_none (entry_at (journal b) key) (sym (laws.has b.accounts b.orders key) ∙ new)
        where
          is_none : (f : Option Entry) → is_some f ≡ false → f ≡ None
          is_none None h = refl
          is_none (Some e) h = cc

      away : AllByRecursion (λ x. same_key hold x.order.key ≡ false) (journal b)
      away =
          all_of_map (λ (o : Instruction). same_key hold o.key ≡ false) (λ (e : Entry). e.order)
          (journal b)
          (subst (AllByRecursion (λ o. same_key hold o.key ≡ false))
          (sym (laws.orders b.accounts b.orders)) (each_away hold b.orders none))
