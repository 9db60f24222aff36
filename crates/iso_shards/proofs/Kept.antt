-- What a journal gives on a shard's accounts, where entries that don't concern them are left out.
use Rattle.std.proofs.Common.{◌≡◌, ℕ, Bool, true, false, cond, not, refl, arith, ap, sym, ◌∙◌}
use Rattle.std.proofs.Common.{List, [], ◌∷◌}
use Rattle.std.specs.Prelude.{◌&&◌, ◌||◌, Some, option_map, map, filter, find, sum_by}
use Rattle.std.specs.List.{list_any, AllByRecursion}
use Rattle.std.proofs.lemmas.List.Sums.{sum_by-cons}
use Rattle.iso_order.specs.declared.act.Act.{Act}
use Rattle.iso_order.specs.declared.act.Act.TheVariants.{Debit, Credit, Inquiry, Undo, Complete}
use Rattle.iso_order.specs.declared.key.TxKey.{TxKey}
use Rattle.iso_order.specs.Order.{Instruction, same_pan}
use Rattle.iso_order.specs.Pan.{AccountNumber}
use Rattle.iso_issuer.specs.declared.effect.Side.{Side}
use Rattle.iso_issuer.specs.declared.effect.Side.TheVariants.{Held}
use Rattle.iso_issuer.specs.declared.holds.OpenHold.{OpenHold}
use Rattle.iso_issuer.specs.declared.journal.Entry.{Entry}
use Rattle.iso_issuer.specs.Effect.{effect_of, effect_by, effect_amount, is_key, is_end_of, is_on}
use Rattle.iso_issuer.specs.Effect.{same_side, side_of}
use Rattle.iso_issuer.specs.Journal.{undone_key, left_by, left_at, smaller_of}
use Rattle.iso_issuer.specs.Journal.{is_counted_with, is_counted, is_completed, is_ended}
use Rattle.iso_issuer.specs.Journal.{is_standing, weight}
use Rattle.iso_issuer.specs.Balance.{share, total}
use Rattle.iso_issuer.specs.Holds.{is_open, hold_now, open_holds}
use Rattle.iso_shards.specs.Shards.{is_own}
use Rattle.iso_shards.proofs.Lists.{every, all-weaker}
use Rattle.iso_shards.proofs.Keys.{same_pan_is}
use Rattle.iso_shards.proofs.Places.{completes}

-- ---- lists of which some elements are left out

-- what the test finds is kept
pub find_kept : {X : Type 0} (p q : X → Bool) (xs : List X)
    → AllByRecursion (λ x. q x ≡ true → p x ≡ true) xs → find q (filter p xs) ≡ find q xs
find_kept {X} p q [] all = refl
find_kept {X} p q (x ∷ xs) all =
    by_tests (p x) (q x) refl refl all.0 (find_kept p q xs all.1)
  where
    by_tests : (a b : Bool) → p x ≡ a → q x ≡ b → (q x ≡ true → p x ≡ true)
        → find q (filter p xs) ≡ find q xs
        → find q (cond a (x ∷ filter p xs) (filter p xs)) ≡ cond b (Some x) (find q xs)
    by_tests true true e f h rest = ap (λ b. cond b (Some x) (find q (filter p xs))) f
    by_tests true false e f h rest = ap (λ b. cond b (Some x) (find q (filter p xs))) f ∙ rest
    by_tests false true e f h rest = let is : p x ≡ true = h f in cc
    by_tests false false e f h rest = rest

-- what passes is kept, and passes there
pub any_kept : {X : Type 0} (p q r : X → Bool) (xs : List X)
    → AllByRecursion (λ x. (r x ≡ true → p x ≡ true) × (p x ≡ true → q x ≡ r x)) xs
    → list_any q (filter p xs) ≡ list_any r xs
any_kept {X} p q r [] all = refl
any_kept {X} p q r (x ∷ xs) all =
    by_tests (p x) (r x) refl refl all.0.0 all.0.1 (any_kept p q r xs all.1)
  where
    by_tests : (a b : Bool) → p x ≡ a → r x ≡ b → (r x ≡ true → p x ≡ true)
        → (p x ≡ true → q x ≡ r x) → list_any q (filter p xs) ≡ list_any r xs
        → list_any q (cond a (x ∷ filter p xs) (filter p xs)) ≡ b || list_any r xs
    by_tests true b e f h same rest =
        ap (λ t. t || list_any q (filter p xs)) (same e ∙ f) ∙ ap (λ t. b || t) rest
    by_tests false true e f h same rest = let is : p x ≡ true = h f in cc
    by_tests false false e f h same rest = rest

-- what is left out counts for nothing
pub sum_kept : {X : Type 0} (p : X → Bool) (f g : X → ℕ) (xs : List X)
    → AllByRecursion (λ x. (p x ≡ false → g x ≡ 0) × (p x ≡ true → f x ≡ g x)) xs
    → sum_by f (filter p xs) ≡ sum_by g xs
sum_kept {X} p f g [] all = refl
sum_kept {X} p f g (x ∷ xs) all =
    by_test (p x) refl all.0.0 all.0.1 (sum_kept p f g xs all.1)
  where
    by_test : (b : Bool) → p x ≡ b → (p x ≡ false → g x ≡ 0) → (p x ≡ true → f x ≡ g x)
        → sum_by f (filter p xs) ≡ sum_by g xs
        → sum_by f (cond b (x ∷ filter p xs) (filter p xs)) ≡ sum_by g (x ∷ xs)
    by_test true e none same rest =
        omega (arith, same e, sum_by-cons f x (filter p xs), sum_by-cons g x xs)
    by_test false e none same rest = omega (arith, none e, sum_by-cons g x xs)

and_off : (a b t : Bool) → t ≡ false → a && t ≡ b && t
and_off a b true e = cc
and_off true true false e = refl
and_off true false false e = refl
and_off false true false e = refl
and_off false false false e = refl

both_on : (a b : Bool) → a && b ≡ true → b ≡ true
both_on true b h = h
both_on false b h = cc

-- ---- what names an account of the shard

own_by : (own : AccountNumber → Bool) (a b : AccountNumber) → own b ≡ true → same_pan a b ≡ true
    → own a ≡ true
own_by own a b is h = ap own (same_pan_is a b h) ∙ is

-- an effect on an account of the shard is that of an order that names it
pub on_own : (own : AccountNumber → Bool) (side : Side) (pan : AccountNumber) (key : TxKey)
    (act : Act) → own pan ≡ true → is_on side pan (effect_by key act) ≡ true
    → is_own own (record { key = key; act = act }) ≡ true
on_own own side pan key (Debit m) is h = own_by own m.pan pan is (both_on _ _ h)
on_own own side pan key (Credit m) is h = own_by own m.pan pan is (both_on _ _ h)
on_own own side pan key (Inquiry m) is h = cc
on_own own side pan key (Undo original left) is h = cc
on_own own side pan key (Complete m hold) is h = own_by own m.pan pan is (both_on _ _ h)

end_own : (own : AccountNumber → Bool) (ended : TxKey) (pan : AccountNumber) (key : TxKey)
    (act : Act) → own pan ≡ true → is_end_of ended pan (effect_by key act) ≡ true
    → is_own own (record { key = key; act = act }) ≡ true
end_own own ended pan key (Debit m) is h = cc
end_own own ended pan key (Credit m) is h = cc
end_own own ended pan key (Inquiry m) is h = cc
end_own own ended pan key (Undo original left) is h = cc
end_own own ended pan key (Complete m hold) is h = own_by own m.pan pan is (both_on _ _ h)

-- ---- what is kept

-- each reversal of the key is kept
abbrev pub AreUndosKept : (Instruction → Bool) → TxKey → Type 0
AreUndosKept keep key = (u : Instruction) → is_key (undone_key u.act) key ≡ true → keep u ≡ true

-- an order that names an account of the shard is kept, and each reversal of it
pub record IsKeptWith (own : AccountNumber → Bool) (keep : Instruction → Bool) (o : Instruction)
    : Type 0 where
  pub here : is_own own o ≡ true → keep o ≡ true
  pub undos : is_own own o ≡ true → AreUndosKept keep o.key

-- all of them
abbrev pub AllKept : (AccountNumber → Bool) → (Instruction → Bool) → List Entry → Type 0
AllKept own keep es = AllByRecursion (λ e. IsKeptWith own keep e.order) es

-- the entries of orders that are kept
abbrev pub kept : (Instruction → Bool) → List Entry → List Entry
kept keep es = filter (λ e. keep e.order) es

-- what is left of a key
pub left_kept : (keep : Instruction → Bool) (es : List Entry) (key : TxKey)
    → AreUndosKept keep key → left_at (kept keep es) key ≡ left_at es key
left_kept keep es key undos =
    ap (option_map (λ (r : Entry). left_by r.order.act))
    (find_kept (λ (e : Entry). keep e.order) (λ (e : Entry). is_key (undone_key e.order.act) key) es
    (every (λ (e : Entry).
    is_key (undone_key e.order.act) key ≡ true → keep e.order ≡ true) es
    (λ e. undos e.order)))

module _ (own : AccountNumber → Bool) (keep : Instruction → Bool) (j : List Entry)
    (all : AllKept own keep j) where
  counted : (e : Entry) → AreUndosKept keep e.order.key
      → is_counted (kept keep j) e ≡ is_counted j e
  counted e undos = ap (λ l. is_counted_with l e) (left_kept keep j e.order.key undos)

  completed : (key : TxKey) (pan : AccountNumber) → own pan ≡ true
      → is_completed (kept keep j) key pan ≡ is_completed j key pan
  completed key pan is =
      any_kept (λ (e : Entry). keep e.order) (completes (kept keep j) key pan) (completes j key pan)
      j (all-weaker (λ (e : Entry). IsKeptWith own keep e.order) (λ (e : Entry).
      (completes j key pan e ≡ true → keep e.order ≡ true)
      × (keep e.order ≡ true → completes (kept keep j) key pan e ≡ completes j key pan e))
      j each all)
    where
      each : (e : Entry) → IsKeptWith own keep e.order
          → (completes j key pan e ≡ true → keep e.order ≡ true)
          × (keep e.order ≡ true → completes (kept keep j) key pan e ≡ completes j key pan e)
      each e with_it = (
        λ h. with_it.here (end_own own key pan e.order.key e.order.act is
            (both_on (is_counted j e) (is_end_of key pan (effect_of e.order)) h)),
        λ k. by_test (is_end_of key pan (effect_of e.order)) refl,
      )
        where
          by_test : (t : Bool) → is_end_of key pan (effect_of e.order) ≡ t
              → completes (kept keep j) key pan e ≡ completes j key pan e
          by_test true h =
              ap (λ b. b && is_end_of key pan (effect_of e.order))
              (counted e (with_it.undos (end_own own key pan e.order.key e.order.act is h)))
          by_test false h =
              and_off (is_counted (kept keep j) e) (is_counted j e)
              (is_end_of key pan (effect_of e.order)) h

  ended : (key ended_key : TxKey) (act : Act) → is_own own (record { key = key; act = act }) ≡ true
      → is_ended (kept keep j) ended_key (effect_by key act)
      ≡ is_ended j ended_key (effect_by key act)
  ended key k (Debit m) is = ap (λ b. same_side (side_of key) Held && b) (completed k m.pan is)
  ended key k (Credit m) is = refl
  ended key k (Inquiry m) is = refl
  ended key k (Undo original left) is = refl
  ended key k (Complete m hold) is = refl

  standing : (e : Entry) → IsKeptWith own keep e.order → is_own own e.order ≡ true
      → is_standing (kept keep j) e ≡ is_standing j e
  standing e with_it is =
      ap (λ b. b && not (is_ended (kept keep j) e.order.key (effect_of e.order)))
      (counted e (with_it.undos is))
      ∙ ap (λ b. is_counted j e && not b) (ended e.order.key e.order.key e.order.act is)

  weighed : (e : Entry) → IsKeptWith own keep e.order → is_own own e.order ≡ true
      → weight (kept keep j) e ≡ weight j e
  weighed e with_it is =
      ap (λ b. cond b (smaller_of (effect_amount (effect_of e.order))
      (left_at (kept keep j) e.order.key)) 0) (standing e with_it is)
      ∙ ap (λ l. cond (is_standing j e) (smaller_of (effect_amount (effect_of e.order)) l) 0)
      (left_kept keep j e.order.key (with_it.undos is))

  -- what counts on an account of the shard
  pub total_kept : (side : Side) (pan : AccountNumber) → own pan ≡ true
      → total side pan (kept keep j) ≡ total side pan j
  total_kept side pan is =
      sum_kept (λ (e : Entry). keep e.order)
      (λ e. share side pan (effect_of e.order) (weight (kept keep j) e))
      (λ e. share side pan (effect_of e.order) (weight j e))
      j (all-weaker (λ (e : Entry). IsKeptWith own keep e.order) _ j each all)
    where
      each : (e : Entry) → IsKeptWith own keep e.order
          → (keep e.order ≡ false → share side pan (effect_of e.order) (weight j e) ≡ 0)
          × (keep e.order ≡ true → share side pan (effect_of e.order) (weight (kept keep j) e)
          ≡ share side pan (effect_of e.order) (weight j e))
      each e with_it = (
        none (is_on side pan (effect_of e.order)) refl,
        λ k. same (is_on side pan (effect_of e.order)) refl,
      )
        where
          none : (t : Bool) → is_on side pan (effect_of e.order) ≡ t → keep e.order ≡ false
              → share side pan (effect_of e.order) (weight j e) ≡ 0
          none true h off =
              let k = with_it.here (on_own own side pan e.order.key e.order.act is h) in cc
          none false h off = ap (λ b. cond b (weight j e) 0) h

          same : (t : Bool) → is_on side pan (effect_of e.order) ≡ t
              → share side pan (effect_of e.order) (weight (kept keep j) e)
              ≡ share side pan (effect_of e.order) (weight j e)
          same true h =
              ap (share side pan (effect_of e.order))
              (weighed e with_it (on_own own side pan e.order.key e.order.act is h))
          same false h =
              ap (λ b. cond b (weight (kept keep j) e) 0) h
              ∙ sym (ap (λ b. cond b (weight j e) 0) h)

  -- an entry that holds on the account
  opened_on : (pan : AccountNumber) → own pan ≡ true → (e : Entry) → IsKeptWith own keep e.order
      → is_on Held pan (effect_of e.order) ≡ true → (xs ys : List Entry)
      → map (hold_now (kept keep j)) xs ≡ map (hold_now j) ys
      → map (hold_now (kept keep j)) (cond (is_open (kept keep j) pan e) (e ∷ xs) xs)
      ≡ map (hold_now j) (cond (is_open j pan e) (e ∷ ys) ys)
  opened_on pan is e with_it on xs ys rest =
      let named = on_own own Held pan e.order.key e.order.act is on in
      ap (λ b. map (hold_now (kept keep j)) (cond (b && is_on Held pan (effect_of e.order))
      (e ∷ xs) xs)) (standing e with_it named)
      ∙ by_test (is_open j pan e) (weighed e with_it named)
    where
      by_test : (b : Bool) → weight (kept keep j) e ≡ weight j e
          → map (hold_now (kept keep j)) (cond b (e ∷ xs) xs)
          ≡ map (hold_now j) (cond b (e ∷ ys) ys)
      by_test true same =
          ap (λ w. hold w ∷ map (hold_now (kept keep j)) xs) same
          ∙ ap (λ hs. hold (weight j e) ∷ hs) rest
        where
          hold : ℕ → OpenHold
          hold w = record { entry = e; amount = w }
      by_test false same = rest

  opened : (pan : AccountNumber) → own pan ≡ true → (es : List Entry) → AllKept own keep es
      → map (hold_now (kept keep j)) (filter (is_open (kept keep j) pan) (kept keep es))
      ≡ map (hold_now j) (filter (is_open j pan) es)
  opened pan is [] all_es = refl
  opened pan is (e ∷ es) all_es =
      by_tests (keep e.order) (is_on Held pan (effect_of e.order)) refl refl
      (opened pan is es all_es.1)
    where
      shut : (s : Bool) → is_on Held pan (effect_of e.order) ≡ false
          → s && is_on Held pan (effect_of e.order) ≡ false
      shut true l = l
      shut false l = refl

      -- whether it is kept, and whether it holds on the account
      by_tests : (k t : Bool) → keep e.order ≡ k → is_on Held pan (effect_of e.order) ≡ t
          → map (hold_now (kept keep j)) (filter (is_open (kept keep j) pan) (kept keep es))
          ≡ map (hold_now j) (filter (is_open j pan) es)
          → map (hold_now (kept keep j))
          (filter (is_open (kept keep j) pan) (cond k (e ∷ kept keep es) (kept keep es)))
          ≡ map (hold_now j) (cond (is_open j pan e)
          (e ∷ filter (is_open j pan) es) (filter (is_open j pan) es))
      by_tests true true k on rest = opened_on pan is e all_es.0 on _ _ rest
      by_tests false true k on rest =
          let here = all_es.0.here (on_own own Held pan e.order.key e.order.act is on) in cc
      by_tests true false k off rest =
          ap (λ b. map (hold_now (kept keep j))
          (cond b (e ∷ filter (is_open (kept keep j) pan) (kept keep es))
          (filter (is_open (kept keep j) pan) (kept keep es))))
          (shut (is_standing (kept keep j) e) off)
          ∙ rest
          ∙ sym (ap (λ b. map (hold_now j)
          (cond b (e ∷ filter (is_open j pan) es) (filter (is_open j pan) es)))
          (shut (is_standing j e) off))
      by_tests false false k off rest =
          rest
          ∙ sym (ap (λ b. map (hold_now j)
          (cond b (e ∷ filter (is_open j pan) es) (filter (is_open j pan) es)))
          (shut (is_standing j e) off))

-- the open holds on it
pub holds_kept : (own : AccountNumber → Bool) (keep : Instruction → Bool) (j : List Entry)
    → AllKept own keep j → (pan : AccountNumber) → own pan ≡ true
    → open_holds (kept keep j) pan ≡ open_holds j pan
holds_kept own keep j all pan is = opened own keep j all pan is j all
