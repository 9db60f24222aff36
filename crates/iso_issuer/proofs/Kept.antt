-- The first orders of each key, up to a limit.
use Rattle.std.proofs.Common.{◌≡◌, ℕ, ◌<◌, ◌≤◌, Bool, true, false, cond, not, List, [], ◌∷◌, ◌++◌, length, take, zero, suc, sym, refl, arith, ap, ◌∙◌, append_assoc, append-nil, length-append, inl, inr, ◌⊎◌}
use Rattle.std.specs.Prelude.{◌≢◌, ◌||◌, filter, Result, Ok, Err, OnOk, IfErr}
use Rattle.std.proofs.lemmas.Bool.{cases_lt}
use Rattle.std.proofs.lemmas.List.{take_all, take-append-le, length-take-le}
use Rattle.iso_order.specs.declared.key.TxKey.{TxKey}
use Rattle.iso_order.specs.Key.{same_key}
use Rattle.iso_order.specs.Order.{Instruction}
use Rattle.iso_order.specs.Outcome.{Outcome}
use Rattle.iso_issuer.specs.declared.fault.Refused.{Refused}
use Rattle.iso_issuer.specs.declared.fault.Refused.TheVariants.{Memory}
use Rattle.iso_issuer.specs.Journal.{firsts, is_entered, HasDistinctKeys}
use Rattle.iso_issuer.proofs.Keys.{same_key_is}
use Rattle.iso_issuer.proofs.Firsts.{is_other, neither, firsts-new, firsts-known, firsts-distinct}

-- ---- which keys are there

entered_others : (a k : TxKey) (xs : List Instruction) → same_key a k ≡ false → is_entered (filter (is_other a) xs) k ≡ is_entered xs k
entered_others a k [] apart = refl
entered_others a k (x ∷ xs) apart = by_test (same_key x.key a) refl (entered_others a k xs apart)
  where
    by_test : (b : Bool) → same_key x.key a ≡ b → is_entered (filter (is_other a) xs) k ≡ is_entered xs k →
        is_entered (cond (not b) (x ∷ filter (is_other a) xs) (filter (is_other a) xs)) k ≡ same_key x.key k || is_entered xs k
    by_test true e rest = rest ∙ sym (ap (λ (b : Bool). b || is_entered xs k) (ap (λ (q : TxKey). same_key q k) (same_key_is x.key a e) ∙ apart))
    by_test false e rest = ap (λ (b : Bool). same_key x.key k || b) rest

entered_firsts : (xs : List Instruction) (k : TxKey) → is_entered (firsts xs) k ≡ is_entered xs k
entered_firsts [] k = refl
entered_firsts (x ∷ xs) k = by_test (same_key x.key k) refl (entered_firsts xs k)
  where
    by_test : (b : Bool) → same_key x.key k ≡ b → is_entered (firsts xs) k ≡ is_entered xs k → b || is_entered (filter (is_other x.key) (firsts xs)) k ≡ b || is_entered xs k
    by_test true e rest = refl
    by_test false e rest = entered_others x.key k (firsts xs) e ∙ rest

none_of_others : (k : TxKey) (xs : List Instruction) → is_entered (filter (is_other k) xs) k ≡ false
none_of_others k [] = refl
none_of_others k (x ∷ xs) = by_test (same_key x.key k) refl (none_of_others k xs)
  where
    by_test : (b : Bool) → same_key x.key k ≡ b → is_entered (filter (is_other k) xs) k ≡ false → is_entered (cond (not b) (x ∷ filter (is_other k) xs) (filter (is_other k) xs)) k ≡ false
    by_test true e rest = rest
    by_test false e rest = ap (λ (b : Bool). b || is_entered (filter (is_other k) xs) k) e ∙ rest

none_filtered : (p : Instruction → Bool) (k : TxKey) (xs : List Instruction) → is_entered xs k ≡ false → is_entered (filter p xs) k ≡ false
none_filtered p k [] none = refl
none_filtered p k (x ∷ xs) none =
    let apart = neither (same_key x.key k) (is_entered xs k) none in
    by_test (p x) apart.0 (none_filtered p k xs apart.1)
  where
    by_test : (b : Bool) → same_key x.key k ≡ false → is_entered (filter p xs) k ≡ false → is_entered (cond b (x ∷ filter p xs) (filter p xs)) k ≡ false
    by_test true e rest = ap (λ (b : Bool). b || is_entered (filter p xs) k) e ∙ rest
    by_test false e rest = rest

none_taken : (n : ℕ) (k : TxKey) (xs : List Instruction) → is_entered xs k ≡ false → is_entered (take n xs) k ≡ false
none_taken zero k xs none = refl
none_taken (suc n) k [] none = refl
none_taken (suc n) k (x ∷ xs) none =
    let apart = neither (same_key x.key k) (is_entered xs k) none in
    ap (λ (b : Bool). b || is_entered (take n xs) k) apart.0 ∙ none_taken n k xs apart.1

-- ---- distinct keys

distinct_filtered : (p : Instruction → Bool) (xs : List Instruction) → HasDistinctKeys xs → HasDistinctKeys (filter p xs)
distinct_filtered p [] distinct = tt
distinct_filtered p (x ∷ xs) distinct = by_test (p x) (distinct_filtered p xs distinct.1)
  where
    by_test : (b : Bool) → HasDistinctKeys (filter p xs) → HasDistinctKeys (cond b (x ∷ filter p xs) (filter p xs))
    by_test true rest = (none_filtered p x.key xs distinct.0, rest)
    by_test false rest = rest

distinct_firsts : (xs : List Instruction) → HasDistinctKeys (firsts xs)
distinct_firsts [] = tt
distinct_firsts (x ∷ xs) = (none_of_others x.key (firsts xs), distinct_filtered (is_other x.key) (firsts xs) (distinct_firsts xs))

pub distinct-taken : (n : ℕ) (xs : List Instruction) → HasDistinctKeys xs → HasDistinctKeys (take n xs)
distinct-taken zero xs distinct = tt
distinct-taken (suc n) [] distinct = tt
distinct-taken (suc n) (x ∷ xs) distinct = (none_taken n x.key xs distinct.0, distinct-taken n xs distinct.1)

-- ---- one order more

-- no more orders than the limit, of distinct keys
pub firsts-stay : (limit : ℕ) (orders : List Instruction) → HasDistinctKeys orders → length orders ≤ limit → take limit (firsts orders) ≡ orders
firsts-stay limit orders distinct few = ap (take limit) (firsts-distinct orders distinct) ∙ take_all limit orders few

-- an order whose key is there
pub kept-known : (limit : ℕ) (xs : List Instruction) (o : Instruction) → HasDistinctKeys xs → length xs ≤ limit → is_entered xs o.key ≡ true
    → take limit (firsts (xs ++ o ∷ [])) ≡ xs
kept-known limit xs o distinct few known = ap (take limit) (firsts-known xs o known) ∙ firsts-stay limit xs distinct few

-- an order of a new key, where there is room
pub kept-new : (limit : ℕ) (xs : List Instruction) (o : Instruction) → HasDistinctKeys xs → length xs < limit → is_entered xs o.key ≡ false
    → take limit (firsts (xs ++ o ∷ [])) ≡ xs ++ o ∷ []
kept-new limit xs o distinct below new =
    ap (take limit) (firsts-new xs o new ∙ ap (λ (l : List Instruction). l ++ o ∷ []) (firsts-distinct xs distinct))
    ∙ take_all limit (xs ++ o ∷ []) (omega (arith, length-append xs (o ∷ [])))

-- an order of a new key, where there is none
pub kept-full : (limit : ℕ) (xs : List Instruction) (o : Instruction) → HasDistinctKeys xs → length xs ≡ limit → is_entered xs o.key ≡ false
    → take limit (firsts (xs ++ o ∷ [])) ≡ xs
kept-full limit xs o distinct full new =
    ap (take limit) (firsts-new xs o new) ∙ take-append-le limit (firsts xs) (o ∷ []) above ∙ firsts-stay limit xs distinct (omega arith)
  where
    above : limit ≤ length (firsts xs)
    above = omega (arith, ap length (firsts-distinct xs distinct))

-- at the limit an order more changes nothing
pub kept_at_limit : (limit : ℕ) (xs : List Instruction) (o : Instruction) → HasDistinctKeys xs → length xs ≡ limit → take limit (firsts (xs ++ o ∷ [])) ≡ xs
kept_at_limit limit xs o distinct full = by_test (is_entered xs o.key) refl
  where
    by_test : (b : Bool) → is_entered xs o.key ≡ b → take limit (firsts (xs ++ o ∷ [])) ≡ xs
    by_test true known = kept-known limit xs o distinct (omega arith) known
    by_test false new = kept-full limit xs o distinct full new

-- ---- what was kept stands for all

roomy : (limit : ℕ) (xs : List Instruction) (o : Instruction) → length (firsts xs) < limit → (b : Bool) → is_entered xs o.key ≡ b
    → take limit (firsts (take limit (firsts xs) ++ o ∷ [])) ≡ take limit (firsts (xs ++ o ∷ []))
roomy limit xs o below true known =
    ap (λ (l : List Instruction). take limit (firsts (l ++ o ∷ []))) (take_all limit (firsts xs) (omega arith))
    ∙ kept-known limit (firsts xs) o (distinct_firsts xs) (omega arith) (entered_firsts xs o.key ∙ known)
    ∙ sym (ap (take limit) (firsts-known xs o known) ∙ take_all limit (firsts xs) (omega arith))
roomy limit xs o below false new =
    ap (λ (l : List Instruction). take limit (firsts (l ++ o ∷ []))) (take_all limit (firsts xs) (omega arith))
    ∙ kept-new limit (firsts xs) o (distinct_firsts xs) below (entered_firsts xs o.key ∙ new)
    ∙ sym (ap (take limit) (firsts-new xs o new) ∙ take_all limit (firsts xs ++ o ∷ []) (omega (arith, length-append (firsts xs) (o ∷ []))))

above : (limit : ℕ) (xs : List Instruction) (o : Instruction) → limit ≤ length (firsts xs) → (b : Bool) → is_entered xs o.key ≡ b
    → take limit (firsts (xs ++ o ∷ [])) ≡ take limit (firsts xs)
above limit xs o full true known = ap (take limit) (firsts-known xs o known)
above limit xs o full false new = ap (take limit) (firsts-new xs o new) ∙ take-append-le limit (firsts xs) (o ∷ []) full

one-more : (limit : ℕ) (xs : List Instruction) (o : Instruction) → take limit (firsts (take limit (firsts xs) ++ o ∷ [])) ≡ take limit (firsts (xs ++ o ∷ []))
one-more limit xs o = by_room (cases_lt (length (firsts xs)) limit)
  where
    by_room : (length (firsts xs) < limit) ⊎ (limit ≤ length (firsts xs)) → take limit (firsts (take limit (firsts xs) ++ o ∷ [])) ≡ take limit (firsts (xs ++ o ∷ []))
    by_room (inl below) = roomy limit xs o below (is_entered xs o.key) refl
    by_room (inr full) =
        kept_at_limit limit (take limit (firsts xs)) o (distinct-taken limit (firsts xs) (distinct_firsts xs)) (length-take-le limit (firsts xs) full)
        ∙ sym (above limit xs o full (is_entered xs o.key) refl)

few-taken : (limit : ℕ) (xs : List Instruction) → length (take limit xs) ≤ limit
few-taken zero xs = omega arith
few-taken (suc n) [] = omega arith
few-taken (suc n) (x ∷ xs) = omega (arith, few-taken n xs)

-- what was kept of the earlier orders stands for all of them
pub firsts-go-on : (limit : ℕ) (earlier later : List Instruction) → take limit (firsts (take limit (firsts earlier) ++ later)) ≡ take limit (firsts (earlier ++ later))
firsts-go-on limit earlier [] =
    let kept = take limit (firsts earlier) in
    ap (λ (l : List Instruction). take limit (firsts l)) (append-nil kept)
    ∙ firsts-stay limit kept (distinct-taken limit (firsts earlier) (distinct_firsts earlier)) (few-taken limit (firsts earlier))
    ∙ sym (ap (λ (l : List Instruction). take limit (firsts l)) (append-nil earlier))
firsts-go-on limit earlier (o ∷ later) =
    let kept = take limit (firsts earlier) in
    ap (λ (l : List Instruction). take limit (firsts l)) (sym (append_assoc kept (o ∷ []) later))
    ∙ sym (firsts-go-on limit (kept ++ o ∷ []) later)
    ∙ ap (λ (l : List Instruction). take limit (firsts (l ++ later))) (one-more limit earlier o)
    ∙ firsts-go-on limit (earlier ++ o ∷ []) later
    ∙ ap (λ (l : List Instruction). take limit (firsts l)) (append_assoc earlier (o ∷ []) later)

-- what is not refused for want of memory, by a call that refuses for nothing else, is granted
pub granted : {P : Type 0} (answer : Result Outcome Refused) → answer ≢ Err Memory → IfErr answer (λ e. e ≡ Memory) → OnOk answer P → P
granted (Ok a) other memory ok = ok
granted (Err e) other memory ok = absurd (other (ap Err memory))
