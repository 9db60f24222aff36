-- The response to a well-formed message is well formed.
use Rattle.std.proofs.Common.{◌≡◌, ◌≢◌, ℕ, zero, suc, ◌+◌, ◌/◌, ◌%◌, ◌<◌, ◌≤◌, Bool, true, false, List, [], ◌∷◌, ◌++◌, Option, Some, None, refl, sym, subst, arith}
use Rattle.std.specs.Prelude.{ℤ, pos, int_lt, unsigned_abs, unwrap_or, ◌==◌, ◌||◌, if◌then◌else◌, IfSome, option_map}
use Rattle.std.proofs.lemmas.Bool.{and_parts}
use Rattle.std.proofs.lemmas.Bool.Decides.{nat_tests}
use Rattle.iso_parts.specs.Numbers.{is_element}
use Rattle.iso_wire.specs.Contents.{Contents}
use Rattle.iso_wire.specs.Decimal.{decimal}
use Rattle.iso_wire.specs.Elements.{value_in, IsAscending}
use Rattle.iso_wire.specs.OneSpelling.{AreOfBytes, WellFormed}
use Rattle.iso_wire.specs.Spelling.{AreBytes}
use Rattle.iso_order.specs.Fields.{text}
use Rattle.iso_parts.specs.Mti.{is_answered}
use Rattle.iso_order.specs.Fitting.{ResponsesAreWellFormed}
use Rattle.iso_order.specs.Listing.{element_where}
use Rattle.iso_order.specs.Adding.{elements_with_value, are_ascending, is_responded}
use Rattle.iso_order.specs.Outcome.{Outcome}
use Rattle.iso_order.specs.Response.{response_mti, is_echoed, is_approved, approval, sign, additional, balance, element}
use Rattle.iso_order.proofs.Ascending.{are_ascending-parts, response-listed}
use Rattle.iso_order.proofs.Fits.{Values, value_by, approval_by, element_by}

-- ---- its values

pub bytes-none : AreBytes []
bytes-none i = omega arith

pub bytes-more : (b : ℕ) (v : List ℕ) → b < 256 → AreBytes v → AreBytes (b ∷ v)
bytes-more b v lt rest zero = lt
bytes-more b v lt rest (suc i) = rest i

pub bytes-append : (v w : List ℕ) → AreBytes v → AreBytes w → AreBytes (v ++ w)
bytes-append [] w bytes more i = more i
bytes-append (b ∷ v) w bytes more zero = bytes 0
bytes-append (b ∷ v) w bytes more (suc i) = bytes-append v w (λ k. bytes (suc k)) more i

pub bytes-decimal : (n v : ℕ) → AreBytes (decimal n v)
bytes-decimal zero v = bytes-none
bytes-decimal (suc n) v = bytes-append (decimal n (v / 10)) ((48 + v % 10) ∷ []) (bytes-decimal n (v / 10)) (bytes-more (48 + v % 10) [] (omega arith) bytes-none)

sign_by : (t : Bool) → (if t then 68 else 67) < 256
sign_by true = omega arith
sign_by false = omega arith

bytes-additional : (currency : List ℕ) (z : ℤ) → AreBytes currency → AreBytes (additional currency z)
bytes-additional currency z bytes =
    let amount = decimal 12 (unsigned_abs z) in
    let signed = bytes-more (sign z) amount (sign_by (int_lt z (pos 0))) (bytes-decimal 12 (unsigned_abs z)) in
    let rest : List ℕ = currency ++ sign z ∷ amount in
    let whole = bytes-append currency (sign z ∷ amount) bytes signed in
    bytes-more 48 (48 ∷ 48 ∷ 50 ∷ rest) (omega arith)
    (bytes-more 48 (48 ∷ 50 ∷ rest) (omega arith) (bytes-more 48 (50 ∷ rest) (omega arith) (bytes-more 50 rest (omega arith) whole)))

bytes-balance : (currency : List ℕ) (shown : Option ℤ) → AreBytes currency → IfSome (option_map (additional currency) shown) AreBytes
bytes-balance currency (Some z) bytes = bytes-additional currency z bytes
bytes-balance currency None bytes = tt

bytes-value : (es : Values) (n : ℕ) → AreOfBytes es → IfSome (value_in es n) AreBytes
bytes-value [] n bytes = tt
bytes-value (e ∷ es) n bytes = value_by (e.0 == n) e.1 (value_in es n) AreBytes (λ is. bytes.0) (bytes-value es n bytes.1)

bytes-text : (v : Option (List ℕ)) → IfSome v AreBytes → AreBytes (unwrap_or v [])
bytes-text (Some v) bytes = bytes
bytes-text None bytes = bytes-none

bytes-element : (m : Contents) (a : Outcome) (n : ℕ) → AreOfBytes m.elements → IfSome (element m a n) AreBytes
bytes-element m a n bytes =
    element_by (n == 38) (n == 39) (n == 54) (is_echoed n) (approval m a) (Some (decimal 2 a.code)) (balance m a) (value_in m.elements n) AreBytes
    (λ is. approval_by (is_approved m a) (decimal 6 a.seq) AreBytes (bytes-decimal 6 a.seq))
    (λ is. bytes-decimal 2 a.code)
    (λ is. bytes-balance (text m 49) a.shown (bytes-text (value_in m.elements 49) (bytes-value m.elements 49 bytes)))
    (bytes-value m.elements n bytes)

bytes-where : (n : ℕ) (v : Option (List ℕ)) (es : Values) → IfSome v AreBytes → AreOfBytes es → AreOfBytes (element_where n v ++ es)
bytes-where n (Some v) es here rest = (here, rest)
bytes-where n None es here rest = rest

pub bytes-at : (value : ℕ → Option (List ℕ)) (ns : List ℕ) → ((n : ℕ) → IfSome (value n) AreBytes) → AreOfBytes (elements_with_value value ns)
bytes-at value [] each = tt
bytes-at value (n ∷ ns) each = bytes-where n (value n) (elements_with_value value ns) (each n) (bytes-at value ns each)

-- ---- their order

-- a number that an element may have is at most 128, and not 65
in-range : (n : ℕ) → is_element n ≡ true → (n ≤ 128) × (n ≢ 65)
in-range n number = (grind (arith, nat_tests), (λ is. grind (arith, nat_tests)))

ascending-from : (low high : ℕ) (es : Values) → low ≤ high → IsAscending high es → IsAscending low es
ascending-from low high [] le rest = tt
ascending-from low high (e ∷ es) le rest = (omega (arith, rest.0), rest.1, rest.2, rest.3)

ascending-where : (low n : ℕ) (v : Option (List ℕ)) (es : Values) → low ≤ n → is_element n ≡ true → IsAscending (n + 1) es → IsAscending low (element_where n v ++ es)
ascending-where low n (Some v) es le number rest = let range = in-range n number in (le, range.0, range.1, rest)
ascending-where low n None es le number rest = ascending-from low (n + 1) es (omega arith) rest

pub ascending-at : (test : ℕ → Bool) (value : ℕ → Option (List ℕ)) → ((n : ℕ) → test n ≡ true → is_element n ≡ true) → (low : ℕ) (ns : List ℕ) → are_ascending test low ns ≡ true → IsAscending low (elements_with_value value ns)
ascending-at test value number low [] h = tt
ascending-at test value number low (n ∷ ns) h =
    let parts = are_ascending-parts test low n ns h in
    ascending-where low n (value n) (elements_with_value value ns) parts.0 (number n parts.1) (ascending-at test value number (n + 1) ns parts.2)

-- a number that an element of a response can have
responded-number : (n : ℕ) → is_responded n ≡ true → is_element n ≡ true
responded-number n h = (and_parts (is_element n) (n == 38 || n == 39 || n == 54 || is_echoed n) h).0

-- ---- its type

-- a function of 0 or 2 has no carry
type_small : (mti : ℕ) → mti < 10000 → is_answered (mti / 10 % 10) ≡ true → response_mti mti < 10000
type_small mti small h =
    let low : mti / 10 % 10 ≤ 2 = grind (arith, nat_tests) in
    omega arith

-- ---- the response

pub responses_well_formed_lem : ResponsesAreWellFormed
responses_well_formed_lem m a well answered =
    let value = element m a in
    let numbers : List ℕ = 2 ∷ 3 ∷ 4 ∷ 7 ∷ 11 ∷ 12 ∷ 13 ∷ 32 ∷ 33 ∷ 37 ∷ 38 ∷ 39 ∷ 41 ∷ 42 ∷ 49 ∷ 54 ∷ 70 ∷ 90 ∷ [] in
    subst WellFormed (sym (response-listed m a))
    (record {
      mti = type_small m.mti well.mti answered;
      ascending = ascending-at is_responded value responded-number 2 numbers refl;
      bytes = bytes-at value numbers (λ n. bytes-element m a n well.bytes);
    })
