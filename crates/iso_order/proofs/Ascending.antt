-- Elements of ascending numbers.
use Rattle.std.proofs.Common.{◌≡◌, ℕ, zero, suc, ◌+◌, ◌<◌, ◌≤◌, Bool, true, false, ◌&&◌, List, [], ◌∷◌, ◌++◌, length, get_or, take, drop, refl, sym, ap, subst, ◌∙◌, append_assoc, add-one, arith}
use Rattle.std.specs.Prelude.{Option, Some, None, nat_le, ◌==◌, Result, Ok, Err, OnErr}
use Rattle.std.proofs.lemmas.Bool.{and_parts, leb-true, eqb-true}
use Rattle.std.proofs.lemmas.Bool.Decides.{nat_tests}
use Rattle.std.proofs.lemmas.List.{append-nil, take-append-drop}
use Rattle.std.proofs.Math.Seq.{take-suc, take-append_seam}
use Rattle.iso_wire.specs.Contents.{Contents}
use Rattle.iso_wire.specs.Elements.{IsBelow, value_in}
use Rattle.iso_order.specs.Listing.{element_where, elements_from}
use Rattle.iso_order.specs.Adding.{elements_with_value, are_ascending, answered}
use Rattle.iso_order.specs.Outcome.{Outcome}
use Rattle.iso_order.specs.Response.{element, response, response_mti, IsBegun}

abbrev Values : Type 0
Values = List (ℕ × List ℕ)

pub are_ascending-parts : (test : ℕ → Bool) (low n : ℕ) (ns : List ℕ) → are_ascending test low (n ∷ ns) ≡ true → (low ≤ n) × (test n ≡ true) × (are_ascending test (n + 1) ns ≡ true)
are_ascending-parts test low n ns h =
    let rest = and_parts (nat_le low n && test n) (are_ascending test (n + 1) ns) h in
    let first = and_parts (nat_le low n) (test n) rest.0 in
    (leb-true low n first.0, first.1, rest.1)

are_ascending-least : (test : ℕ → Bool) (low : ℕ) (ns : List ℕ) (i : ℕ) → are_ascending test low ns ≡ true → i < length ns → low ≤ get_or ns i 0
are_ascending-least test low [] i h lt = absurd (omega arith)
are_ascending-least test low (n ∷ ns) zero h lt = (are_ascending-parts test low n ns h).0
are_ascending-least test low (n ∷ ns) (suc i) h lt =
    let parts = are_ascending-parts test low n ns h in
    let rest = are_ascending-least test (n + 1) ns i parts.2 (omega arith) in
    omega (arith, parts.0)

-- each of the numbers passes the test
pub are_ascending-each : (test : ℕ → Bool) (low : ℕ) (ns : List ℕ) (i : ℕ) → are_ascending test low ns ≡ true → i < length ns → test (get_or ns i 0) ≡ true
are_ascending-each test low [] i h lt = absurd (omega arith)
are_ascending-each test low (n ∷ ns) zero h lt = (are_ascending-parts test low n ns h).1
are_ascending-each test low (n ∷ ns) (suc i) h lt = are_ascending-each test (n + 1) ns i (are_ascending-parts test low n ns h).2 (omega arith)

IsBelow-where : (k n : ℕ) (v : Option (List ℕ)) (es : Values) → n < k → IsBelow k es → IsBelow k (element_where n v ++ es)
IsBelow-where k n (Some v) es lt below = (lt, below)
IsBelow-where k n None es lt below = below

-- the elements of the numbers in front are below the next number
pub IsBelow-front : (test : ℕ → Bool) (value : ℕ → Option (List ℕ)) (low : ℕ) (ns : List ℕ) (i : ℕ) → are_ascending test low ns ≡ true → i < length ns → IsBelow (get_or ns i 0) (elements_with_value value (take i ns))
IsBelow-front test value low [] i h lt = absurd (omega arith)
IsBelow-front test value low (n ∷ ns) zero h lt = tt
IsBelow-front test value low (n ∷ ns) (suc i) h lt =
    let parts = are_ascending-parts test low n ns h in
    let next = are_ascending-least test (n + 1) ns i parts.2 (omega arith) in
    IsBelow-where (get_or ns i 0) n (value n) (elements_with_value value (take i ns)) (omega (arith, next)) (IsBelow-front test value (n + 1) ns i parts.2 (omega arith))

elements_with_value-push : (value : ℕ → Option (List ℕ)) (ns : List ℕ) (n : ℕ) → elements_with_value value (ns ++ n ∷ []) ≡ elements_with_value value ns ++ element_where n (value n)
elements_with_value-push value [] n = append-nil (element_where n (value n))
elements_with_value-push value (k ∷ ns) n =
    ap (λ (es : Values). element_where k (value k) ++ es) (elements_with_value-push value ns n)
    ∙ sym (append_assoc (element_where k (value k)) (elements_with_value value ns) (element_where n (value n)))

-- one number more
pub elements_with_value-more : (value : ℕ → Option (List ℕ)) (ns : List ℕ) (i : ℕ) → i < length ns → elements_with_value value (take (i + 1) ns) ≡ elements_with_value value (take i ns) ++ element_where (get_or ns i 0) (value (get_or ns i 0))
elements_with_value-more value ns i lt =
    rw add-one (ap (elements_with_value value) (take-suc ns i 0 lt) ∙ elements_with_value-push value (take i ns) (get_or ns i 0))

elements_with_value-append : (value : ℕ → Option (List ℕ)) (ns ks : List ℕ) → elements_with_value value (ns ++ ks) ≡ elements_with_value value ns ++ elements_with_value value ks
elements_with_value-append value [] ks = refl
elements_with_value-append value (n ∷ ns) ks =
    ap (λ (es : Values). element_where n (value n) ++ es) (elements_with_value-append value ns ks)
    ∙ sym (append_assoc (element_where n (value n)) (elements_with_value value ns) (elements_with_value value ks))

-- the elements of the numbers in front are the first of all
pub elements_with_value-front : (value : ℕ → Option (List ℕ)) (ns : List ℕ) (i : ℕ) →
    elements_with_value value (take i ns) ≡ take (length (elements_with_value value (take i ns))) (elements_with_value value ns)
elements_with_value-front value ns i =
    let front = elements_with_value value (take i ns) in
    let all : elements_with_value value ns ≡ front ++ elements_with_value value (drop i ns) =
    ap (elements_with_value value) (sym (take-append-drop i ns)) ∙ elements_with_value-append value (take i ns) (drop i ns) in
    sym (ap (take (length front)) all ∙ take-append_seam front (elements_with_value value (drop i ns)))

-- what holds whatever the result is
pub on-err : {X E P : Type 0} (r : Result X E) → P → OnErr r P
on-err (Ok x) h = tt
on-err (Err e) h = h

-- ---- the response

value_in-where : (n k : ℕ) (v : Option (List ℕ)) (es : Values) → (n == k) ≡ false → value_in (element_where n v ++ es) k ≡ value_in es k
value_in-where n k (Some v) es other = rw other refl
value_in-where n k None es other = refl

value_in-above : (value : ℕ → Option (List ℕ)) (n count k : ℕ) → k < n → value_in (elements_from value n count) k ≡ None
value_in-above value n zero k lt = refl
value_in-above value n (suc count) k lt =
    value_in-where n k (value n) (elements_from value (n + 1) count) (grind (arith, nat_tests)) ∙ value_in-above value (n + 1) count k (omega arith)

value_in-first : (n : ℕ) (v : Option (List ℕ)) (es : Values) → value_in es n ≡ None → value_in (element_where n v ++ es) n ≡ v
value_in-first n (Some v) es none = let same : (n == n) ≡ true = grind (arith, nat_tests) in rw same refl
value_in-first n None es none = none

from_by : (value : ℕ → Option (List ℕ)) (n count k : ℕ) (t : Bool) → (n == k) ≡ t → n ≤ k → k < n + suc count → (n + 1 ≤ k → value_in (elements_from value (n + 1) count) k ≡ value k) → value_in (elements_from value n (suc count)) k ≡ value k
from_by value n count k true is low high rest =
    let same : n ≡ k = eqb-true n k is in
    subst (λ (j : ℕ). value_in (element_where n (value n) ++ elements_from value (n + 1) count) j ≡ value j) same
    (value_in-first n (value n) (elements_from value (n + 1) count) (value_in-above value (n + 1) count n (omega arith)))
from_by value n count k false is low high rest =
    let next : n + 1 ≤ k = grind (arith, nat_tests) in
    value_in-where n k (value n) (elements_from value (n + 1) count) is ∙ rest next

pub value_in-from : (value : ℕ → Option (List ℕ)) (n count k : ℕ) → n ≤ k → k < n + count → value_in (elements_from value n count) k ≡ value k
value_in-from value n zero k low high = absurd (omega arith)
value_in-from value n (suc count) k low high =
    from_by value n count k (n == k) refl low high (λ next. value_in-from value (n + 1) count k next (omega arith))

-- the value of an element of the response
pub response-each : (m : Contents) (a : Outcome) (n : ℕ) → 2 ≤ n → n ≤ 128 → value_in (response m a).elements n ≡ element m a n
unfolding response
response-each m a n low high = value_in-from (element m a) 2 127 n low (omega arith)

-- no other number has a value in a response
pub response-listed : (m : Contents) (a : Outcome) → response m a ≡ record { mti = response_mti m.mti; elements = elements_with_value (element m a) (2 ∷ 3 ∷ 4 ∷ 7 ∷ 11 ∷ 12 ∷ 13 ∷ 32 ∷ 33 ∷ 37 ∷ 38 ∷ 39 ∷ 41 ∷ 42 ∷ 49 ∷ 54 ∷ 70 ∷ 90 ∷ []) }
unfolding response
response-listed m a = refl

-- the first elements, under the type of the response
pub response-begun : (m : Contents) (a : Outcome) (made : Contents) (count : ℕ)
    → made ≡ record { mti = response_mti m.mti; elements = take count (elements_with_value (element m a) answered) }
    → IsBegun made (response m a)
response-begun m a made count is = (
  count,
  is ∙ sym (ap (λ (whole : Contents). record whole { elements = take count whole.elements }) (response-listed m a)),
)
