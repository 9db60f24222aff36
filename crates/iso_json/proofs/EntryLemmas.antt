-- The members of the object `elements`, one after another.
use Rattle.std.proofs.Common.{◌≡◌, ◌≢◌, ℕ, ◌+◌, ◌<◌, ◌≤◌, Bool, true, false, List, ◌∷◌, length, drop, get_or, Option, refl, sym, ap, ◌∙◌, inl, inr, add-one}
use Rattle.std.specs.Prelude.{◌||◌}
use Rattle.std.specs.Borrow.{Bor}
use Rattle.std.proofs.Math.Seq.{drop-cons}
use Rattle.std.proofs.lemmas.Bool.{cases_eq, eq-eqb, ne_eqb}
use Rattle.std.proofs.lemmas.List.{at_drop_all}
use Rattle.json.specs.Value.{value_view, members_view}
use Rattle.json.specs.declared.value.Value.{Value}
use Rattle.iso_parts.specs.Bitmap.{contains}
use Rattle.iso_parts.specs.declared.bitmap.Bitmap.{Bitmap}
use Rattle.iso_parts.specs.declared.spec.FieldSpec.{FieldSpec}
use Rattle.iso_json.specs.Texts.{number_of}
use Rattle.iso_json.specs.Heard.{Heard, also, none_seen, seen_with, with_entry, with_entries}

-- sets with the same numbers are the same
same_set : (f g : ℕ → Bool) → ((k : ℕ) → f k ≡ g k) → f ≡ g
same_set f g h = λ i. λ k. h k i

also_at : (old : ℕ → Bool) (now : ℕ → Bool) (n k : ℕ) → now n ≡ true → (k ≢ n → now k ≡ old k) → now k ≡ also n old k
also_at old now n k here others =
    elim (cases_eq k n) [
      | inl e ↦ rw e (here ∙ sym (ap (λ (b : Bool). b || old n) (eq-eqb n n refl)))
      | inr ne ↦ others ne ∙ sym (ap (λ (b : Bool). b || old k) (ne_eqb k n ne))
    ]

-- one number more is seen
pub seen_also : (old now : Bitmap) (n : ℕ) → contains now n ≡ true → ((k : ℕ) → k ≢ n → contains now k ≡ contains old k) → contains now ≡ also n (contains old)
seen_also old now n here others = same_set (contains now) (also n (contains old)) (λ k. also_at (contains old) (contains now) n k here (others k))

pub seen_none : (now : Bitmap) → ((k : ℕ) → contains now k ≡ false) → contains now ≡ none_seen
seen_none now h = same_set (contains now) none_seen h

-- one member more is read
pub entries_step : {A : Type 0} (rows : List (Option FieldSpec)) (seen : ℕ → Bool) (members : List (Bor (List ℕ) × Value A)) (i : ℕ) (m : Bor (List ℕ) × Value A) (h : Heard) → i < length members
    → m ≡ get_or members i m
    → with_entries rows seen i (members_view (drop i members)) h ≡ with_entries rows (seen_with (number_of m.0.now) seen) (i + 1) (members_view (drop (i + 1) members)) (with_entry rows seen (record { at = i; number = number_of m.0.now; value = value_view m.1 }) h)
entries_step {A} rows seen members i m h lt is =
    let less : drop i members ≡ m ∷ drop (i + 1) members =
    drop-cons members i m lt ∙ ap (λ (k : ℕ). get_or members i m ∷ drop k members) (sym (add-one i)) ∙ ap (λ (x : Bor (List ℕ) × Value A). x ∷ drop (i + 1) members) (sym is) in
    ap (λ (ms : List (Bor (List ℕ) × Value A)). with_entries rows seen i (members_view ms) h) less

-- behind the last member there is none
pub entries_all : {A : Type 0} (rows : List (Option FieldSpec)) (seen : ℕ → Bool) (members : List (Bor (List ℕ) × Value A)) (i : ℕ) (h : Heard) → length members ≤ i
    → with_entries rows seen i (members_view (drop i members)) h ≡ h
entries_all {A} rows seen members i h le = at_drop_all (λ (ms : List (Bor (List ℕ) × Value A)). with_entries rows seen i (members_view ms) h) members i le

-- what the rest gives stays, where one member more is read
pub entries_next : {A : Type 0} (rows : List (Option FieldSpec)) (seen now : ℕ → Bool) (members : List (Bor (List ℕ) × Value A)) (i at : ℕ) (m : Bor (List ℕ) × Value A) (h next total : Heard) → i < length members
    → m ≡ get_or members i m → at ≡ i → now ≡ seen_with (number_of m.0.now) seen → next ≡ with_entry rows seen (record { at = at; number = number_of m.0.now; value = value_view m.1 }) h
    → with_entries rows seen i (members_view (drop i members)) h ≡ total → with_entries rows now (i + 1) (members_view (drop (i + 1) members)) next ≡ total
entries_next {A} rows seen now members i at m h next total lt is place more read judged =
    let rest = members_view (drop (i + 1) members) in
    ap (λ (s : ℕ → Bool). with_entries rows s (i + 1) rest next) more
    ∙ ap (λ (x : Heard). with_entries rows (seen_with (number_of m.0.now) seen) (i + 1) rest x) (read ∙ ap (λ (k : ℕ). with_entry rows seen (record { at = k; number = number_of m.0.now; value = value_view m.1 }) h) place)
    ∙ sym (entries_step rows seen members i m h lt is)
    ∙ judged
