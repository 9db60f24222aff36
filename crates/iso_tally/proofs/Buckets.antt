-- The buckets have all values, each once.
use Rattle.std.proofs.Common.{◌≡◌, ◌∙◌, ℕ, suc, Bool, true, false, refl, ap, List, [], ◌∷◌, length, arith, ◌+◌, ◌-◌, ◌≤◌, cond, sym}
use Rattle.std.specs.Prelude.{◌&&◌, Option, Some, None, count_by, nat_le, nat_lt}
use Rattle.std.specs.List.Sorted.{IsPermutation}
use Rattle.std.proofs.lemmas.List.Sorted.{sum_by-IsPermutation}
use Rattle.std.proofs.lemmas.List.Sums.{sum_by-cons}
use Rattle.std.proofs.lemmas.Bool.{le-leb, lt-leb, leb-true, leb-false}
use Rattle.iso_tally.specs.declared.bucket.Bucket.{Bucket}
use Rattle.iso_tally.specs.Histogram.{is_in, bucket_of, buckets_from, is_ascending, counted}

-- what one value adds to a count
abbrev one : Bool → ℕ
one b = cond b 1 0

counts-first : (p : ℕ → Bool) (v : ℕ) (vs : List ℕ) → count_by p (v ∷ vs) ≡ one (p v) + count_by p vs
counts-first p v vs = sum_by-cons (λ x. cond (p x) 1 0) v vs

-- a value below the end of a bucket is in it, or below it
in-or-below : (s b v : ℕ) → s ≤ b → one (is_in s (Some b) v) + one (nat_lt v s) ≡ one (nat_lt v b)
in-or-below s b v up = go (nat_le s v) refl
  where
    go : (t : Bool) → nat_le s v ≡ t → one (is_in s (Some b) v) + one (nat_lt v s) ≡ one (nat_lt v b)
    go true e =
        let least = leb-true s v e in
        let no : nat_lt v s ≡ false = lt-leb (suc v) s (omega arith) in
        rw (e, no) (omega arith)
    go false e =
        let less = leb-false s v e in
        let yes : nat_lt v s ≡ true = le-leb (suc v) s (omega arith) in
        let also : nat_lt v b ≡ true = le-leb (suc v) b (omega arith) in
        rw (e, yes, also) refl

-- every value is in the last bucket, or below it
in-last-or-below : (s v : ℕ) → one (is_in s None v) + one (nat_lt v s) ≡ one true
in-last-or-below s v = go (nat_le s v) refl
  where
    go : (t : Bool) → nat_le s v ≡ t → one (is_in s None v) + one (nat_lt v s) ≡ one true
    go true e =
        let least = leb-true s v e in
        let no : nat_lt v s ≡ false = lt-leb (suc v) s (omega arith) in
        rw (e, no) refl
    go false e =
        let less = leb-false s v e in
        let yes : nat_lt v s ≡ true = le-leb (suc v) s (omega arith) in
        rw (e, yes) refl

-- so with all values
all-in-or-below : (s b : ℕ) (vs : List ℕ) → s ≤ b → count_by (is_in s (Some b)) vs + count_by (λ v. nat_lt v s) vs ≡ count_by (λ v. nat_lt v b) vs
all-in-or-below s b [] up = refl
all-in-or-below s b (v ∷ vs) up =
    omega (arith, in-or-below s b v up, all-in-or-below s b vs up, counts-first (is_in s (Some b)) v vs, counts-first (λ x. nat_lt x s) v vs, counts-first (λ x. nat_lt x b) v vs)

all-in-last-or-below : (s : ℕ) (vs : List ℕ) → count_by (is_in s None) vs + count_by (λ v. nat_lt v s) vs ≡ length vs
all-in-last-or-below s [] = refl
all-in-last-or-below s (v ∷ vs) =
    omega (arith, in-last-or-below s v, all-in-last-or-below s vs, counts-first (is_in s None) v vs, counts-first (λ x. nat_lt x s) v vs)

-- ---- by how many sorted values are below a bound

-- no value is in a bucket that ends below its beginning
none-in : (s b : ℕ) (vs : List ℕ) → b ≤ s → count_by (is_in s (Some b)) vs ≡ 0
none-in s b [] down = refl
none-in s b (v ∷ vs) down =
    let out : one (is_in s (Some b) v) ≡ 0 = go (nat_le s v) refl in
    omega (arith, counts-first (is_in s (Some b)) v vs, out, none-in s b vs down)
  where
    go : (t : Bool) → nat_le s v ≡ t → one (is_in s (Some b) v) ≡ 0
    go true e =
        let least = leb-true s v e in
        let no : nat_lt v b ≡ false = lt-leb (suc v) b (omega arith) in
        rw (e, no) refl
    go false e = rw e refl

-- what is in a bucket is what is below its bound, and not below its beginning
pub in-bucket : (s b : ℕ) (vs : List ℕ) → count_by (λ v. nat_lt v b) vs - count_by (λ v. nat_lt v s) vs ≡ count_by (is_in s (Some b)) vs
in-bucket s b vs = go (nat_le s b) refl
  where
    go : (t : Bool) → nat_le s b ≡ t → count_by (λ v. nat_lt v b) vs - count_by (λ v. nat_lt v s) vs ≡ count_by (is_in s (Some b)) vs
    go true e = let all = all-in-or-below s b vs (leb-true s b e) in omega (arith, all)
    go false e =
        let lt = leb-false s b e in
        let le : b ≤ s = omega (arith, lt) in
        let all = all-in-or-below b s vs le in
        let none = none-in s b vs le in
        omega (arith, all, none)

pub in-last : (s : ℕ) (vs : List ℕ) → length vs - count_by (λ v. nat_lt v s) vs ≡ count_by (is_in s None) vs
in-last s vs = let all = all-in-last-or-below s vs in omega (arith, all)

-- ---- every order of the values has the same buckets

bucket-permutation : (s : ℕ) (bound : Option ℕ) (vs ws : List ℕ) → IsPermutation vs ws → bucket_of vs s bound ≡ bucket_of ws s bound
bucket-permutation s bound vs ws same =
    ap (λ (n : ℕ). record { from = s; below = bound; count = n }) (sym (sum_by-IsPermutation (λ x. cond (is_in s bound x) 1 0) vs ws same))

pub buckets-permutation : (s : ℕ) (bounds vs ws : List ℕ) → IsPermutation vs ws → buckets_from s bounds vs ≡ buckets_from s bounds ws
buckets-permutation s [] vs ws same = ap (λ (b : Bucket). b ∷ []) (bucket-permutation s None vs ws same)
buckets-permutation s (b ∷ bounds) vs ws same =
    ap (λ (k : Bucket). k ∷ buckets_from b bounds vs) (bucket-permutation s (Some b) vs ws same)
    ∙ ap (λ (ks : List Bucket). bucket_of ws s (Some b) ∷ ks) (buckets-permutation b bounds vs ws same)

-- ---- each value is in one bucket

clash : false ≡ true → ⊥
clash e = cc

-- what is below the first bucket, and in all of them, is all
from-start : (s : ℕ) (bounds vs : List ℕ) → is_ascending s bounds ≡ true →
    counted (buckets_from s bounds vs) + count_by (λ v. nat_lt v s) vs ≡ length vs
from-start s [] vs up =
    let last : counted (buckets_from s [] vs) ≡ 0 + count_by (is_in s None) vs = refl in
    omega (arith, last, all-in-last-or-below s vs)
from-start s (b ∷ bounds) vs up = go (nat_le s b) refl (from-start b bounds vs) up
  where
    go : (t : Bool) → nat_le s b ≡ t → (is_ascending b bounds ≡ true → counted (buckets_from b bounds vs) + count_by (λ v. nat_lt v b) vs ≡ length vs) →
        (t && is_ascending b bounds) ≡ true → counted (buckets_from s (b ∷ bounds) vs) + count_by (λ v. nat_lt v s) vs ≡ length vs
    go false e later h = absurd (clash h)
    go true e later h =
        let others : counted (buckets_from b bounds vs) + count_by (λ v. nat_lt v b) vs ≡ length vs = later h in
        let both : count_by (is_in s (Some b)) vs + count_by (λ v. nat_lt v s) vs ≡ count_by (λ v. nat_lt v b) vs = all-in-or-below s b vs (leb-true s b e) in
        let first : counted (buckets_from s (b ∷ bounds) vs) ≡ count_by (is_in s (Some b)) vs + counted (buckets_from b bounds vs) =
        sum_by-cons (λ (k : Bucket). k.count) (bucket_of vs s (Some b)) (buckets_from b bounds vs) in
        omega (arith, others, both, first)

none-below : (vs : List ℕ) → count_by (λ v. nat_lt v 0) vs ≡ 0
none-below [] = refl
none-below (v ∷ vs) =
    let no : nat_lt v 0 ≡ false = lt-leb (suc v) 0 (omega arith) in
    let first : one (nat_lt v 0) ≡ one false = ap one no in
    omega (arith, counts-first (λ x. nat_lt x 0) v vs, first, none-below vs)

-- each value is in one bucket
pub counts-all : (bounds vs : List ℕ) → is_ascending 0 bounds ≡ true → counted (buckets_from 0 bounds vs) ≡ length vs
counts-all bounds vs up = omega (arith, from-start 0 bounds vs up, none-below vs)
