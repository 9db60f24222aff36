-- The batches of a copy, one behind the other.
use Rattle.std.proofs.Common.{◌≡◌, ◌≤◌, ℕ, zero, suc, ◌+◌, ◌-◌, ◌*◌, ◌/◌, min, refl, arith, ap, sym, ◌∙◌, List, ◌++◌, length, take, drop}
use Rattle.std.proofs.Math.Seq.{take-add}
use Rattle.std.proofs.lemmas.List.{take_all, take_min, drop_min, length-drop}
use Rattle.rumpadol_batches.specs.Batches.{batches_of, part_at, joined}

front_joined : (n : ℕ) (records : List ℕ) → joined n records ≡ take (131072 * n) records
front_joined zero records = refl
front_joined (suc n) records =
    ap (λ (ys : List ℕ). ys ++ part_at records n) (front_joined n records)
    ∙ sym (take-add (131072 * n) 131072 records)
    ∙ ap (λ (k : ℕ). take k records) (omega (arith))

enough : (n : ℕ) → n ≤ 131072 * ((n + 131071) / 131072)
enough n = omega (arith)

pub all_joined : (records : List ℕ) → joined (batches_of records) records ≡ records
all_joined records =
    front_joined (batches_of records) records
    ∙ take_all (131072 * batches_of records) records (enough (length records))

-- ---- the records of a batch, as a slice has them

whole : (from : ℕ) (xs : List ℕ) → take (length xs - from) (drop from xs) ≡ drop from xs
whole from xs = take_all (length xs - from) (drop from xs) (omega (arith, length-drop from xs))

pub part_is : (from size before : ℕ) (xs : List ℕ) → from ≡ min (131072 * before) (length xs)
    → size ≡ min 131072 (length (take (length xs - from) (drop from xs)))
    → take size (take (length xs - from) (drop from xs)) ≡ part_at xs before
part_is from size before xs is_from is_size =
    ap (λ (k : ℕ). take k (take (length xs - from) (drop from xs))) is_size
    ∙ take_min 131072 (take (length xs - from) (drop from xs))
    ∙ ap (λ (ys : List ℕ). take 131072 ys) (whole from xs)
    ∙ ap (λ (k : ℕ). take 131072 (drop k xs)) is_from
    ∙ ap (λ (ys : List ℕ). take 131072 ys) (drop_min (131072 * before) xs)
