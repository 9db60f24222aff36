-- Parts of a block, and what a read puts behind one.
use Rattle.std.proofs.Common.{◌≡◌, ℕ, ◌+◌, ◌-◌, ◌≤◌, List, ◌++◌, length, drop, take, slice_range, sym, ap, ◌∙◌, arith, length-take, length-drop, drop-drop, take-take, take-add}
use Rattle.std.proofs.lemmas.List.{drop-take}

-- a part without its first bytes
pub part_behind : (xs : List ℕ) (a n e : ℕ) → a + n ≤ e → slice_range xs (a + n) e ≡ drop n (slice_range xs a e)
part_behind xs a n e h =
    let whole : n + (e - (a + n)) ≡ e - a = omega arith in
    ap (take (e - (a + n))) (sym (drop-drop n a xs)) ∙ sym (drop-take n (e - (a + n)) (drop a xs)) ∙ ap (λ k. drop n (take k (drop a xs))) whole

-- a part is the back of a front
part_of_front : (xs : List ℕ) (a e : ℕ) → a ≤ e → slice_range xs a e ≡ drop a (take e xs)
part_of_front xs a e h =
    let whole : a + (e - a) ≡ e = omega arith in
    sym (drop-take a (e - a) xs) ∙ ap (λ k. drop a (take k xs)) whole

-- equal fronts have equal parts
pub same_part : (xs ys : List ℕ) (a e : ℕ) → a ≤ e → take e ys ≡ take e xs → slice_range ys a e ≡ slice_range xs a e
same_part xs ys a e h same = part_of_front ys a e h ∙ ap (drop a) same ∙ sym (part_of_front xs a e h)

-- a part and the next one
pub longer_part : (xs : List ℕ) (a e n : ℕ) → a ≤ e → slice_range xs a (e + n) ≡ slice_range xs a e ++ take n (drop e xs)
longer_part xs a e n h =
    let whole : (e + n) - a ≡ (e - a) + n = omega arith in
    let place : a + (e - a) ≡ e = omega arith in
    ap (λ k. take k (drop a xs)) whole ∙ take-add (e - a) n (drop a xs)
    ∙ ap (λ (r : List ℕ). slice_range xs a e ++ take n r) (drop-drop (e - a) a xs ∙ ap (λ k. drop k xs) place)

-- a part of a block that was read over behind it
pub grown : (xs ys : List ℕ) (a e n m : ℕ) → a ≤ e → n ≤ m → take e ys ≡ take e xs → slice_range ys a (e + n) ≡ slice_range xs a e ++ take n (slice_range ys e (e + m))
grown xs ys a e n m h fits same =
    let whole : (e + m) - e ≡ m = omega arith in
    longer_part ys a e n h ∙ ap (λ (r : List ℕ). r ++ take n (drop e ys)) (same_part xs ys a e h same)
    ∙ ap (λ (r : List ℕ). slice_range xs a e ++ r) (sym (ap (λ k. take n (take k (drop e ys))) whole ∙ take-take n m (drop e ys) fits))

pub piece_length : (ys : List ℕ) (e n m : ℕ) → n ≤ m → e + m ≤ length ys → length (take n (slice_range ys e (e + m))) ≡ n
piece_length ys e n m fits room = omega (arith, length-take n (slice_range ys e (e + m)), length-take ((e + m) - e) (drop e ys), length-drop e ys)
