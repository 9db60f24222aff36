-- Two lists beside each other.
use Rattle.std.proofs.Common.{◌≡◌, ◌↔◌, ◌∙◌, ◌+◌, ◌-◌, ◌<◌, ◌≤◌, ℕ, suc, Bool, true, false, cond, List, [], ◌∷◌, map, length, refl, sym, ap, subst, Bor, min, arith}
use Rattle.std.specs.Prelude.{count_by, zip}
use Rattle.std.specs.Cmp.Lexicographic.{bytes_decides}
use Rattle.std.proofs.lemmas.Bool.Decides.{nat_tests}
use Rattle.std.proofs.lemmas.List.Sums.{count_by-le-length, sum_by-cons}
use Rattle.std.proofs.lemmas.List.{length-map}
use Rattle.std.proofs.lemmas.Slice.Zip.{length-zip}
use Rattle.iso_compare.specs.Tallying.{are_same, is_all_same, Counts}
use Rattle.iso_compare.specs.declared.tally.Tally.{Tally}

-- where one has ended, no pair is left
pub none_beside : (xs : List (List ℕ)) (ys : List (Bor (List ℕ))) → length ys < 1 → zip xs (map (λ b. b.now) ys) ≡ []
none_beside [] ys ended = refl
none_beside (x ∷ xs) [] ended = refl
none_beside (x ∷ xs) (y ∷ ys) ended = absurd (omega arith)

-- ---- lists of which each pair is the same bytes

count_cons : (e c : List ℕ) (es cs : List (List ℕ))
    → count_by are_same (zip (e ∷ es) (c ∷ cs)) ≡ cond (are_same (e, c)) 1 0 + count_by are_same (zip es cs)
count_cons e c es cs = sum_by-cons (λ (x : List ℕ × List ℕ). cond (are_same x) 1 0) (e, c) (zip es cs)

some_pairs : (es cs : List (List ℕ)) → count_by are_same (zip es cs) ≤ length es
some_pairs es cs =
    let few = count_by-le-length are_same (zip es cs) in
    let pairs = length-zip es cs in
    omega arith

-- the first pair is the same, since else too few would be
first_by : (t : Bool) (e c : List ℕ) (es cs : List (List ℕ)) → are_same (e, c) ≡ t
    → cond t 1 0 + count_by are_same (zip es cs) ≡ suc (length es) → (e ≡ c) × (count_by are_same (zip es cs) ≡ length es)
first_by true e c es cs is count = ((bytes_decides e c).0 is, omega arith)
first_by false e c es cs is count = let few = some_pairs es cs in absurd (omega arith)

same_lists : (es cs : List (List ℕ)) → length es ≡ length cs → count_by are_same (zip es cs) ≡ length es → es ≡ cs
same_lists [] [] size count = refl
same_lists [] (c ∷ cs) size count = absurd (omega arith)
same_lists (e ∷ es) [] size count = absurd (omega arith)
same_lists (e ∷ es) (c ∷ cs) size count =
    let first = first_by (are_same (e, c)) e c es cs refl (sym (count_cons e c es cs) ∙ count) in
    let rest : es ≡ cs = same_lists es cs (omega arith) first.1 in
    ap (λ x. x ∷ es) first.0 ∙ ap (λ xs. c ∷ xs) rest

all_pairs : (es : List (List ℕ)) → count_by are_same (zip es es) ≡ length es
all_pairs [] = refl
all_pairs (e ∷ es) =
    let same : are_same (e, e) ≡ true = (bytes_decides e e).1 refl in
    let rest = all_pairs es in
    let one : 1 + count_by are_same (zip es es) ≡ suc (length es) = omega arith in
    count_cons e e es es ∙ ap (λ (t : Bool). cond t 1 0 + count_by are_same (zip es es)) same ∙ one

-- all is the same exactly where the lists are
pub all_same : (es cs : List (List ℕ)) (t : Tally) → Counts es cs t → (is_all_same t ≡ true) ↔ (es ≡ cs)
all_same es cs t counts =
    let compared = counts.compared in
    let same = counts.same in
    let missing = counts.missing in
    let beyond = counts.beyond in (
      (λ all.
          let all_compared : t.same ≡ t.compared = grind (arith, nat_tests) in
          let none_missing : t.missing ≡ 0 = grind (arith, nat_tests) in
          let none_beyond : t.beyond ≡ 0 = grind (arith, nat_tests) in
          same_lists es cs (omega arith) (omega arith)),
      λ is.
          let sizes : length es ≡ length cs = ap length is in
          let each : count_by are_same (zip es cs) ≡ length es = subst (λ xs. count_by are_same (zip es xs) ≡ length es) is (all_pairs es) in
          let all_compared : t.same ≡ t.compared = omega arith in
          let none_missing : t.missing ≡ 0 = omega arith in
          let none_beyond : t.beyond ≡ 0 = omega arith in
          grind (arith, nat_tests),
    )

-- the counts of bodies that are lent
pub counts_of : (es cs : List (Bor (List ℕ))) (compared same : ℕ) → compared ≡ min (length es) (length cs)
    → same ≡ count_by are_same (zip (map (λ b. b.now) es) (map (λ b. b.now) cs))
    → Counts (map (λ b. b.now) es) (map (λ b. b.now) cs) (record { compared = compared; same = same; missing = length es - compared; beyond = length cs - compared })
counts_of es cs compared same least counted =
    let first = length-map es (λ (b : Bor (List ℕ)). b.now) in
    let second = length-map cs (λ (b : Bor (List ℕ)). b.now) in
    record { compared = omega arith; same = counted; missing = omega arith; beyond = omega arith }
