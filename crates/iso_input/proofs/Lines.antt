-- A dump, line by line.
use Rattle.std.proofs.Common.{◌≡◌, ℕ, suc, ◌+◌, ◌-◌, ◌≤◌, ◌<◌, Bool, true, false, not, cond, List, [], ◌∷◌, ◌++◌, length, drop, take, Result, Ok, Err, refl, ap, ◌∙◌, arith, append-nil, length-append, length-drop, drop-drop, take_all}
use Rattle.std.proofs.lemmas.List.Splits.{slice_split_first}
use Rattle.std.specs.List.{position_or_len, slice_split, onto_first}
use Rattle.iso_input.specs.declared.fault.HexFault.{HexFault}
use Rattle.iso_input.specs.Digits.{after}
use Rattle.iso_input.specs.Dump.{is_newline, row_bytes, followed, rows}
use Rattle.iso_input.proofs.Reading.{after_after, kept_append}

-- ---- the last line

-- what stands in front of the first end of a line, by the test of a byte
front : (test : ℕ → Bool) (t : Bool) (x : ℕ) (xs : List ℕ) → ℕ
front test t x xs = cond (not t) (1 + position_or_len test xs) 0

last_by : (test : ℕ → Bool) (t : Bool) (x : ℕ) (xs : List ℕ) → (drop (position_or_len test xs) xs ≡ [] → slice_split test xs ≡ take (position_or_len test xs) xs ∷ [])
    → drop (front test t x xs) (x ∷ xs) ≡ [] → cond t ([] ∷ slice_split test xs) (onto_first x (slice_split test xs)) ≡ take (front test t x xs) (x ∷ xs) ∷ []
unfolding front
last_by test true x xs ih h = cc
last_by test false x xs ih h =
    let one : 1 + position_or_len test xs ≡ suc (position_or_len test xs) = omega arith in
    rw one (ap (onto_first x) (ih (rw one at h)))

-- where no end of a line follows, there is one line
pub last_line : (test : ℕ → Bool) (xs : List ℕ) → drop (position_or_len test xs) xs ≡ [] → slice_split test xs ≡ take (position_or_len test xs) xs ∷ []
unfolding front
last_line test [] h = refl
last_line test (x ∷ xs) h = last_by test (test x) x xs (last_line test xs) h

some_by : (test : ℕ → Bool) (t : Bool) (x : ℕ) (xs : List ℕ) → (ls : List (List ℕ)) × (slice_split test xs ≡ take (position_or_len test xs) xs ∷ ls)
    → (ls : List (List ℕ)) × (cond t ([] ∷ slice_split test xs) (onto_first x (slice_split test xs)) ≡ take (front test t x xs) (x ∷ xs) ∷ ls)
unfolding front
some_by test true x xs ih = (slice_split test xs, refl)
some_by test false x xs ih =
    let one : 1 + position_or_len test xs ≡ suc (position_or_len test xs) = omega arith in
    (ih.0, rw one (ap (onto_first x) ih.1))

-- the first line stands in front of the first end of a line
pub first_line : (test : ℕ → Bool) (xs : List ℕ) → (ls : List (List ℕ)) × (slice_split test xs ≡ take (position_or_len test xs) xs ∷ ls)
unfolding front
first_line test [] = ([], refl)
first_line test (x ∷ xs) = some_by test (test x) x xs (first_line test xs)

-- ---- the bytes of a line, and those of the lines behind it

pub line_step : (out now : List ℕ) (r : Result (List ℕ) HexFault) (rest : ℕ → Result (List ℕ) HexFault) → after out r ≡ Ok now → after out (followed r rest) ≡ after now (rest (length now - length out))
line_step out now (Ok bytes) rest h =
    let is : out ++ bytes ≡ now = cc in
    let size : length bytes ≡ length now - length out = omega (arith, ap length is, length-append out bytes) in
    after_after out bytes (rest (length bytes)) ∙ ap (λ (x : List ℕ). after x (rest (length bytes))) is ∙ ap (λ n. after now (rest n)) size
line_step out now (Err e) rest h = cc

pub longer : (out now : List ℕ) (r : Result (List ℕ) HexFault) → after out r ≡ Ok now → length out ≤ length now
longer out now (Ok bytes) h =
    let is : out ++ bytes ≡ now = cc in
    omega (arith, ap length is, length-append out bytes)
longer out now (Err e) h = let no : length out ≤ length now = cc in no

-- what is in front of the bytes stays there
pub kept_after : (a out now : List ℕ) (r : Result (List ℕ) HexFault) → take (length a) out ≡ a → after out r ≡ Ok now → take (length a) now ≡ a
kept_after a out now (Ok bytes) kept h =
    let is : out ++ bytes ≡ now = cc in
    rw (← is) (kept_append a out bytes kept)
kept_after a out now (Err e) kept h = let no : take (length a) now ≡ a = cc in no

-- ---- the bytes of a dump's rest

-- the first line is refused
pub rows_fault : (line count : ℕ) (rest : List ℕ) (e : HexFault) → row_bytes line count (take (position_or_len is_newline rest) rest) ≡ Err e → rows line count (slice_split is_newline rest) ≡ Err e
rows_fault line count rest e h =
    let first = first_line is_newline rest in
    ap (λ (ls : List (List ℕ)). rows line count ls) first.1 ∙ ap (λ (r : Result (List ℕ) HexFault). followed r (λ size. rows (line + 1) (count + size) first.0)) h

-- the first line is the last
pub rows_last : (out now : List ℕ) (line count : ℕ) (rest : List ℕ) → drop (position_or_len is_newline rest) rest ≡ [] → after out (row_bytes line count (take (position_or_len is_newline rest) rest)) ≡ Ok now
    → after out (rows line count (slice_split is_newline rest)) ≡ Ok now
rows_last out now line count rest end h =
    ap (λ (ls : List (List ℕ)). after out (rows line count ls)) (last_line is_newline rest end)
    ∙ line_step out now (row_bytes line count (take (position_or_len is_newline rest) rest)) (λ size. rows (line + 1) (count + size) []) h
    ∙ ap (λ (x : List ℕ). Ok x) (append-nil now)

-- further lines stand behind the first
pub rows_next : (out now : List ℕ) (line count : ℕ) (rest : List ℕ) → position_or_len is_newline rest < length rest → after out (row_bytes line count (take (position_or_len is_newline rest) rest)) ≡ Ok now
    → after out (rows line count (slice_split is_newline rest)) ≡ after now (rows (line + 1) (count + (length now - length out)) (slice_split is_newline (drop (position_or_len is_newline rest + 1) rest)))
rows_next out now line count rest more h =
    ap (λ (ls : List (List ℕ)). after out (rows line count ls)) (slice_split_first is_newline rest 0 more)
    ∙ line_step out now (row_bytes line count (take (position_or_len is_newline rest) rest)) (λ size. rows (line + 1) (count + size) (slice_split is_newline (drop (position_or_len is_newline rest + 1) rest))) h

-- what stands behind the first byte
pub behind_first : (xs : List ℕ) (n : ℕ) → take (length (drop n xs) - 1) (drop 1 (drop n xs)) ≡ drop (n + 1) xs
behind_first xs n =
    let all : length (drop 1 (drop n xs)) ≤ length (drop n xs) - 1 = omega (arith, length-drop 1 (drop n xs)) in
    take_all (length (drop n xs) - 1) (drop 1 (drop n xs)) all ∙ drop-drop 1 n xs
