-- Texts that are JSON, and those that are not.
use Rattle.std.proofs.Common.{arith, ◌≡◌, ◌++◌, ◌||◌, ◌&&◌, ◌==◌, ℕ, zero, suc, Bool, true, false, List, [], ◌∷◌, take, refl}
use Rattle.iso_jobs.specs.Making.{is_white, is_blank, is_json}

-- no JSON by the first character stays none where none comes behind blanks
none_behind : (brace white j g : Bool) → (brace || (white && j)) ≡ false → (white ≡ true → j ≡ false → g ≡ false) → (brace || (white && g)) ≡ false
none_behind true white j g none go = none
none_behind false false j g none go = refl
none_behind false true j g none go = go refl none

full_behind : (white k : Bool) → (white && k) ≡ false → white ≡ true → k ≡ false
full_behind true k full is = full
full_behind false k full is = absurd (grind arith)

-- behind a line that says something and is no JSON, nothing makes the text JSON
pub no_json_on : (line rest : List ℕ) → is_blank line ≡ false → is_json line ≡ false → is_json (line ++ rest) ≡ false
no_json_on [] rest full none = absurd (grind arith)
no_json_on (b ∷ bs) rest full none =
    none_behind (b == 123) (is_white b) (is_json bs) (is_json (bs ++ rest)) none
    (λ white n. no_json_on bs rest (full_behind (is_white b) (is_blank bs) full white) n)

-- the front of a text that is no JSON is none
pub no_json_before : (n : ℕ) (text : List ℕ) → is_json text ≡ false → is_json (take n text) ≡ false
no_json_before zero text none = refl
no_json_before (suc n) [] none = refl
no_json_before (suc n) (b ∷ bs) none =
    none_behind (b == 123) (is_white b) (is_json bs) (is_json (take n bs)) none (λ white none. no_json_before n bs none)
