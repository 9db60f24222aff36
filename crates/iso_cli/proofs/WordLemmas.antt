-- Words, one by one.
use Rattle.std.proofs.Common.{◌≡◌, ℕ, ◌≤◌, ◌<◌, List, [], ◌∷◌, map, length, get_or, Option, Some, None, IfSome, ap, ◌∙◌, refl, arith}
use Rattle.std.specs.Borrow.{Bor}
use Rattle.std.specs.Prelude.{codes}
use Rattle.iso_cli.specs.Listening.{AsksServe, Listens, host_words}
use Rattle.iso_cli.specs.declared.listening.Listening.{Listening}

abbrev Words : Type 0
Words = List (Bor (List ℕ))

abbrev pub bytes_of : Words → List (List ℕ)
bytes_of l = map (λ w. w.now) l

-- so many words are these
module _ {A : Type 0} (d : A) where
  pub two : (l : List A) → length l ≡ 2 → l ≡ get_or l 0 d ∷ get_or l 1 d ∷ []
  two (p ∷ q ∷ []) is = refl
  two [] is = absurd (omega (arith, is))
  two (p ∷ []) is = absurd (omega (arith, is))
  two (p ∷ q ∷ r ∷ l) is = absurd (omega (arith, is))

  pub three : (l : List A) → length l ≡ 3 → l ≡ get_or l 0 d ∷ get_or l 1 d ∷ get_or l 2 d ∷ []
  three (p ∷ q ∷ r ∷ []) is = refl
  three [] is = absurd (omega (arith, is))
  three (p ∷ []) is = absurd (omega (arith, is))
  three (p ∷ q ∷ []) is = absurd (omega (arith, is))
  three (p ∷ q ∷ r ∷ s ∷ l) is = absurd (omega (arith, is))

  pub four : (l : List A) → length l ≡ 4 → l ≡ get_or l 0 d ∷ get_or l 1 d ∷ get_or l 2 d ∷ get_or l 3 d ∷ []
  four (p ∷ q ∷ r ∷ s ∷ []) is = refl
  four [] is = absurd (omega (arith, is))
  four (p ∷ []) is = absurd (omega (arith, is))
  four (p ∷ q ∷ []) is = absurd (omega (arith, is))
  four (p ∷ q ∷ r ∷ []) is = absurd (omega (arith, is))
  four (p ∷ q ∷ r ∷ s ∷ t ∷ l) is = absurd (omega (arith, is))

  pub six : (l : List A) → length l ≡ 6 → l ≡ get_or l 0 d ∷ get_or l 1 d ∷ get_or l 2 d ∷ get_or l 3 d ∷ get_or l 4 d ∷ get_or l 5 d ∷ []
  six (p ∷ q ∷ r ∷ s ∷ t ∷ u ∷ []) is = refl
  six [] is = absurd (omega (arith, is))
  six (p ∷ []) is = absurd (omega (arith, is))
  six (p ∷ q ∷ []) is = absurd (omega (arith, is))
  six (p ∷ q ∷ r ∷ []) is = absurd (omega (arith, is))
  six (p ∷ q ∷ r ∷ s ∷ []) is = absurd (omega (arith, is))
  six (p ∷ q ∷ r ∷ s ∷ t ∷ []) is = absurd (omega (arith, is))
  six (p ∷ q ∷ r ∷ s ∷ t ∷ u ∷ v ∷ l) is = absurd (omega (arith, is))

-- ---- the words of each length, by the first

module _ (d : Bor (List ℕ)) (l : Words) (name : List ℕ) where
  pub two_words : 2 ≤ length l → length l < 3 → (get_or l 0 d).now ≡ name → bytes_of l ≡ name ∷ (get_or l 1 d).now ∷ []
  two_words least most first =
      let many : length l ≡ 2 = omega (arith, least, most) in
      ap bytes_of (two d l many) ∙ ap (λ (b : List ℕ). b ∷ (get_or l 1 d).now ∷ []) first

  pub three_words : 3 ≤ length l → length l < 4 → (get_or l 0 d).now ≡ name → bytes_of l ≡ name ∷ (get_or l 1 d).now ∷ (get_or l 2 d).now ∷ []
  three_words least most first =
      let many : length l ≡ 3 = omega (arith, least, most) in
      ap bytes_of (three d l many) ∙ ap (λ (b : List ℕ). b ∷ (get_or l 1 d).now ∷ (get_or l 2 d).now ∷ []) first

  four_words : 4 ≤ length l → length l < 5 → (get_or l 0 d).now ≡ name → bytes_of l ≡ name ∷ (get_or l 1 d).now ∷ (get_or l 2 d).now ∷ (get_or l 3 d).now ∷ []
  four_words least most first =
      let many : length l ≡ 4 = omega (arith, least, most) in
      ap bytes_of (four d l many) ∙ ap (λ (b : List ℕ). b ∷ (get_or l 1 d).now ∷ (get_or l 2 d).now ∷ (get_or l 3 d).now ∷ []) first

-- the fourth of four words
pub fourth : (d : Bor (List ℕ)) (l : Words) (name p q r : List ℕ) → bytes_of l ≡ name ∷ p ∷ q ∷ r ∷ [] → (get_or l 3 d).now ≡ r
fourth d [] name p q r is = cc
fourth d (a ∷ []) name p q r is = cc
fourth d (a ∷ b ∷ []) name p q r is = cc
fourth d (a ∷ b ∷ c ∷ []) name p q r is = cc
fourth d (a ∷ b ∷ c ∷ e ∷ l) name p q r is = cc

-- `run`'s words, with the header that the fourth names
pub run_words : (d : Bor (List ℕ)) (l : Words) (header : List ℕ) → 4 ≤ length l → length l < 5 → (get_or l 0 d).now ≡ codes "run" → (get_or l 3 d).now ≡ header
    → bytes_of l ≡ codes "run" ∷ (get_or l 1 d).now ∷ (get_or l 2 d).now ∷ header ∷ []
run_words d l header least most first last =
    four_words d l (codes "run") least most first ∙ ap (λ (b : List ℕ). codes "run" ∷ (get_or l 1 d).now ∷ (get_or l 2 d).now ∷ b ∷ []) last

-- ---- `serve`'s words

pub serve_words : (d : Bor (List ℕ)) (l : Words) → 6 ≤ length l → length l < 7 → (get_or l 0 d).now ≡ codes "serve"
    → bytes_of l ≡ codes "serve" ∷ (get_or l 1 d).now ∷ (get_or l 2 d).now ∷ (get_or l 3 d).now ∷ (get_or l 4 d).now ∷ (get_or l 5 d).now ∷ []
serve_words d l least most first =
    let many : length l ≡ 6 = omega (arith, least, most) in
    ap bytes_of (six d l many) ∙ ap (λ (b : List ℕ). b ∷ (get_or l 1 d).now ∷ (get_or l 2 d).now ∷ (get_or l 3 d).now ∷ (get_or l 4 d).now ∷ (get_or l 5 d).now ∷ []) first

pub serve_found : (words : List (List ℕ)) (r : Option Listening) (table accounts header port count : List ℕ)
    → words ≡ codes "serve" ∷ table ∷ accounts ∷ header ∷ port ∷ count ∷ []
    → IfSome r (Listens (host_words table accounts header port count)) → IfSome r (AsksServe words)
serve_found words None table accounts header port count is l = tt
serve_found words (Some x) table accounts header port count is l =
    record { table = table; accounts = accounts; header = header; port = port; count = count; listens = l; spelled = is }
