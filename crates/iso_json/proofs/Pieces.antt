-- Pieces that are appended one after another.
use Rattle.std.proofs.Common.{◌≡◌, ℕ, ◌≤◌, List, ◌++◌, length, take, drop, refl, ap, append_assoc, subst, sym, ◌∙◌, arith}
use Rattle.std.proofs.lemmas.List.{length-append, take-append-drop, take-take, take_at}
use Rattle.iso_parts.specs.Buffers.{Keeps}

-- what begins with more than the old bytes begins with the old bytes
Keeps-front : (a x new : List ℕ) → Keeps (a ++ x) new → Keeps a new
Keeps-front a x new kept =
    let le : length a ≤ length (a ++ x) = omega (arith, length-append a x) in
    sym (take-take (length a) (length (a ++ x)) new le) ∙ ap (take (length a)) kept ∙ take_at a x (length a) refl

-- what was there is kept behind three pieces
pub kept_behind_three : (old one two three new a b c : List ℕ) → one ≡ old ++ a → two ≡ one ++ b → three ≡ two ++ c → Keeps three new → Keeps old new
kept_behind_three old one two three new a b c p q r kept =
    Keeps-front old a new (subst (λ (l : List ℕ). Keeps l new) p (Keeps-front one b new (subst (λ (l : List ℕ). Keeps l new) q (Keeps-front two c new (subst (λ (l : List ℕ). Keeps l new) r kept)))))

-- five pieces behind what was there
pub five_pieces : (old one two three four new a b c d e : List ℕ) → one ≡ old ++ a → two ≡ one ++ b → three ≡ two ++ c → four ≡ three ++ d → new ≡ four ++ e → new ≡ old ++ (a ++ (b ++ (c ++ (d ++ e))))
five_pieces old one two three four new a b c d e p q r s t = rw (t, s, r, q, p) (simp append_assoc)

-- what is kept twice is kept
pub kept_on : (old mid new : List ℕ) → Keeps old mid → Keeps mid new → Keeps old new
kept_on old mid new p q =
    let split : mid ≡ old ++ drop (length old) mid = sym (take-append-drop (length old) mid) ∙ ap (λ (l : List ℕ). l ++ drop (length old) mid) p in
    Keeps-front old (drop (length old) mid) new (subst (λ (l : List ℕ). Keeps l new) split q)

-- what is kept stays kept behind a piece more
pub kept_behind_one : (old mid one new a : List ℕ) → Keeps old mid → one ≡ mid ++ a → Keeps one new → Keeps old new
kept_behind_one old mid one new a p q kept = kept_on old mid new p (Keeps-front mid a new (subst (λ (l : List ℕ). Keeps l new) q kept))
