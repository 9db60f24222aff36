-- A batch that is sent again and again.
use Rattle.std.proofs.Common.{◌≡◌, ◌∙◌, ℕ, zero, suc, List, [], ◌∷◌, ◌++◌, append_assoc, refl, ap}
use Rattle.std.specs.Prelude.{replicate}
use Rattle.iso_shared.specs.Store.{Grows, SentOnly}

-- one more
replicate_last : (n : ℕ) (b : List ℕ) → replicate n b ++ b ∷ [] ≡ replicate (suc n) b
replicate_last zero b = refl
replicate_last (suc n) b = ap (λ (l : List (List ℕ)). b ∷ l) (replicate_last n b)

pub sent_again : (old now new : List (List ℕ)) (b : List ℕ) → SentOnly old now b → new ≡ now ++ b ∷ [] → SentOnly old new b
sent_again old now new b only e = (
  suc only.0,
  e ∙ ap (λ (l : List (List ℕ)). l ++ b ∷ []) only.1 ∙ append_assoc old (replicate only.0 b) (b ∷ [])
      ∙ ap (λ (l : List (List ℕ)). old ++ l) (replicate_last only.0 b),
)

pub grows_on : (a b c : List (List ℕ)) → Grows a b → Grows b c → Grows a c
grows_on a b c one two = (one.0 ++ two.0, two.1 ∙ ap (λ (l : List (List ℕ)). l ++ two.0) one.1 ∙ append_assoc a one.0 two.0)

pub only_same : (old now new : List (List ℕ)) (b : List ℕ) → SentOnly old now b → new ≡ now → SentOnly old new b
only_same old now new b only e = (only.0, e ∙ only.1)

pub grows_same : (old now new : List (List ℕ)) → Grows old now → new ≡ now → Grows old new
grows_same old now new grows e = (grows.0, e ∙ grows.1)
