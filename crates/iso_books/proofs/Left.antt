-- What holds of what is left of an input, where its bytes are known.
use Rattle.std.proofs.Common.{ℕ, List, Option, Some, None, IfSome, subst}
use Rattle.std.specs.Io.KnownBytes.{Keeps}
use Rattle.iso_books.specs.Records.{Between}

-- one after the other
pub between_trans : (P Q S : List ℕ → List ℕ → Type 0) (a b c : Option (List ℕ)) → Between P a b → Between Q b c
    → ((x y z : List ℕ) → P x y → Q y z → S x z) → Between S a c
between_trans P Q S None b c p q follows = tt
between_trans P Q S (Some x) None c p q follows = absurd p
between_trans P Q S (Some x) (Some y) None p q follows = absurd q
between_trans P Q S (Some x) (Some y) (Some z) p q follows = follows x y z p q

pub between_if : (P : List ℕ → List ℕ → Type 0) (Q S : List ℕ → Type 0) (a b : Option (List ℕ)) → Between P a b → IfSome b Q
    → ((x y : List ℕ) → P x y → Q y → S x) → IfSome a S
between_if P Q S None b p q follows = tt
between_if P Q S (Some x) None p q follows = absurd p
between_if P Q S (Some x) (Some y) p q follows = follows x y p q

-- nothing was taken, and two things hold of what is left
pub kept_both : (P Q S : List ℕ → Type 0) (old mid : Option (List ℕ)) → Keeps old mid → IfSome mid Q → IfSome mid S → ((x : List ℕ) → Q x → S x → P x) → IfSome old P
kept_both P Q S None mid kept q s follows = tt
kept_both P Q S (Some x) None kept q s follows = absurd kept
kept_both P Q S (Some x) (Some y) kept q s follows = subst P kept (follows y q s)
