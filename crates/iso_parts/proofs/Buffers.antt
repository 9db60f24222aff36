-- Buffers that grow at their end.
use Rattle.std.proofs.Common.{◌≤◌, ℕ, List, ◌++◌, length, take, sym, ap, ◌∙◌, refl, arith}
use Rattle.std.proofs.lemmas.List.{take-take, take_at, length-append}
use Rattle.iso_parts.specs.Buffers.{Keeps}

-- what begins with more than the old bytes begins with the old bytes
pub Keeps-front : (a x new : List ℕ) → Keeps (a ++ x) new → Keeps a new
Keeps-front a x new kept =
    let le : length a ≤ length (a ++ x) = omega (arith, length-append a x) in
    sym (take-take (length a) (length (a ++ x)) new le) ∙ ap (take (length a)) kept ∙ take_at a x (length a) refl
