-- What is left without pads is the back or the front of the characters.
use Rattle.std.proofs.Common.{◌≡◌, ℕ, ◌+◌, ◌-◌, ◌≤◌, List, ◌++◌, length, take, drop, reverse, replicate, sym, ap, ◌∙◌, refl, append_assoc, arith}
use Rattle.std.proofs.lemmas.List.{take_at, drop_at, take-take, length-append}
use Rattle.iso_parts.specs.declared.padding.Pad.TheVariants as pads
use Rattle.iso_parts.specs.Reading.{without_front}
use Rattle.iso_parts.proofs.Counts.{length-replicate}
use Rattle.iso_parts.proofs.Pads.{IsUnpadded-without_padding}

pub back_is : (p : ℕ) (w : List ℕ) → drop (length w - length (without_front p w)) w ≡ without_front p w
back_is p w =
    let v : List ℕ = without_front p w in
    let n = length w - length v in
    let whole : replicate n p ++ v ≡ w = (IsUnpadded-without_padding (pads.Left p) w).whole in
    sym (ap (drop n) whole) ∙ drop_at (replicate n p) v n (length-replicate n p)

pub front_is : (p : ℕ) (w : List ℕ) → take (length (reverse (without_front p (reverse w)))) w ≡ reverse (without_front p (reverse w))
front_is p w =
    let v : List ℕ = reverse (without_front p (reverse w)) in
    let whole : v ++ replicate (length w - length v) p ≡ w = (IsUnpadded-without_padding (pads.Right p) w).whole in
    sym (ap (take (length v)) whole) ∙ take_at v (replicate (length w - length v) p) (length v) refl

-- the front and what follows it, at the head of a longer list
pub front_and_next : (front v rest tail : List ℕ) (before n k : ℕ) → length front ≡ before → length v ≡ n → before + n ≤ k → take (before + n) (take k ((front ++ (v ++ rest)) ++ tail)) ≡ front ++ v
front_and_next front v rest tail before n k len size room =
    take-take (before + n) k ((front ++ (v ++ rest)) ++ tail) room
    ∙ ap (take (before + n)) ((simp append_assoc) ∙ sym (append_assoc front v (rest ++ tail)))
    ∙ take_at (front ++ v) (rest ++ tail) (before + n) (length-append front v ∙ omega arith)
