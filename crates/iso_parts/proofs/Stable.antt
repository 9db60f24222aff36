-- What is read doesn't depend on what follows.
use Rattle.std.proofs.Common.{◌≡◌, ℕ, ◌+◌, ◌≤◌, Bool, true, false, cond, ltb, List, ◌++◌, length, take, drop, Result, Ok, Err, refl, sym, ap, subst, ◌∙◌, arith}
use Rattle.std.proofs.lemmas.Bool.{ltb-false, le-ltb, cond-false}
use Rattle.std.proofs.lemmas.List.{length-append, take-append-le, drop-append-le, length-drop}
use Rattle.iso_parts.specs.declared.spec.FieldSpec.{FieldSpec}
use Rattle.iso_parts.specs.declared.fault.FieldFault.{FieldFault}
use Rattle.iso_parts.specs.PartLaws.{IsMore}
use Rattle.iso_parts.specs.Reading.{prefix_size, prefix_of, body_size, body_of, FieldReading, more, at_body, at_prefix, part_at}

not_more : (t : Bool) (o : FieldReading) → (IsMore (cond t more o) → ⊥) → t ≡ false
not_more true o h = absurd (h tt)
not_more false o h = refl

prefix_stays : (s : FieldSpec) (b x : List ℕ) (r : Result ℕ FieldFault) → prefix_size s.length ≤ length b → (IsMore (at_prefix s b r) → ⊥) → at_prefix s (b ++ x) r ≡ at_prefix s b r
prefix_stays s b x (Err e) le h = refl
prefix_stays s b x (Ok n) le h =
    let front = prefix_size s.length in
    let size = body_size s.coding n in
    let short : ltb (length b) (front + size) ≡ false = not_more (ltb (length b) (front + size)) (at_body (front + size) (body_of s n (take size (drop front b)))) h in
    let room : front + size ≤ length b = ltb-false (length b) (front + size) short in
    let long : ltb (length (b ++ x)) (front + size) ≡ false = le-ltb (length (b ++ x)) (front + size) (omega (arith, length-append b x)) in
    let inner : size ≤ length (drop front b) = omega (arith, length-drop front b) in
    let same : take size (drop front (b ++ x)) ≡ take size (drop front b) = ap (take size) (drop-append-le front b x le) ∙ take-append-le size (drop front b) x inner in
    cond-false (ltb (length (b ++ x)) (front + size)) more (at_body (front + size) (body_of s n (take size (drop front (b ++ x))))) long
    ∙ ap (λ (l : List ℕ). at_body (front + size) (body_of s n l)) same
    ∙ sym (cond-false (ltb (length b) (front + size)) more (at_body (front + size) (body_of s n (take size (drop front b)))) short)

-- a value or a fault stays, whatever follows
pub part_stays : (s : FieldSpec) (b x : List ℕ) → (IsMore (part_at s b) → ⊥) → part_at s (b ++ x) ≡ part_at s b
part_stays s b x h =
    let front = prefix_size s.length in
    let short : ltb (length b) front ≡ false = not_more (ltb (length b) front) (at_prefix s b (prefix_of s (take front b))) h in
    let rest : IsMore (at_prefix s b (prefix_of s (take front b))) → ⊥ = λ m. h (subst IsMore (sym (cond-false (ltb (length b) front) more (at_prefix s b (prefix_of s (take front b))) short)) m) in
    let le : front ≤ length b = ltb-false (length b) front short in
    let long : ltb (length (b ++ x)) front ≡ false = le-ltb (length (b ++ x)) front (omega (arith, length-append b x)) in
    cond-false (ltb (length (b ++ x)) front) more (at_prefix s (b ++ x) (prefix_of s (take front (b ++ x)))) long
    ∙ ap (λ (l : List ℕ). at_prefix s (b ++ x) (prefix_of s l)) (take-append-le front b x le)
    ∙ prefix_stays s b x (prefix_of s (take front b)) le rest
    ∙ sym (cond-false (ltb (length b) front) more (at_prefix s b (prefix_of s (take front b))) short)
