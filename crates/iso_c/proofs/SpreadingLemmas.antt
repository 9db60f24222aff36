-- Parts tell where the values lie.
use Rattle.std.proofs.Common.{◌≡◌, ℕ, suc, ◌+◌, List, [], ◌∷◌, ◌++◌, length, take, refl, sym, ap, ◌∙◌, append_assoc}
use Rattle.std.proofs.lemmas.List.{length-append, drop_at, take_at}
use Rattle.iso_c.specs.Parts.{bytes_in, elements_in, values_of, part_of, parts_from}

abbrev pub Values : Type 0
Values = List (ℕ × List ℕ)

abbrev cons : ℕ → List ℕ → Values → Values
cons n v es = (n, v) ∷ es

-- parts tell where the values lie, whatever stands before and behind them
pub told : (front : List ℕ) (es : Values) (rest : List ℕ) → elements_in (front ++ (values_of es ++ rest)) (parts_from (length front) es) ≡ es
told front [] rest = refl
told front (e ∷ es) rest =
    let all : List ℕ = front ++ ((e.1 ++ values_of es) ++ rest) in
    let regrouped : (e.1 ++ values_of es) ++ rest ≡ e.1 ++ (values_of es ++ rest) = append_assoc e.1 (values_of es) rest in
    let value : bytes_in all (part_of e.0 (length front) (length e.1)) ≡ e.1 =
    ap (take (length e.1)) (drop_at front ((e.1 ++ values_of es) ++ rest) (length front) refl)
    ∙ ap (take (length e.1)) regrouped ∙ take_at e.1 (values_of es ++ rest) (length e.1) refl in
    let moved : (front ++ e.1) ++ (values_of es ++ rest) ≡ all = append_assoc front e.1 (values_of es ++ rest) ∙ ap (λ (l : List ℕ). front ++ l) (sym regrouped) in
    let others : elements_in all (parts_from (length front + length e.1) es) ≡ es =
    ap (λ (l : List ℕ). elements_in l (parts_from (length front + length e.1) es)) (sym moved)
    ∙ ap (λ (k : ℕ). elements_in ((front ++ e.1) ++ (values_of es ++ rest)) (parts_from k es)) (sym (length-append front e.1))
    ∙ told (front ++ e.1) es rest in
    ap (λ (v : List ℕ). cons e.0 v (elements_in all (parts_from (length front + length e.1) es))) value ∙ ap (cons e.0 e.1) others

-- a part for each element
pub length_parts : (at : ℕ) (es : Values) → length (parts_from at es) ≡ length es
length_parts at [] = refl
length_parts at (e ∷ es) = ap suc (length_parts (at + length e.1) es)
