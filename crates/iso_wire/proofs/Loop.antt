-- Reading elements one after the other, as a loop does.
use Rattle.std.proofs.Common.{◌≡◌, ℕ, ◌+◌, List, [], ◌∷◌, ◌++◌, drop, Option, Result, Ok, Err, refl, sym, ap, ◌∙◌, append_assoc}
use Rattle.std.proofs.lemmas.List.{append-nil}
use Rattle.iso_parts.specs.declared.spec.FieldSpec.{FieldSpec}
use Rattle.iso_wire.specs.declared.fault.UnpackFault.{UnpackFault}
use Rattle.iso_wire.specs.Reading.{◌>>=◌, value_at, elements_at}
use Rattle.iso_wire.proofs.Orders.{Values}

-- what was read before, and what is still read
abbrev pub with_front : Values → Result (Values × ℕ) UnpackFault → Result (Values × ℕ) UnpackFault
with_front front read = read >>= λ x. Ok (front ++ x.0, x.1)

regroup : (front : Values) (e : ℕ × List ℕ) (read : Result (Values × ℕ) UnpackFault) → with_front front (read >>= λ x. Ok (e ∷ x.0, x.1)) ≡ with_front (front ++ e ∷ []) read
regroup front e (Ok x) = ap (λ (es : Values). Ok (es, x.1)) (simp append_assoc)
regroup front e (Err f) = refl

abbrev behind : List (Option FieldSpec) → List ℕ → ℕ → ℕ → List ℕ → List ℕ × ℕ → Result (Values × ℕ) UnpackFault
behind rows ns n at b first = elements_at rows ns (at + first.1) (drop first.1 b) >>= λ x. Ok ((n, first.0) ∷ x.0, x.1)

pub goes_on : (rows : List (Option FieldSpec)) (front : Values) (old ns : List ℕ) (n at : ℕ) (b : List ℕ) (first : List ℕ × ℕ) (total : Result (Values × ℕ) UnpackFault) → old ≡ n ∷ ns → value_at rows n at b ≡ Ok first
    → with_front front (elements_at rows old at b) ≡ total → with_front (front ++ (n, first.0) ∷ []) (elements_at rows ns (at + first.1) (drop first.1 b)) ≡ total
goes_on rows front old ns n at b first total is read so_far =
    sym (ap (λ (l : List ℕ). with_front front (elements_at rows l at b)) is
    ∙ ap (λ r. with_front front (r >>= behind rows ns n at b)) read
    ∙ regroup front (n, first.0) (elements_at rows ns (at + first.1) (drop first.1 b))) ∙ so_far

pub ends : (rows : List (Option FieldSpec)) (front : Values) (old ns : List ℕ) (n at : ℕ) (b : List ℕ) (f : UnpackFault) (total : Result (Values × ℕ) UnpackFault) → old ≡ n ∷ ns → value_at rows n at b ≡ Err f
    → with_front front (elements_at rows old at b) ≡ total → total ≡ Err f
ends rows front old ns n at b f total is read so_far =
    sym so_far ∙ ap (λ (l : List ℕ). with_front front (elements_at rows l at b)) is ∙ ap (λ r. with_front front (r >>= behind rows ns n at b)) read

pub is_done : (rows : List (Option FieldSpec)) (front : Values) (old : List ℕ) (at : ℕ) (b : List ℕ) (total : Result (Values × ℕ) UnpackFault) → old ≡ []
    → with_front front (elements_at rows old at b) ≡ total → total ≡ Ok (front, at)
is_done rows front old at b total is so_far =
    sym so_far ∙ ap (λ (l : List ℕ). with_front front (elements_at rows l at b)) is ∙ ap (λ (es : Values). Ok (es, at)) (append-nil front)
