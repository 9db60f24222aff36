-- Values that stand side by side, and are copied at once.
use Rattle.std.proofs.Common.{◌≡◌, ℕ, ◌+◌, ◌-◌, ◌≤◌, List, ◌++◌, take, drop, sym, ap, ◌∙◌, arith, append_assoc}
use Rattle.std.proofs.Math.Seq.{take-add}
use Rattle.std.proofs.lemmas.List.{drop-drop}
use Rattle.iso_wire.specs.Packing.{between, Continues}

-- two runs, one behind the other
pub between-join : (l : List ℕ) (from at end : ℕ) → from ≤ at → at ≤ end → between l from end ≡ between l from at ++ between l at end
between-join l from at end one two =
    let whole : end - from ≡ (at - from) + (end - at) = omega (arith, one, two) in
    let place : from + (at - from) ≡ at = omega (arith, one) in
    ap (λ (n : ℕ). take n (drop from l)) whole
    ∙ take-add (at - from) (end - at) (drop from l)
    ∙ ap (λ (b : List ℕ). take (at - from) (drop from l) ++ take (end - at) b) (drop-drop (at - from) from l ∙ ap (λ (n : ℕ). drop n l) place)

-- a value that is still to be copied with those before it
pub goes_on : (old values part : List ℕ) (from at end : ℕ) → from ≤ at → at ≤ end → part ≡ between values at end → (from ≤ end) × Continues old old (between values from at) part (between values from end)
goes_on old values part from at end one two is = (
  omega (arith, one, two),
  ap (λ (l : List ℕ). old ++ l) (between-join values from at end one two) ∙ ap (λ (l : List ℕ). old ++ (between values from at ++ l)) (sym is),
)

-- one part more, of all that is to be written
pub one_more : (all now new values part rest : List ℕ) (from at end next : ℕ) → Continues now new (between values from at) part (between values next end)
    → now ++ (between values from at ++ (part ++ rest)) ≡ all → new ++ (between values next end ++ rest) ≡ all
one_more all now new values part rest from at end next step said =
    let run = between values from at in
    sym (append_assoc new (between values next end) rest)
    ∙ ap (λ (l : List ℕ). l ++ rest) step
    ∙ append_assoc now (run ++ part) rest
    ∙ ap (λ (l : List ℕ). now ++ l) (append_assoc run part rest)
    ∙ said
