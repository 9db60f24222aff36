-- Bytes of a piece that can't belong to the message change nothing.
use Rattle.std.proofs.Common.{◌≡◌, ℕ, Bool, true, cond, Result, ◌+◌, ◌-◌, ◌≤◌, List, ◌++◌, length, take, drop, inl, inr, sym, ap, ◌∙◌, subst, append_assoc, take-append-drop, arith}
use Rattle.std.proofs.lemmas.Bool.{cases_lt}
use Rattle.std.proofs.lemmas.List.{length-append, length-take-le, take_all}
use Rattle.iso_parts.specs.PartLaws.{PartLaws}
use Rattle.iso_table.specs.Layout.{Layout, AreGood}
use Rattle.iso_table.specs.Sizes.{max_bytes}
use Rattle.iso_wire.specs.Reading.{message_at}
use Rattle.iso_wire.specs.ReadingLaws.{IsShort, ReadingStays}
use Rattle.iso_wire.specs.Spelling.{AreBytes}
use Rattle.iso_wire.specs.declared.fault.UnpackFault.{UnpackFault}
use Rattle.iso_wire.specs.declared.judging.ResumePoint.{ResumePoint}
use Rattle.iso_wire.specs.Judging.{end_of, Resumes}
use Rattle.iso_wire.specs.Taking.{IsPieceOrFront, ResumesIn}
use Rattle.iso_wire.proofs.Resumes.{resumed_read}
use Rattle.iso_wire.proofs.Longest.{short_is_small}

-- what the first bytes tell, if they are as many as the longest message has, the whole piece tells too
cut_tells : (t : Layout) (old piece : List ℕ) (n : ℕ) → PartLaws → ReadingStays → AreGood t.rows → AreBytes (old ++ take n piece) → max_bytes t ≤ length old + n → n ≤ length piece
    → message_at t (old ++ piece) ≡ message_at t (old ++ take n piece)
cut_tells t old piece n parts stays good bytes long within =
    let front = old ++ take n piece in
    let size : length front ≡ length old + n = length-append old (take n piece) ∙ ap (λ (k : ℕ). length old + k) (length-take-le n piece within) in
    let whole : IsShort (message_at t front) → ⊥ = λ short. omega (arith, short_is_small parts t front short, size, long) in
    let all : front ++ drop n piece ≡ old ++ piece = append_assoc old (take n piece) (drop n piece) ∙ ap (λ (l : List ℕ). old ++ l) (take-append-drop n piece) in
    ap (message_at t) (sym all) ∙ stays t front (drop n piece) good bytes whole

pub front_tells : (t : Layout) (old piece front : List ℕ) → PartLaws → ReadingStays → AreGood t.rows → AreBytes (old ++ front) → length old ≤ max_bytes t → IsPieceOrFront (max_bytes t - length old) piece front
    → message_at t (old ++ piece) ≡ message_at t (old ++ front)
front_tells t old piece front parts stays good bytes small (inl same) = ap (λ (l : List ℕ). message_at t (old ++ l)) (sym same)
front_tells t old piece front parts stays good bytes small (inr first) =
    let n = max_bytes t - length old in
    let long : max_bytes t ≤ length old + n = omega (arith, small) in
    elim (cases_lt n (length piece)) [
      | inl less ↦ cut_tells t old piece n parts stays good (subst (λ (l : List ℕ). AreBytes (old ++ l)) first bytes) long (omega (arith, less)) ∙ ap (λ (l : List ℕ). message_at t (old ++ l)) (sym first)
      | inr most ↦ ap (λ (l : List ℕ). message_at t (old ++ l)) (sym (first ∙ take_all n piece (omega (arith, most))))
    ]

-- where there was room, the piece is behind the bytes
pub grown : (done : Bool) (old piece new : List ℕ) → new ≡ cond done (old ++ piece) old → done ≡ true → new ≡ old ++ piece
grown done old piece new is had = is ∙ ap (λ b. cond b (old ++ piece) old) had

-- judging on from the point to which the first bytes are judged tells where the message ends, or the fault
pub resumed_in : (t : Layout) (from to : ResumePoint) (b : List ℕ) (r : Result ℕ UnpackFault) → ResumesIn t from b → Resumes t from b to r → end_of (message_at t b) ≡ r
resumed_in t from to b r (old, piece, all, so_far) found =
    ap (λ (l : List ℕ). end_of (message_at t l)) all ∙ resumed_read t from to old piece r so_far (subst (λ (l : List ℕ). Resumes t from l to r) all found)
