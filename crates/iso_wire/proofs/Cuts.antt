-- A piece that is taken in two parts: the second only where the message is not whole after the first.
use Rattle.std.proofs.Common.{◌≡◌, ℕ, List, ◌++◌, take, drop, length, Ok, Err, refl, sym, ap, subst, ◌∙◌, append_assoc}
use Rattle.std.proofs.lemmas.List.{take-append-drop}
use Rattle.iso_table.specs.Layout.{Layout, AreGood}
use Rattle.iso_wire.specs.declared.fault.UnpackFault.{UnpackFault}
use Rattle.iso_wire.specs.declared.unpacker.Fed.{Fed}
use Rattle.iso_wire.specs.declared.unpacker.Fed.TheVariants as fed
use Rattle.iso_wire.specs.Unpacker.{Feeds}
use Rattle.iso_wire.specs.Reading.{message_at}
use Rattle.iso_wire.specs.ReadingLaws.{IsShort, ReadingStays}
use Rattle.iso_wire.specs.Spelling.{AreBytes}

-- what reading the first part alone settles is read of the whole piece
same_read : ReadingStays → (t : Layout) (old piece front rest : List ℕ) → AreGood t.rows → AreBytes (old ++ front) → piece ≡ front ++ rest → (IsShort (message_at t (old ++ front)) → ⊥) → message_at t (old ++ piece) ≡ message_at t (old ++ front)
same_read stays t old piece front rest good fits parts other =
    let joined : old ++ piece ≡ (old ++ front) ++ rest = ap (λ (l : List ℕ). old ++ l) parts ∙ sym (append_assoc old front rest) in
    ap (message_at t) joined ∙ stays t (old ++ front) rest good fits other

-- so is a message that the first part ends,
pub done_early : ReadingStays → (t : Layout) (old piece front rest : List ℕ) (done : Fed) → AreGood t.rows → AreBytes (old ++ front) → piece ≡ front ++ rest
    → (done ≡ fed.More → ⊥) → Feeds (length old) (Ok done) (message_at t (old ++ front)) → Feeds (length old) (Ok done) (message_at t (old ++ piece))
done_early stays t old piece front rest fed.More good fits parts other h = absurd (other refl)
done_early stays t old piece front rest (fed.Done m used) good fits parts other h = same_read stays t old piece front rest good fits parts (λ short. subst IsShort h short) ∙ h

-- and a fault that the first part has
pub refused_early : ReadingStays → (t : Layout) (old piece front rest : List ℕ) (e : UnpackFault) → AreGood t.rows → AreBytes (old ++ front) → piece ≡ front ++ rest
    → Feeds (length old) (Err e) (message_at t (old ++ front)) → Feeds (length old) (Err e) (message_at t (old ++ piece))
refused_early stays t old piece front rest e good fits parts h = (
  (h.0.0, λ other. let read = h.0.1 other in same_read stays t old piece front rest good fits parts (λ short. h.1 (subst IsShort read short)) ∙ read),
  h.1,
)

-- the two parts are the whole piece
pub front_and_rest : (n : ℕ) (piece front rest : List ℕ) → front ≡ take n piece → rest ≡ drop n piece → piece ≡ front ++ rest
front_and_rest n piece front rest begins ends =
    sym (take-append-drop n piece) ∙ ap (λ (l : List ℕ). l ++ drop n piece) (sym begins) ∙ ap (λ (l : List ℕ). front ++ l) (sym ends)
