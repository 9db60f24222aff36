-- What a function that unpacks has found.
use Rattle.std.proofs.Common.{◌≡◌, ◌≢◌, ℕ, ◌≤◌, List, ◌++◌, length, take, Result, Ok, Err, refl, sym, ap, subst, ◌∙◌, arith}
use Rattle.std.specs.Prelude.{IfOk, IfErr}
use Rattle.std.proofs.lemmas.List.{take_at, length-append}
use Rattle.iso_table.specs.Layout.{Layout, AreGood}
use Rattle.iso_wire.specs.declared.fault.UnpackFault.{UnpackFault}
use Rattle.iso_wire.specs.declared.fault.UnpackCause.TheVariants.{Short, Memory}
use Rattle.iso_wire.specs.Contents.{Contents}
use Rattle.iso_wire.specs.Faults.{out_of_memory}
use Rattle.iso_wire.specs.Reading.{message_at, whole, Unpacks}
use Rattle.iso_wire.specs.ReadingLaws.{ReadsSpellings, IsShort, ReadingStays}
use Rattle.iso_wire.specs.Spelling.{AreBytes, BeginsWith, BeginsWithNone, Spelling}
use Rattle.iso_wire.proofs.Bytes.{bytes_append}
use Rattle.iso_wire.proofs.ElementLaws.{ok_is}

-- where memory ran out, no place is told
pub tells_no_place : (r read : Result (Contents × ℕ) UnpackFault) → Unpacks r read → IfErr r (λ e. e.cause ≡ Memory → e ≡ out_of_memory)
tells_no_place (Ok x) read h = tt
tells_no_place (Err e) read h = h.0

module _ (reads : ReadsSpellings) where
  -- what is spelled is read, whatever bytes follow
  pub spelled_is_read : (t : Layout) (m : Contents) (p rest : List ℕ) → AreGood t.rows → AreBytes (p ++ rest) → Spelling t m p → message_at t (p ++ rest) ≡ whole m (length p)
  spelled_is_read t m p rest good bytes spelled =
      let front : p ≡ take (length p) (p ++ rest) = sym (take_at p rest (length p) refl) in
      let room : length p ≤ length (p ++ rest) = omega (arith, length-append p rest) in
      (reads t m (length p) (p ++ rest) good bytes).1 (room, subst (Spelling t m) front spelled)

  pub is_found : (t : Layout) (b : List ℕ) (r : Result (Contents × ℕ) UnpackFault) → AreGood t.rows → AreBytes b → Unpacks r (message_at t b) → IfOk r (λ x. BeginsWith t x.0 x.1 b)
  is_found t b (Ok x) good bytes h = (reads t x.0 x.1 b good bytes).0 h
  is_found t b (Err e) good bytes h = tt

  -- the message that bytes begin with is given
  pub is_given : (t : Layout) (b : List ℕ) (r : Result (Contents × ℕ) UnpackFault) → AreGood t.rows → AreBytes b → Unpacks r (message_at t b) → (m : Contents) (front rest : List ℕ) → Spelling t m front → b ≡ front ++ rest → Unpacks r (whole m (length front))
  is_given t b r good bytes h m front rest spelled split =
      subst (Unpacks r) (ap (message_at t) split ∙ spelled_is_read t m front rest good (subst AreBytes split bytes) spelled) h

  -- a fault comes only where the bytes begin with no spelling
  pub is_refused : (t : Layout) (b : List ℕ) (r : Result (Contents × ℕ) UnpackFault) → AreGood t.rows → AreBytes b → Unpacks r (message_at t b) → IfErr r (λ e. e.cause ≢ Memory → BeginsWithNone t b)
  is_refused t b (Ok x) good bytes h = tt
  is_refused t b (Err e) good bytes h = λ other m front rest split spelled. let same = (is_given t b (Err e) good bytes h m front rest spelled split).1 other in absurd cc

  -- where a whole piece is bad, no continuation begins with a spelling
  pub is_settled : ReadingStays → (t : Layout) (b : List ℕ) (r : Result (Contents × ℕ) UnpackFault) → AreGood t.rows → AreBytes b → Unpacks r (message_at t b)
      → IfErr r (λ e. e.cause ≢ Memory → e.cause ≢ Short → (more : List ℕ) → AreBytes more → BeginsWithNone t (b ++ more))
  is_settled stays t b (Ok x) good bytes h = tt
  is_settled stays t b (Err e) good bytes h = λ other long more others m front rest split spelled.
      let read : message_at t b ≡ Err e = h.1 other in
      let again : message_at t (b ++ more) ≡ Err e = stays t b more good bytes (λ short. long (subst IsShort read short)) ∙ read in
      let given = spelled_is_read t m front rest good (subst AreBytes split (bytes_append b more bytes others)) spelled in
      absurd (let same : Err e ≡ whole m (length front) = sym again ∙ ap (message_at t) split ∙ given in cc)

  -- no spelling begins with another, and no bytes spell two messages
  pub one_spelling : (t : Layout) (m other : Contents) (a b x y : List ℕ) → AreGood t.rows → AreBytes (a ++ x) → Spelling t m a → Spelling t other b → a ++ x ≡ b ++ y → (m ≡ other) × (a ≡ b)
  one_spelling t m other a b x y good bytes first second same =
      let one = spelled_is_read t m a x good bytes first in
      let two = spelled_is_read t other b y good (subst AreBytes same bytes) second in
      let pair = ok_is (m, length a) (other, length b) (sym one ∙ ap (message_at t) same ∙ two) in
      let size : length a ≡ length b = ap (λ (p : Contents × ℕ). p.1) pair in
      (ap (λ (p : Contents × ℕ). p.0) pair, sym (take_at a x (length a) refl) ∙ ap (take (length a)) same ∙ take_at b y (length a) (sym size))
