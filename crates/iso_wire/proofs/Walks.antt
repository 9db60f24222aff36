-- A step of a walk over pieces: the piece that is judged is the one that the grammar calls for.
use Rattle.std.proofs.Common.{◌≡◌, ℕ, ◌+◌, ◌-◌, ◌≤◌, ◌<◌, List, length, take, drop, Option, Some, Result, Ok, Err, refl, sym, ap, subst, ◌∙◌, arith, inl, inr}
use Rattle.std.proofs.lemmas.Bool.{cases_lt}
use Rattle.std.proofs.lemmas.List.{length-drop, length-take-le, take-append-drop}
use Rattle.std.proofs.Math.Nat.{min-eq_left, min-eq_right}
use Rattle.iso_parts.specs.MapLaws.{MapLaws}
use Rattle.iso_parts.specs.PartLaws.{PartLaws}
use Rattle.iso_parts.specs.PieceLaws.{PieceLaws}
use Rattle.iso_parts.specs.declared.spec.FieldSpec.{FieldSpec}
use Rattle.iso_table.specs.Layout.{Layout, row_at, AreGood}
use Rattle.iso_wire.specs.Pieces.{Ahead, next, Walk, StandsBefore, Goes, Steps, rank, left_of}
use Rattle.std.specs.Prelude.{min}
use Rattle.iso_wire.specs.Spelling.{AreBytes}
use Rattle.iso_wire.specs.Stops.{Piece, type, primary, secondary, count, body, owner, size_of, CallFor, Halts, Stops}
use Rattle.iso_wire.specs.Walking.{place_of, length_under, body_under, ahead_of, IsReached, Passes, PassesAhead, Spans, cause_after, walk_of, IsWalking}
use Rattle.iso_wire.specs.declared.fault.UnpackCause.{UnpackCause}
use Rattle.iso_wire.specs.declared.fault.UnpackFault.{UnpackFault}
use Rattle.iso_wire.specs.declared.judging.ResumePoint.{ResumePoint}
use Rattle.iso_wire.specs.declared.pieces.Span.{Span}
use Rattle.iso_wire.proofs.WalkPlaces.{reached_stands}

-- ---- under the row of an element

pub length_under_row : (t : Layout) (b : List ℕ) (n : ℕ) (s : FieldSpec) (at : ℕ) (r : Result ResumePoint UnpackFault) → row_at t.rows n ≡ Some s → Passes t b (count n s) at r → PassesAhead t b (length_under n (row_at t.rows n)) at r
length_under_row t b n s at r row h = subst (λ (o : Option FieldSpec). PassesAhead t b (length_under n o) at r) (sym row) h

pub body_under_row : (t : Layout) (b : List ℕ) (n c : ℕ) (s : FieldSpec) (at : ℕ) (r : Result ResumePoint UnpackFault) → row_at t.rows n ≡ Some s → Passes t b (body n s c) at r → PassesAhead t b (body_under n c (row_at t.rows n)) at r
body_under_row t b n c s at r row h = subst (λ (o : Option FieldSpec). PassesAhead t b (body_under n c o) at r) (sym row) h

-- ---- a step of a walk

rank_few : (t : Layout) (b : List ℕ) (piece : Piece) → CallFor t b piece → rank piece < 600
rank_few t b type calls = omega arith
rank_few t b primary calls = omega arith
rank_few t b secondary calls = omega arith
rank_few t b (count n s) calls = omega (arith, calls.high)
rank_few t b (body n s c) calls = omega (arith, calls.2.high)

-- a piece ends where it is whole, or where the bytes end
end_is_told : (at size : ℕ) (b : List ℕ) → at ≤ length b → at + min size (length (drop at b)) ≡ min (at + size) (length b)
end_is_told at size b room =
    elim (cases_lt (length (drop at b)) size) [
      | inl short ↦
          let one : min size (length (drop at b)) ≡ length (drop at b) = min-eq_right (omega arith) in
          let two : min (at + size) (length b) ≡ length b = min-eq_right (omega (arith, length-drop at b)) in
          omega (arith, length-drop at b)
      | inr long ↦
          let one : min size (length (drop at b)) ≡ size = min-eq_left (omega arith) in
          let two : min (at + size) (length b) ≡ at + size = min-eq_left (omega (arith, length-drop at b)) in
          omega arith
    ]

abbrev fault_as : ℕ → ℕ → UnpackCause → UnpackFault
fault_as at element cause = record { at = at; element = element; cause = cause }

-- the piece stops the bytes
stops_there : (t : Layout) (b : List ℕ) (at : ℕ) (piece : Piece) (cause : UnpackCause) → at ≤ length b → CallFor t (take at b) piece → Halts t piece (drop at b) cause → Stops t b at (owner piece) cause
stops_there t b at piece cause room calls halts = record {
  pieces = take at b;
  rest = drop at b;
  bytes = sym (take-append-drop at b);
  place = sym (length-take-le at b room);
  piece = piece;
  calls = calls;
  whose = refl;
  halts = halts;
}

module _ (part_laws : PartLaws) (map_laws : MapLaws) (piece_laws : PieceLaws) where
  goes : (t : Layout) (b : List ℕ) (at : ℕ) (ahead : Ahead) (piece : Piece) (after : Result ResumePoint UnpackFault) → AreGood t.rows → AreBytes b → at ≤ length b → CallFor t (take at b) piece → Passes t b piece at after
      → Goes (record { table = t; bytes = b; at = at; ahead = ahead }) piece (cause_after after) (walk_of t b after) × IsWalking t b after × (left_of (walk_of t b after).ahead < 600 - rank piece)
  goes t b at ahead piece (Ok point) good bytes room calls h =
      let stands = reached_stands part_laws map_laws piece_laws t b point good bytes h.0 in
      let place : walk_of t b (Ok point) ≡ record { table = t; bytes = b; at = at + size_of t piece; ahead = ahead_of t point } = ap (λ (k : ℕ). walk_at k) h.1 in
      ((place, stands), h.0, h.2)
    where
      walk_at : ℕ → Walk
      walk_at k = record { table = t; bytes = b; at = k; ahead = ahead_of t point }
  goes t b at ahead piece (Err e) good bytes room calls h =
      let cause = e.cause in
      let stops = stops_there t b at piece cause room calls h.2 in
      let is : e ≡ fault_as at (owner piece) cause = ap (λ (k : ℕ). fault_as k e.element cause) h.0 ∙ ap (λ (n : ℕ). fault_as at n cause) h.1 in
      let few = rank_few t (take at b) piece calls in
      subst (λ (f : UnpackFault). Goes (record { table = t; bytes = b; at = at; ahead = ahead }) piece (Some f.cause) (walk_of t b (Err f)) × IsWalking t b (Err f) × (0 < 600 - rank piece)) (sym is)
      ((h.2, stops, refl), (room, stops), omega arith)

  pub steps : (t : Layout) (b : List ℕ) (point : ResumePoint) (piece : Piece) (span : Span) (end : ℕ) (after : Result ResumePoint UnpackFault) → AreGood t.rows → AreBytes b → IsReached t b point → ahead_of t point ≡ next piece → Spans t piece (place_of t point) span
      → end ≡ span.start + min span.size (length (drop span.start b)) → PassesAhead t b (ahead_of t point) (place_of t point) after
      → Steps (walk_of t b (Ok point)) (record { kind = span.kind; element = span.element; start = span.start; end = end; fault = cause_after after }) (walk_of t b after) × IsWalking t b after × (left_of (walk_of t b after).ahead < left_of (ahead_of t point))
  steps t b point piece span end after good bytes reached ahead spans ends passes =
      let at = place_of t point in
      let stands = reached_stands part_laws map_laws piece_laws t b point good bytes reached in
      let calls : CallFor t (take at b) piece = subst (StandsBefore t b at) ahead stands.1 in
      let passed : Passes t b piece at after = subst (λ (a : Ahead). PassesAhead t b a at after) ahead passes in
      let went = goes t b at (ahead_of t point) piece after good bytes stands.0 calls passed in
      let told_end : end ≡ min (at + size_of t piece) (length b) =
      ends ∙ ap (λ (k : ℕ). k + min span.size (length (drop k b))) spans.start ∙ ap (λ (k : ℕ). at + min k (length (drop at b))) spans.size ∙ end_is_told at (size_of t piece) b stands.0 in (
        record {
          piece = piece;
          ahead = ahead;
          calls = calls;
          tells = record { kind = spans.kind; element = spans.element; start = spans.start; end = told_end };
          goes = went.0;
        },
        went.1,
        subst (λ (a : Ahead). left_of (walk_of t b after).ahead < left_of a) (sym ahead) went.2,
      )
