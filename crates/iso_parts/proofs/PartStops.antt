-- Reading says that bytes are missing exactly where they end inside a part, and gives a fault exactly where a piece is bad.
use Rattle.std.proofs.Common.{◌≡◌, ℕ, ◌+◌, ◌≤◌, ◌<◌, Bool, true, false, cond, ltb, List, [], ◌++◌, length, take, drop, Result, Ok, Err, refl, sym, ap, subst, ◌∙◌, arith}
use Rattle.std.specs.Prelude.{◌↔◌}
use Rattle.std.proofs.lemmas.Bool.{ltb-true, ltb-false, lt-ltb, le-ltb, cond-true, cond-false}
use Rattle.std.proofs.lemmas.List.{length-append, length-take, length-drop, take_at, drop_at, take-append-drop}
use Rattle.hex.specs.Hex.{IsBytes}
use Rattle.iso_parts.specs.declared.prefix.Length.{Length}
use Rattle.iso_parts.specs.declared.prefix.Length.TheVariants as lengths
use Rattle.iso_parts.specs.declared.spec.FieldSpec.{FieldSpec}
use Rattle.iso_parts.specs.declared.fault.FieldFault.{FieldFault}
use Rattle.iso_parts.specs.declared.field.Step.{Step}
use Rattle.iso_parts.specs.declared.field.Step.TheVariants as steps
use Rattle.iso_parts.specs.declared.judging.Judged.{Judged}
use Rattle.iso_parts.specs.declared.judging.Judged.TheVariants as judgements
use Rattle.iso_parts.specs.Judging.{Judges}
use Rattle.iso_parts.specs.PartStops.{PartPiece, count, body, piece_size, ArePiecesBefore, IsBadPiece, EndsInPart, IsBadPart, StopsPart}
use Rattle.iso_parts.specs.Pieces.{TellsCount}
use Rattle.iso_parts.specs.Reading.{prefix_size, prefix_of, body_size, body_of, got, more, fault, at_body, at_prefix, part_at, Reads}
use Rattle.iso_parts.specs.Spec.{IsGood}
use Rattle.iso_parts.proofs.BitmapLaws.{bytes_take}
use Rattle.iso_parts.proofs.Parts.{length-prefix}
use Rattle.iso_parts.proofs.PieceLaws.{piece_laws}

-- ---- what reading stops at is so

-- a good length that is read
told : (s : FieldSpec) (c : ℕ) (b : List ℕ) → IsGood s → IsBytes b → prefix_size s.length ≤ length b → prefix_of s (take (prefix_size s.length) b) ≡ Ok c → ArePiecesBefore s (body c) (take (prefix_size s.length) b)
told s c b good bytes room read =
    let front = prefix_size s.length in
    (piece_laws.count s c (take front b) good (bytes_take front b bytes) (omega (arith, length-take front b, room))).0 read

body_missing : (t : Bool) (k : ℕ) (r : Result (List ℕ) FieldFault) → cond t more (at_body k r) ≡ more → t ≡ true
body_missing true k r e = refl
body_missing false k (Ok v) e = absurd cc
body_missing false k (Err d) e = absurd cc

missing_behind : (s : FieldSpec) (b : List ℕ) (r : Result ℕ FieldFault) → prefix_of s (take (prefix_size s.length) b) ≡ r → IsGood s → IsBytes b → prefix_size s.length ≤ length b → at_prefix s b r ≡ more → EndsInPart s b
missing_behind s b (Err d) is good bytes room e = absurd cc
missing_behind s b (Ok c) is good bytes room e =
    let front = prefix_size s.length in
    let size = body_size s.coding c in
    let few = ltb-true (length b) (front + size) (body_missing (ltb (length b) (front + size)) (front + size) (body_of s c (take size (drop front b))) e) in
    record {
      pieces = take front b;
      rest = drop front b;
      bytes = sym (take-append-drop front b);
      piece = body c;
      before = told s c b good bytes room is;
      short = omega (arith, length-drop front b, few, room);
    }

missing_by : (s : FieldSpec) (b : List ℕ) (t : Bool) → ltb (length b) (prefix_size s.length) ≡ t → IsGood s → IsBytes b → cond t more (at_prefix s b (prefix_of s (take (prefix_size s.length) b))) ≡ more → EndsInPart s b
missing_by s b true is good bytes e = record { pieces = []; rest = b; bytes = refl; piece = count; before = refl; short = ltb-true (length b) (prefix_size s.length) is }
missing_by s b false is good bytes e = missing_behind s b (prefix_of s (take (prefix_size s.length) b)) refl good bytes (ltb-false (length b) (prefix_size s.length) is) e

ends_in_part : (s : FieldSpec) (b : List ℕ) → IsGood s → IsBytes b → part_at s b ≡ more → EndsInPart s b
ends_in_part s b good bytes e = missing_by s b (ltb (length b) (prefix_size s.length)) refl good bytes e

body_bad : (t : Bool) (k : ℕ) (r : Result (List ℕ) FieldFault) (e : FieldFault) → cond t more (at_body k r) ≡ fault e → (t ≡ false) × (r ≡ Err e)
body_bad true k r e h = absurd cc
body_bad false k (Ok v) e h = absurd cc
body_bad false k (Err d) e h = let same : d ≡ e = cc in (refl, ap Err same)

bad_behind : (s : FieldSpec) (b : List ℕ) (r : Result ℕ FieldFault) (e : FieldFault) → prefix_of s (take (prefix_size s.length) b) ≡ r → IsGood s → IsBytes b → prefix_size s.length ≤ length b → at_prefix s b r ≡ fault e → IsBadPart s b e
bad_behind s b (Err d) e is good bytes room h =
    let front = prefix_size s.length in
    let same : d ≡ e = cc in
    record {
      pieces = [];
      rest = b;
      bytes = refl;
      piece = count;
      before = refl;
      whole = room;
      bad = (piece_laws.bad_count s e (take front b) good (bytes_take front b bytes) (omega (arith, length-take front b, room))).0 (is ∙ ap Err same);
    }
bad_behind s b (Ok c) e is good bytes room h =
    let front = prefix_size s.length in
    let size = body_size s.coding c in
    let rest : List ℕ = drop front b in
    let was = body_bad (ltb (length b) (front + size)) (front + size) (body_of s c (take size rest)) e h in
    let enough = ltb-false (length b) (front + size) was.0 in
    let whole : size ≤ length rest = omega (arith, length-drop front b, enough) in
    record {
      pieces = take front b;
      rest = rest;
      bytes = sym (take-append-drop front b);
      piece = body c;
      before = told s c b good bytes room is;
      whole = whole;
      bad = (piece_laws.bad_body s c e (take size rest) (omega (arith, length-take size rest, whole))).0 was.1;
    }

bad_by : (s : FieldSpec) (b : List ℕ) (t : Bool) (e : FieldFault) → ltb (length b) (prefix_size s.length) ≡ t → IsGood s → IsBytes b → cond t more (at_prefix s b (prefix_of s (take (prefix_size s.length) b))) ≡ fault e → IsBadPart s b e
bad_by s b true e is good bytes h = absurd cc
bad_by s b false e is good bytes h = bad_behind s b (prefix_of s (take (prefix_size s.length) b)) e refl good bytes (ltb-false (length b) (prefix_size s.length) is) h

is_bad_part : (s : FieldSpec) (b : List ℕ) (e : FieldFault) → IsGood s → IsBytes b → part_at s b ≡ fault e → IsBadPart s b e
is_bad_part s b e good bytes h = bad_by s b (ltb (length b) (prefix_size s.length)) e refl good bytes h

-- ---- where bytes stop, reading does

length_told : (k : Length) (max c : ℕ) (p : List ℕ) → TellsCount k max c p → length p ≡ prefix_size k
length_told lengths.Fixed max c p h = ap length h.0
length_told (lengths.LL d) max c p h = ap length h.1 ∙ length-prefix (lengths.LL d) c
length_told (lengths.LLL d) max c p h = ap length h.1 ∙ length-prefix (lengths.LLL d) c
length_told (lengths.LLLL d) max c p h = ap length h.1 ∙ length-prefix (lengths.LLLL d) c

front_bytes : (p rest : List ℕ) → IsBytes (p ++ rest) → IsBytes p
front_bytes p rest bytes = subst IsBytes (take_at p rest (length p) refl) (bytes_take (length p) (p ++ rest) bytes)

-- behind a good length the body is read
length_read : (s : FieldSpec) (c : ℕ) (p rest : List ℕ) → IsGood s → IsBytes (p ++ rest) → length p ≡ prefix_size s.length → ArePiecesBefore s (body c) p → part_at s (p ++ rest) ≡ at_prefix s (p ++ rest) (Ok c)
length_read s c p rest good bytes len before =
    let front = prefix_size s.length in
    let b : List ℕ = p ++ rest in
    let read = (piece_laws.count s c p good (front_bytes p rest bytes) len).1 before in
    cond-false (ltb (length b) front) more (at_prefix s b (prefix_of s (take front b))) (le-ltb (length b) front (omega (arith, length-append p rest, len)))
    ∙ ap (λ (l : List ℕ). at_prefix s b (prefix_of s l)) (take_at p rest front len)
    ∙ ap (at_prefix s b) read

is_missing : (s : FieldSpec) (piece : PartPiece) (p rest : List ℕ) → IsGood s → IsBytes (p ++ rest) → ArePiecesBefore s piece p → length rest < piece_size s piece → part_at s (p ++ rest) ≡ more
is_missing s count p rest good bytes before short =
    let front = prefix_size s.length in
    subst (λ (l : List ℕ). part_at s (l ++ rest) ≡ more) (sym before) (cond-true (ltb (length rest) front) more (at_prefix s rest (prefix_of s (take front rest))) (lt-ltb (length rest) front short))
is_missing s (body c) p rest good bytes before short =
    let front = prefix_size s.length in
    let size = body_size s.coding c in
    let b : List ℕ = p ++ rest in
    let len = length_told s.length s.max c p before.0 in
    length_read s c p rest good bytes len before
    ∙ cond-true (ltb (length b) (front + size)) more (at_body (front + size) (body_of s c (take size (drop front b)))) (lt-ltb (length b) (front + size) (omega (arith, length-append p rest, len, short)))

pub missing_again : (s : FieldSpec) (b : List ℕ) → IsGood s → IsBytes b → EndsInPart s b → part_at s b ≡ more
missing_again s b good bytes h = subst (λ (l : List ℕ). part_at s l ≡ more) (sym h.bytes) (is_missing s h.piece h.pieces h.rest good (subst IsBytes h.bytes bytes) h.before h.short)

is_refused : (s : FieldSpec) (piece : PartPiece) (p rest : List ℕ) (e : FieldFault) → IsGood s → IsBytes (p ++ rest) → ArePiecesBefore s piece p → piece_size s piece ≤ length rest → IsBadPiece s piece (take (piece_size s piece) rest) e → part_at s (p ++ rest) ≡ fault e
is_refused s count p rest e good bytes before whole bad =
    let front = prefix_size s.length in
    let all : IsBytes rest = subst (λ (l : List ℕ). IsBytes (l ++ rest)) before bytes in
    let read = (piece_laws.bad_count s e (take front rest) good (bytes_take front rest all) (omega (arith, length-take front rest, whole))).1 bad in
    subst (λ (l : List ℕ). part_at s (l ++ rest) ≡ fault e) (sym before) (
    cond-false (ltb (length rest) front) more (at_prefix s rest (prefix_of s (take front rest))) (le-ltb (length rest) front whole)
    ∙ ap (at_prefix s rest) read)
is_refused s (body c) p rest e good bytes before whole bad =
    let front = prefix_size s.length in
    let size = body_size s.coding c in
    let b : List ℕ = p ++ rest in
    let len = length_told s.length s.max c p before.0 in
    let read = (piece_laws.bad_body s c e (take size rest) (omega (arith, length-take size rest, whole))).1 bad in
    length_read s c p rest good bytes len before
    ∙ cond-false (ltb (length b) (front + size)) more (at_body (front + size) (body_of s c (take size (drop front b)))) (le-ltb (length b) (front + size) (omega (arith, length-append p rest, len, whole)))
    ∙ ap (λ (l : List ℕ). at_body (front + size) (body_of s c (take size l))) (drop_at p rest front len)
    ∙ ap (at_body (front + size)) read

pub refused_again : (s : FieldSpec) (b : List ℕ) (e : FieldFault) → IsGood s → IsBytes b → IsBadPart s b e → part_at s b ≡ fault e
refused_again s b e good bytes h = subst (λ (l : List ℕ). part_at s l ≡ fault e) (sym h.bytes) (is_refused s h.piece h.pieces h.rest e good (subst IsBytes h.bytes bytes) h.before h.whole h.bad)

-- ---- what functions answer

pub step_stops : (s : FieldSpec) (b : List ℕ) (r : Result Step FieldFault) → IsGood s → IsBytes b → Reads r (part_at s b) → StopsPart s b r
step_stops s b (Ok (steps.Got value used)) good bytes h = tt
step_stops s b (Ok steps.More) good bytes h = ends_in_part s b good bytes h
step_stops s b (Err e) good bytes h = λ other. is_bad_part s b e good bytes (h other)

judged_more : (front : ℕ) (r : Result Judged FieldFault) → Judges front r more → r ≡ Ok judgements.More
judged_more front (Ok (judgements.Got start used)) h = absurd (let other : more ≡ got h.1.0 used = h.1.1 in cc)
judged_more front (Ok judgements.More) h = refl
judged_more front (Err e) h = absurd (let other : more ≡ fault e = h in cc)

judged_bad : (front : ℕ) (r : Result Judged FieldFault) (e : FieldFault) → Judges front r (fault e) → r ≡ Err e
judged_bad front (Ok (judgements.Got start used)) e h = absurd (let other : fault e ≡ got h.1.0 used = h.1.1 in cc)
judged_bad front (Ok judgements.More) e h = absurd (let other : fault e ≡ more = h in cc)
judged_bad front (Err d) e h = let other : fault e ≡ fault d = h in let same : d ≡ e = cc in ap Err same

pub judged_ends : (s : FieldSpec) (b : List ℕ) (front : ℕ) (r : Result Judged FieldFault) → IsGood s → IsBytes b → Judges front r (part_at s b) → (r ≡ Ok judgements.More) ↔ EndsInPart s b
judged_ends s b front r good bytes h = (
  λ is. ends_in_part s b good bytes (subst (λ (a : Result Judged FieldFault). Judges front a (part_at s b)) is h),
  λ ends. judged_more front r (subst (Judges front r) (missing_again s b good bytes ends) h),
)

pub judged_stops : (s : FieldSpec) (b : List ℕ) (front : ℕ) (r : Result Judged FieldFault) → IsGood s → IsBytes b → Judges front r (part_at s b) → (e : FieldFault) → (r ≡ Err e) ↔ IsBadPart s b e
judged_stops s b front r good bytes h e = (
  λ is. is_bad_part s b e good bytes (subst (λ (a : Result Judged FieldFault). Judges front a (part_at s b)) is h),
  λ bad. judged_bad front r e (subst (Judges front r) (refused_again s b e good bytes bad) h),
)
