-- Reading gives a fault exactly where the bytes stop.
use Rattle.std.proofs.Common.{◌≡◌, ℕ, ◌+◌, ◌≤◌, Bool, true, false, ◌&&◌, cond, ltb, List, [], ◌∷◌, ◌++◌, length, take, drop, Some, Result, Ok, Err, refl, sym, ap, subst, ◌∙◌, append_assoc, arith, inl, inr}
use Rattle.std.proofs.lemmas.Bool.{ltb-false, le-ltb, cond-false}
use Rattle.std.proofs.lemmas.List.{take_at, drop_at, drop-drop, length-append, length-take, take-append-drop}
use Rattle.iso_parts.specs.declared.spec.FieldSpec.{FieldSpec}
use Rattle.iso_parts.specs.Bitmap.{map_size, in_words}
use Rattle.iso_parts.specs.BitmapReading.{top}
use Rattle.iso_parts.specs.MapLaws.{MapLaws}
use Rattle.iso_parts.specs.PartLaws.{PartLaws}
use Rattle.iso_parts.specs.PieceLaws.{PieceLaws}
use Rattle.iso_parts.specs.Reading.{prefix_size}
use Rattle.iso_table.specs.Layout.{Layout, row_at, AreGood}
use Rattle.iso_wire.specs.declared.fault.UnpackFault.{UnpackFault}
use Rattle.iso_wire.specs.declared.fault.UnpackCause.{UnpackCause}
use Rattle.iso_wire.specs.Contents.{Contents}
use Rattle.iso_parts.specs.Numbers.{numbers_in}
use Rattle.iso_parts.specs.Mti.{mti_size}
use Rattle.iso_wire.proofs.NumberLaws.{numbers_agree}
use Rattle.iso_wire.specs.Reading.{◌>>=◌, halt, type_at, primary_at, secondary_at, words_by, words_at, value_by, value_at, elements_at, message_at}
use Rattle.iso_wire.specs.Spelling.{AreBytes}
use Rattle.iso_wire.specs.Stops.{Piece, type, primary, secondary, count, body, owner, IsOwnType, below, IsBefore, CallFor, Halts, Stops}
use Rattle.iso_wire.specs.StopsLaws.{StopsAsRead}
use Rattle.iso_wire.proofs.Bytes.{bytes_take, bytes_drop}
use Rattle.iso_wire.proofs.Messages.{type_again}
use Rattle.iso_wire.proofs.Orders.{numbers_of, Values}
use Rattle.iso_wire.proofs.Readings.{made, words, behind_maps, behind_type, message_is}
use Rattle.iso_wire.proofs.Sets.{made_from_set, numbers_from_set}
use Rattle.iso_wire.proofs.StopsHalted.{primary_is_halted, secondary_is_halted, first_of_two_read, good_maps_read, primary_taken, all_rows}
use Rattle.iso_wire.proofs.StopsMaps.{fault_is, fault_at, HaltsAs, TypeTaken, type_halts, type_taken, type_is_halted, primary_halts, secondary_halts}
use Rattle.iso_wire.proofs.StopsNumbers.{behind_below, is_split, some_is}
use Rattle.iso_wire.proofs.StopsParts.{value_halts, count_is_halted, body_is_halted, elements_halt, elements_are_halted}
use Rattle.iso_wire.proofs.Types.{length-four_digits_of}
use Rattle.iso_wire.proofs.WordLaws.{words_taken}

-- ---- the readings, one after another

at_type : (t : Layout) (b : List ℕ) (e : UnpackFault) → type_at t b ≡ Err e → message_at t b ≡ Err e
at_type t b e h = message_is t b ∙ ap (λ r. r >>= behind_type t b) h

at_maps : (t : Layout) (b : List ℕ) (mti : ℕ) (e : UnpackFault) → type_at t b ≡ Ok mti → words_at t (mti_size t.mti) (drop (mti_size t.mti) b) ≡ Err e → message_at t b ≡ Err e
at_maps t b mti e one h = message_is t b ∙ ap (λ r. r >>= behind_type t b) one ∙ ap (λ r. r >>= behind_maps t b mti) h

at_elements : (t : Layout) (b : List ℕ) (mti : ℕ) (w : ℕ × ℕ × ℕ) (e : UnpackFault) → type_at t b ≡ Ok mti → words_at t (mti_size t.mti) (drop (mti_size t.mti) b) ≡ Ok w
    → elements_at t.rows (numbers_in w.0 w.1) (mti_size t.mti + w.2) (drop (mti_size t.mti + w.2) b) ≡ Err e → message_at t b ≡ Err e
at_elements t b mti w e one two h = message_is t b ∙ ap (λ r. r >>= behind_type t b) one ∙ ap (λ r. r >>= behind_maps t b mti) two ∙ ap (λ r. r >>= made mti) h

made_err : (mti : ℕ) (r : Result (Values × ℕ) UnpackFault) (e : UnpackFault) → r >>= made mti ≡ Err e → r ≡ Err e
made_err mti (Ok x) e h = absurd cc
made_err mti (Err f) e h = ap Err (fault_is {A = Contents × ℕ} f e h)

-- ---- where reading gives a fault the bytes stop

abbrev StopsAt : Layout → List ℕ → UnpackFault → Type 0
StopsAt t b e = Stops t b e.at e.element e.cause

stops_at : (t : Layout) (b pieces rest : List ℕ) (at : ℕ) (piece : Piece) (e : UnpackFault) → b ≡ pieces ++ rest → at ≡ length pieces → CallFor t pieces piece → HaltsAs t piece at rest e → StopsAt t b e
stops_at t b pieces rest at piece e split place calls h =
    subst (StopsAt t b) h.1 (record { pieces = pieces; rest = rest; bytes = split; place = place; piece = piece; calls = calls; whose = refl; halts = h.2 })

length-front : (n : ℕ) (b : List ℕ) → n ≤ length b → n ≡ length (take n b)
length-front n b room = omega (arith, length-take n b)

module _ (part_laws : PartLaws) (map_laws : MapLaws) (piece_laws : PieceLaws) where
  second_stops : (c : Bool) (t : Layout) (b : List ℕ) (w : ℕ) (e : UnpackFault) → AreBytes b → TypeTaken t b → primary_at t (mti_size t.mti) (drop (mti_size t.mti) b) ≡ Ok w → ltb w top ≡ c
      → cond c (words w 0 (map_size t.bitmap)) (secondary_at t (mti_size t.mti + map_size t.bitmap) (drop (map_size t.bitmap) (drop (mti_size t.mti) b)) >>= λ second. words w second (map_size t.bitmap + map_size t.bitmap)) ≡ Err e → StopsAt t b e
  second_stops true t b w e bytes typed read is h = absurd cc
  second_stops false t b w e bytes typed read is h =
      let size = mti_size t.mti in
      let n = map_size t.bitmap in
      let behind : List ℕ = drop size b in
      let first = primary_taken map_laws t size behind w (bytes_drop size b bytes) read in
      let halts = secondary_halts map_laws t (size + n) (drop n behind) e (bytes_drop n behind (bytes_drop size b bytes)) (second_err (secondary_at t (size + n) (drop n behind)) h) in
      let split : b ≡ (take size b ++ take n behind) ++ drop n behind =
      sym (append_assoc (take size b) (take n behind) (drop n behind) ∙ ap (λ (l : List ℕ). take size b ++ l) (take-append-drop n behind) ∙ take-append-drop size b) in
      let place : size + n ≡ length (take size b ++ take n behind) = omega (arith, length-append (take size b) (take n behind), length-front size b typed.room, length-front n behind first.room) in
      stops_at t b (take size b ++ take n behind) (drop n behind) (size + n) secondary e split place (take size b, take n behind, typed.own, first.primary (ltb-false w top is), refl) halts
    where
      second_err : (r : Result ℕ UnpackFault) → r >>= (λ second. words w second (map_size t.bitmap + map_size t.bitmap)) ≡ Err e → r ≡ Err e
      second_err (Ok x) h = absurd cc
      second_err (Err f) h = ap Err (fault_is {A = ℕ × ℕ × ℕ} f e h)

  primary_stops : (r : Result ℕ UnpackFault) (t : Layout) (b : List ℕ) (e : UnpackFault) → AreBytes b → TypeTaken t b → primary_at t (mti_size t.mti) (drop (mti_size t.mti) b) ≡ r
      → r >>= words_by t (mti_size t.mti) (drop (mti_size t.mti) b) ≡ Err e → StopsAt t b e
  primary_stops (Err f) t b e bytes typed is h =
      let size = mti_size t.mti in
      let halts = primary_halts map_laws t size (drop size b) e (bytes_drop size b bytes) (is ∙ ap Err (fault_is {A = ℕ × ℕ × ℕ} f e h)) in
      stops_at t b (take size b) (drop size b) size primary e (sym (take-append-drop size b)) (length-front size b typed.room) typed.own halts
  primary_stops (Ok w) t b e bytes typed is h = second_stops (ltb w top) t b w e bytes typed is refl h

  element_stops : (t : Layout) (b : List ℕ) (w : ℕ × ℕ × ℕ) (e : UnpackFault) → AreGood t.rows → AreBytes b → TypeTaken t b → words_at t (mti_size t.mti) (drop (mti_size t.mti) b) ≡ Ok w
      → elements_at t.rows (numbers_in w.0 w.1) (mti_size t.mti + w.2) (drop (mti_size t.mti + w.2) b) ≡ Err e → StopsAt t b e
  element_stops t b w e good bytes typed read h =
      let size = mti_size t.mti in
      let set = in_words w.0 w.1 in
      let behind : List ℕ = drop size b in
      let start = size + w.2 in
      let elements : List ℕ = drop start b in
      let mapped = words_taken map_laws t size behind w (bytes_drop size b bytes) read in
      let rows = all_rows map_laws t size behind w (bytes_drop size b bytes) read in
      let halted = elements_halt part_laws t.rows (numbers_in w.0 w.1) start elements e good (bytes_drop start b bytes) h in
      let n = halted.n in
      let split = is_split set 127 2 n (numbers_of halted.earlier) halted.others halted.split in
      let is_made = made_from_set (below n set) halted.earlier (ap (λ (x : Bool). x && ltb 65 n) mapped.no_65) split.before in
      let row = some_is (row_at t.rows n) (rows n split.from split.to split.here) in
      let s : FieldSpec = row.0 in
      let rest : List ℕ = drop halted.used elements in
      let at = start + halted.used in
      let mti : List ℕ = take size b in
      let maps : List ℕ = take w.2 behind in
      let parts : List ℕ = take halted.used elements in
      let before : List ℕ = mti ++ (maps ++ parts) in
      let is_before : IsBefore t n s before = record {
        set = set;
        earlier = halted.earlier;
        mti = mti;
        maps = maps;
        parts = parts;
        bytes = refl;
        own_type = typed.own;
        good_maps = record { two = mapped.two; bitmaps = mapped.maps; no_third = mapped.no_65; rows = rows };
        low = split.from;
        high = omega (arith, split.to);
        there = split.here;
        row = row.1;
        ascending = is_made.ascending;
        numbers = is_made.agrees;
        elements = halted.parts;
      } in
      let place : at ≡ length before =
      omega (arith, length-append mti (maps ++ parts), length-append maps parts, length-front size b typed.room, length-front w.2 behind mapped.room, length-front halted.used elements halted.room) in
      let inner : elements ≡ drop w.2 behind = sym (drop-drop w.2 size b) in
      let joined : before ++ rest ≡ b =
      append_assoc mti (maps ++ parts) rest
      ∙ ap (λ (l : List ℕ). mti ++ l) (append_assoc maps parts rest ∙ ap (λ (l : List ℕ). maps ++ l) (take-append-drop halted.used elements ∙ inner) ∙ take-append-drop w.2 behind)
      ∙ take-append-drop size b in
      let value : value_by (Some s) n at rest ≡ Err e = ap (λ r. value_by r n at rest) (sym row.1) ∙ halted.halts in
      elim (value_halts piece_laws t n s at rest e (good n s row.1) (bytes_drop halted.used elements (bytes_drop start b bytes)) value) [
        | inl halts ↦ stops_at t b before rest at (count n s) e (sym joined) place is_before halts
        | inr part ↦
            let front = prefix_size s.length in
            let p : List ℕ = take front rest in
            let behind_count : (before ++ p) ++ drop front rest ≡ b = append_assoc before p (drop front rest) ∙ ap (λ (l : List ℕ). before ++ l) (take-append-drop front rest) ∙ joined in
            let further : at + front ≡ length (before ++ p) = omega (arith, length-append before p, place, length-front front rest part.room) in
            stops_at t b (before ++ p) (drop front rest) (at + front) (body n s part.chars) e (sym behind_count) further (before, p, is_before, part.count, part.most, refl) part.halts
      ]

  maps_stop : (r : Result (ℕ × ℕ × ℕ) UnpackFault) (t : Layout) (b : List ℕ) (mti : ℕ) (e : UnpackFault) → AreGood t.rows → AreBytes b → TypeTaken t b → words_at t (mti_size t.mti) (drop (mti_size t.mti) b) ≡ r → r >>= behind_maps t b mti ≡ Err e → StopsAt t b e
  maps_stop (Err f) t b mti e good bytes typed is h =
      let size = mti_size t.mti in
      primary_stops (primary_at t size (drop size b)) t b e bytes typed refl (is ∙ ap Err (fault_is {A = Contents × ℕ} f e h))
  maps_stop (Ok w) t b mti e good bytes typed is h =
      let start = mti_size t.mti + w.2 in
      element_stops t b w e good bytes typed is (made_err mti (elements_at t.rows (numbers_in w.0 w.1) start (drop start b)) e h)

  type_stops : (r : Result ℕ UnpackFault) (t : Layout) (b : List ℕ) (e : UnpackFault) → AreGood t.rows → AreBytes b → type_at t b ≡ r → r >>= behind_type t b ≡ Err e → StopsAt t b e
  type_stops (Err f) t b e good bytes is h = stops_at t b [] b 0 type e refl refl refl (type_halts t b e bytes (is ∙ ap Err (fault_is {A = Contents × ℕ} f e h)))
  type_stops (Ok mti) t b e good bytes is h =
      let size = mti_size t.mti in
      maps_stop (words_at t size (drop size b)) t b mti e good bytes (type_taken t b mti bytes is) refl h

  fault_stops : (t : Layout) (b : List ℕ) (e : UnpackFault) → AreGood t.rows → AreBytes b → message_at t b ≡ Err e → StopsAt t b e
  fault_stops t b e good bytes h = type_stops (type_at t b) t b e good bytes refl (sym (message_is t b) ∙ h)

-- ---- where the bytes stop reading gives the fault

bytes_front : (a b : List ℕ) → AreBytes (a ++ b) → AreBytes a
bytes_front a b bytes = subst AreBytes (take_at a b (length a) refl) (bytes_take (length a) (a ++ b) bytes)

bytes_back : (a b : List ℕ) → AreBytes (a ++ b) → AreBytes b
bytes_back a b bytes = subst AreBytes (drop_at a b (length a) refl) (bytes_drop (length a) (a ++ b) bytes)

record OwnTypeRead (t : Layout) (p : List ℕ) : Type 0 where
  pub mti : ℕ
  pub size : length p ≡ mti_size t.mti
  pub read : (rest : List ℕ) → type_at t (p ++ rest) ≡ Ok mti

own_type_read : (t : Layout) (p : List ℕ) → IsOwnType t p → OwnTypeRead t p
own_type_read t p own = record {
  mti = own.0;
  size = ap length own.1.1 ∙ length-four_digits_of t.mti own.0;
  read = λ rest. ap (λ (l : List ℕ). type_at t (l ++ rest)) own.1.1 ∙ type_again t own.0 rest own.1.0 own.2;
}

abbrev whole_halt : ℕ → ℕ → UnpackCause → Result (Contents × ℕ) UnpackFault
whole_halt element at cause = halt element at cause

module _ (part_laws : PartLaws) (map_laws : MapLaws) (piece_laws : PieceLaws) where
  -- the element before which the pieces end stops reading
  before_halts : (t : Layout) (n : ℕ) (s : FieldSpec) (b rest : List ℕ) (e : UnpackFault) → AreGood t.rows → AreBytes (b ++ rest) → IsBefore t n s b → value_by (Some s) n (length b) rest ≡ Err e → message_at t (b ++ rest) ≡ Err e
  before_halts t n s b rest e good bytes before h =
      let size = mti_size t.mti in
      let mti : List ℕ = before.mti in
      let maps : List ℕ = before.maps in
      let parts : List ℕ = before.parts in
      let behind : List ℕ = maps ++ (parts ++ rest) in
      let typed = own_type_read t mti before.own_type in
      let split : b ++ rest ≡ mti ++ behind = ap (λ (l : List ℕ). l ++ rest) before.bytes ∙ append_assoc mti (maps ++ parts) rest ∙ ap (λ (l : List ℕ). mti ++ l) (append_assoc maps parts rest) in
      let all : AreBytes (mti ++ behind) = subst AreBytes split bytes in
      let read = good_maps_read map_laws t before.set size maps (parts ++ rest) (bytes_front maps (parts ++ rest) (bytes_back mti behind all)) before.good_maps in
      let got : ℕ × ℕ × ℕ = (read.primary, read.secondary, length maps) in
      let after_type : drop size (mti ++ behind) ≡ behind = drop_at mti behind size typed.size in
      let after_maps : drop (size + length maps) (mti ++ behind) ≡ parts ++ rest = sym (drop-drop (length maps) size (mti ++ behind)) ∙ ap (drop (length maps)) after_type ∙ drop_at maps (parts ++ rest) (length maps) refl in
      let found = behind_below before.set 127 2 n before.low (omega (arith, before.high)) before.there in
      let ns : numbers_in read.primary read.secondary ≡ numbers_of before.earlier ++ n ∷ found.0 =
      numbers_agree (in_words read.primary read.secondary) before.set 127 2 (λ k from to. read.agrees k from (omega arith))
      ∙ found.1
      ∙ ap (λ (l : List ℕ). l ++ n ∷ found.0) (sym (numbers_from_set (below n before.set) before.earlier before.ascending (λ k from to. sym (before.numbers k from to)))) in
      let place : length b ≡ size + length maps + length parts = ap length before.bytes ∙ length-append mti (maps ++ parts) ∙ omega (arith, length-append maps parts, typed.size) in
      let value : value_at t.rows n (size + length maps + length parts) rest ≡ Err e = ap (λ r. value_by r n (size + length maps + length parts) rest) before.row ∙ ap (λ (k : ℕ). value_by (Some s) n k rest) (sym place) ∙ h in
      let elements : elements_at t.rows (numbers_in read.primary read.secondary) (size + length maps) (drop (size + length maps) (mti ++ behind)) ≡ Err e =
      ap (elements_at t.rows (numbers_in read.primary read.secondary) (size + length maps)) after_maps
      ∙ ap (λ (l : List ℕ). elements_at t.rows l (size + length maps) (parts ++ rest)) ns
      ∙ elements_are_halted part_laws t.rows before.earlier n found.0 (size + length maps) parts rest e good before.elements value in
      ap (message_at t) split ∙ at_elements t (mti ++ behind) typed.mti got e (typed.read behind) (ap (words_at t size) after_type ∙ read.read) elements

  piece_halts : (t : Layout) (piece : Piece) (b rest : List ℕ) (cause : UnpackCause) → AreGood t.rows → AreBytes (b ++ rest) → CallFor t b piece → Halts t piece rest cause → message_at t (b ++ rest) ≡ whole_halt (owner piece) (length b) cause
  piece_halts t type b rest cause good bytes calls h =
      ap (λ (l : List ℕ). message_at t (l ++ rest)) calls
      ∙ at_type t rest (fault_at 0 0 cause) (type_is_halted t rest cause (bytes_back b rest bytes) h)
      ∙ ap (λ (l : List ℕ). whole_halt 0 (length l) cause) (sym calls)
  piece_halts t primary b rest cause good bytes calls h =
      let size = mti_size t.mti in
      let typed = own_type_read t b calls in
      let read = primary_is_halted map_laws t size rest cause (bytes_back b rest bytes) h in
      at_maps t (b ++ rest) typed.mti (fault_at 0 size cause) (typed.read rest) (ap (words_at t size) (drop_at b rest size typed.size) ∙ ap (λ r. r >>= words_by t size rest) read)
      ∙ ap (λ (k : ℕ). whole_halt 0 k cause) (sym typed.size)
  piece_halts t secondary b rest cause good bytes calls h =
      let size = mti_size t.mti in
      let n = map_size t.bitmap in
      let mti : List ℕ = calls.0 in
      let first : List ℕ = calls.1 in
      let behind : List ℕ = first ++ rest in
      let typed = own_type_read t mti calls.2 in
      let split : b ++ rest ≡ mti ++ behind = ap (λ (l : List ℕ). l ++ rest) calls.4 ∙ append_assoc mti first rest in
      let all : AreBytes (mti ++ behind) = subst AreBytes split bytes in
      let one = first_of_two_read map_laws t first (bytes_front first rest (bytes_back mti behind all)) calls.3 in
      let read = secondary_is_halted map_laws t (size + n) rest cause (bytes_back b rest bytes) h in
      let both : Result (ℕ × ℕ × ℕ) UnpackFault = secondary_at t (size + n) (drop n behind) >>= λ second. words one.word second (n + n) in
      let maps : words_at t size behind ≡ Err (fault_at 1 (size + n) cause) =
      ap (λ r. r >>= words_by t size behind) (one.read size rest)
      ∙ cond-false (ltb one.word top) (words one.word 0 n) both (le-ltb one.word top one.large)
      ∙ ap (λ (l : List ℕ). secondary_at t (size + n) l >>= λ second. words one.word second (n + n)) (drop_at first rest n one.size)
      ∙ ap (λ r. r >>= λ second. words one.word second (n + n)) read in
      let place : size + n ≡ length b = sym (ap length calls.4 ∙ length-append mti first ∙ omega (arith, typed.size, one.size)) in
      ap (message_at t) split
      ∙ at_maps t (mti ++ behind) typed.mti (fault_at 1 (size + n) cause) (typed.read behind) (ap (words_at t size) (drop_at mti behind size typed.size) ∙ maps)
      ∙ ap (λ (k : ℕ). whole_halt 1 k cause) place
  piece_halts t (count n s) b rest cause good bytes calls h =
      before_halts t n s b rest (fault_at n (length b) cause) good bytes calls (count_is_halted piece_laws t n s (length b) rest cause (good n s calls.row) (bytes_back b rest bytes) h)
  piece_halts t (body n s c) b rest cause good bytes calls h =
      let before : List ℕ = calls.0 in
      let p : List ℕ = calls.1 in
      let split : b ++ rest ≡ before ++ (p ++ rest) = ap (λ (l : List ℕ). l ++ rest) calls.5 ∙ append_assoc before p rest in
      let all : AreBytes (before ++ (p ++ rest)) = subst AreBytes split bytes in
      let place : length before + length p ≡ length b = sym (ap length calls.5 ∙ length-append before p) in
      let value = body_is_halted piece_laws t n s c (length before) p rest cause (good n s calls.2.row) (bytes_front p rest (bytes_back before (p ++ rest) all)) calls.3 calls.4 h in
      ap (message_at t) split
      ∙ before_halts t n s before (p ++ rest) (fault_at n (length before + length p) cause) good all calls.2 value
      ∙ ap (λ (k : ℕ). whole_halt n k cause) place

  pub stops_as_read : StopsAsRead
  stops_as_read t b at element cause good bytes = (
    fault_stops part_laws map_laws piece_laws t b (fault_at element at cause) good bytes,
    (λ stops.
        ap (message_at t) stops.bytes
        ∙ piece_halts t stops.piece stops.pieces stops.rest cause good (subst AreBytes stops.bytes bytes) stops.calls stops.halts
        ∙ ap (λ (k : ℕ). whole_halt k (length stops.pieces) cause) (sym stops.whose)
        ∙ ap (λ (k : ℕ). whole_halt element k cause) (sym stops.place)),
  )
