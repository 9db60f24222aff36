-- A point that a walk over pieces has reached is where the grammar calls for its piece.
use Rattle.std.proofs.Common.{◌≡◌, ℕ, ◌+◌, ◌-◌, ◌*◌, ◌≤◌, ◌<◌, ◌&&◌, Bool, ltb, List, [], ◌∷◌, ◌++◌, length, take, drop, Option, Some, None, Ok, refl, sym, ap, subst, ◌∙◌, append_assoc, arith}
use Rattle.std.proofs.lemmas.Bool.{ltb-false}
use Rattle.std.proofs.lemmas.List.{length-drop, length-take, take-append-drop, append-nil}
use Rattle.std.proofs.Math.Seq.{take-add}
use Rattle.iso_parts.specs.Bitmap.{map_size, in_words}
use Rattle.iso_parts.specs.MapLaws.{MapLaws}
use Rattle.iso_parts.specs.Mti.{mti_size}
use Rattle.iso_parts.specs.Numbers.{numbers_in}
use Rattle.iso_parts.specs.PartLaws.{PartLaws}
use Rattle.iso_parts.specs.PieceLaws.{PieceLaws}
use Rattle.iso_parts.specs.Reading.{prefix_size, prefix_of}
use Rattle.iso_parts.specs.declared.spec.FieldSpec.{FieldSpec}
use Rattle.iso_parts.specs.Numbers.{members}
use Rattle.iso_table.specs.Layout.{Layout, row_at, AreGood}
use Rattle.iso_wire.specs.Contents.{Contents}
use Rattle.iso_wire.specs.Pieces.{StandsBefore, left_of}
use Rattle.iso_wire.specs.Reading.{◌>>=◌, elements_at, message_at}
use Rattle.iso_wire.specs.Reading as reading
use Rattle.iso_wire.specs.Spelling.{AreBytes, BeginsWith}
use Rattle.iso_wire.specs.Stops.{below, IsBefore}
use Rattle.iso_wire.specs.Walking.{place_of, length_under, length_ahead, body_under, ahead_of, IsFront, next_body, IsCounted, IsReached}
use Rattle.iso_wire.specs.declared.judging.ResumePoint.{ResumePoint}
use Rattle.iso_wire.specs.declared.judging.ResumePoint.TheVariants as points
use Rattle.iso_wire.proofs.Bytes.{bytes_take, bytes_drop}
use Rattle.iso_wire.proofs.ElementLaws.{elements_again}
use Rattle.iso_wire.proofs.Messages.{reads_spellings}
use Rattle.iso_wire.proofs.Orders.{numbers_of}
use Rattle.iso_wire.proofs.Sets.{made_from_set}
use Rattle.iso_wire.proofs.StopsHalted.{primary_taken, all_rows}
use Rattle.iso_wire.proofs.StopsMaps.{type_taken}
use Rattle.iso_wire.proofs.StopsNumbers.{is_split, some_is}
use Rattle.iso_wire.proofs.Wires.{Ascends, numbers_ascend}
use Rattle.iso_wire.proofs.WordLaws.{words_taken}
use Rattle.iso_wire.proofs.Readings.{message_is, made, behind_maps, behind_type, count_is}

-- ---- the numbers that are left

ascend_behind : (low n : ℕ) (xs ns : List ℕ) → Ascends low (xs ++ n ∷ ns) → (low ≤ n) × (n ≤ 128) × Ascends (n + 1) ns
ascend_behind low n [] ns h = h
ascend_behind low n (x ∷ xs) ns h =
    let rest = ascend_behind (x + 1) n xs ns h.2 in
    (omega (arith, h.0, rest.0), rest.1, rest.2)

pub front_ascends : (t : Layout) (n : ℕ) (ns : List ℕ) (at : ℕ) (b : List ℕ) → IsFront t (n ∷ ns) at b → (2 ≤ n) × (n ≤ 128) × Ascends (n + 1) ns
front_ascends t n ns at b front =
    ascend_behind 2 n (numbers_of front.earlier) ns (subst (Ascends 2) front.numbers (numbers_ascend (in_words front.words.0 front.words.1) 127 2 (omega arith)))

-- fewer pieces are left, where the numbers that are left begin above
fewer_under : (low n r : ℕ) (o : Option FieldSpec) → low ≤ n → r < 2 * low → r < 600 → left_of (length_under n o) < 600 - r
fewer_under low n r None from above few = omega arith
fewer_under low n r (Some s) from above few = omega arith

pub fewer : (rows : List (Option FieldSpec)) (low r : ℕ) (ns : List ℕ) → Ascends low ns → r < 2 * low → r < 600 → left_of (length_ahead rows ns) < 600 - r
fewer rows low r [] h above few = omega arith
fewer rows low r (n ∷ ns) h above few = fewer_under low n r (row_at rows n) h.0 above few

pub fewer_body : (n c : ℕ) (o : Option FieldSpec) → n ≤ 128 → left_of (body_under n c o) < 600 - 2 * n
fewer_body n c None few = omega arith
fewer_body n c (Some s) few = omega arith

-- ---- what was read is what the grammar calls for

front_room : (t : Layout) (ns : List ℕ) (at : ℕ) (b : List ℕ) → (map_laws : MapLaws) → AreBytes b → IsFront t ns at b → at ≤ length b
front_room t ns at b map_laws bytes front =
    let size = mti_size t.mti in
    let typed = type_taken t b front.mti bytes front.typed in
    let mapped = words_taken map_laws t size (drop size b) front.words (bytes_drop size b bytes) front.mapped in
    omega (arith, front.place, front.room, typed.room, mapped.room, length-drop size b, length-drop (size + front.words.2) b)

front_split : (size maps used at : ℕ) (b : List ℕ) → at ≡ size + maps + used → take at b ≡ take size b ++ (take maps (drop size b) ++ take used (drop (size + maps) b))
front_split size maps used at b place =
    ap (λ (k : ℕ). take k b) place
    ∙ take-add (size + maps) used b
    ∙ ap (λ (l : List ℕ). l ++ take used (drop (size + maps) b)) (take-add size maps b)
    ∙ append_assoc (take size b) (take maps (drop size b)) (take used (drop (size + maps) b))

module _ (part_laws : PartLaws) (map_laws : MapLaws) where
  -- where no element is left, the bytes begin with a message
  is_whole : (t : Layout) (at : ℕ) (b : List ℕ) → AreGood t.rows → AreBytes b → IsFront t [] at b → (m : Contents) × BeginsWith t m at b
  is_whole t at b good bytes front =
      let size = mti_size t.mti in
      let w = front.words in
      let start = size + w.2 in
      let es = front.earlier in
      let behind : List ℕ = drop start b in
      let m : Contents = record { mti = front.mti; elements = es } in
      let ns : numbers_in w.0 w.1 ≡ numbers_of es = front.numbers ∙ append-nil (numbers_of es) in
      let end : start + length (take front.used behind) ≡ at = omega (arith, front.place, front.room, length-take front.used behind) in
      let elements : elements_at t.rows (numbers_in w.0 w.1) start behind ≡ Ok (es, at) =
      ap (λ (l : List ℕ). elements_at t.rows l start behind) ns
      ∙ ap (elements_at t.rows (numbers_of es) start) (sym (take-append-drop front.used behind))
      ∙ elements_again part_laws t.rows start es (take front.used behind) (drop front.used behind) good front.parts
      ∙ ap (λ (k : ℕ). Ok (es, k)) end in
      let read : message_at t b ≡ reading.whole m at =
      message_is t b
      ∙ ap (λ r. r >>= behind_type t b) front.typed
      ∙ ap (λ r. r >>= behind_maps t b front.mti) front.mapped
      ∙ ap (λ r. r >>= made front.mti) elements in
      (m, (reads_spellings part_laws map_laws t m at b good bytes).0 read)

  record RowBefore (t : Layout) (n at : ℕ) (b : List ℕ) : Type 0 where
    pub row : FieldSpec
    pub is : row_at t.rows n ≡ Some row
    pub before : IsBefore t n row (take at b)

  -- the bytes are all the pieces before the first element that is left
  row_before : (t : Layout) (n : ℕ) (ns : List ℕ) (at : ℕ) (b : List ℕ) → AreGood t.rows → AreBytes b → IsFront t (n ∷ ns) at b → RowBefore t n at b
  row_before t n ns at b good bytes front =
      let size = mti_size t.mti in
      let w = front.words in
      let set = in_words w.0 w.1 in
      let behind : List ℕ = drop size b in
      let typed = type_taken t b front.mti bytes front.typed in
      let mapped = words_taken map_laws t size behind w (bytes_drop size b bytes) front.mapped in
      let rows = all_rows map_laws t size behind w (bytes_drop size b bytes) front.mapped in
      let split = is_split set 127 2 n (numbers_of front.earlier) ns front.numbers in
      let is_made = made_from_set (below n set) front.earlier (ap (λ (x : Bool). x && ltb 65 n) mapped.no_65) split.before in
      let row = some_is (row_at t.rows n) (rows n split.from split.to split.here) in
      record {
        row = row.0;
        is = row.1;
        before = record {
          set = set;
          earlier = front.earlier;
          mti = take size b;
          maps = take w.2 behind;
          parts = take front.used (drop (size + w.2) b);
          bytes = front_split size w.2 front.used at b front.place;
          own_type = typed.own;
          good_maps = record { two = mapped.two; bitmaps = mapped.maps; no_third = mapped.no_65; rows = rows };
          low = split.from;
          high = omega (arith, split.to);
          there = split.here;
          row = row.1;
          ascending = is_made.ascending;
          numbers = is_made.agrees;
          elements = front.parts;
        };
      }

  elements_stand : (t : Layout) (ns : List ℕ) (at : ℕ) (b : List ℕ) → AreGood t.rows → AreBytes b → IsFront t ns at b → StandsBefore t b at (length_ahead t.rows ns)
  elements_stand t [] at b good bytes front = is_whole t at b good bytes front
  elements_stand t (n ∷ ns) at b good bytes front =
      let row = row_before t n ns at b good bytes front in
      subst (λ (o : Option FieldSpec). StandsBefore t b at (length_under n o)) (sym row.is) row.before

-- ---- a length

module _ (part_laws : PartLaws) (map_laws : MapLaws) (piece_laws : PieceLaws) where
  counted_stand : (t : Layout) (n c : ℕ) (ns : List ℕ) (at : ℕ) (b : List ℕ) → AreGood t.rows → AreBytes b → IsCounted t (next_body n c at) ns b → (at ≤ length b) × StandsBefore t b at (body_under n c (row_at t.rows n))
  counted_stand t n c ns at b good bytes h =
      let s : FieldSpec = h.row in
      let front = prefix_size s.length in
      let rest : List ℕ = drop h.start b in
      let p : List ℕ = take front rest in
      let before = row_before part_laws map_laws t n ns h.start b good bytes h.front in
      let same : before.row ≡ s = (let both : Some before.row ≡ Some s = sym before.is ∙ h.is in cc) in
      let read = count_is (ltb (length rest) front) (prefix_of s p) c h.told in
      let room : front ≤ length rest = ltb-false (length rest) front read.0 in
      let told = (piece_laws.count s c p (good n s h.is) (bytes_take front rest (bytes_drop h.start b bytes)) (omega (arith, length-take front rest))).0 read.1 in
      let start_room = front_room t (n ∷ ns) h.start b map_laws bytes h.front in
      let split : take at b ≡ take h.start b ++ p = ap (λ (k : ℕ). take k b) h.place ∙ take-add h.start front b in (
        omega (arith, h.place, room, length-drop h.start b),
        subst (λ (o : Option FieldSpec). StandsBefore t b at (body_under n c o)) (sym h.is) (take h.start b, p, subst (λ (s : FieldSpec). IsBefore t n s (take h.start b)) same before.before, told.0, h.most, split),
      )

  -- a point that was reached is where the grammar calls for its piece
  pub reached_stands : (t : Layout) (b : List ℕ) (point : ResumePoint) → AreGood t.rows → AreBytes b → IsReached t b point → (place_of t point ≤ length b) × StandsBefore t b (place_of t point) (ahead_of t point)
  reached_stands t b points.Type good bytes h = (omega arith, refl)
  reached_stands t b points.Primary good bytes h =
      let typed = type_taken t b h.0 bytes h.1 in
      (typed.room, typed.own)
  reached_stands t b (points.Secondary first) good bytes h =
      let size = mti_size t.mti in
      let n = map_size t.bitmap in
      let behind : List ℕ = drop size b in
      let typed = type_taken t b h.0 bytes h.1 in
      let one = primary_taken map_laws t size behind first (bytes_drop size b bytes) h.2 in
      (omega (arith, typed.room, one.room, length-drop size b), (take size b, take n behind, typed.own, one.primary h.3, take-add size n b))
  reached_stands t b (points.Elements rest at) good bytes h = (front_room t (members rest) at b map_laws bytes h, elements_stand part_laws map_laws t (members rest) at b good bytes h)
  reached_stands t b (points.Body n c rest at) good bytes h = counted_stand t n c (members rest) at b good bytes h
