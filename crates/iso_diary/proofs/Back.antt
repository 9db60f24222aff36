-- What is written comes back.
use Rattle.std.proofs.Common.{◌≡◌, ◌∙◌, ℕ, ◌+◌, ◌^◌, ◌/◌, ◌%◌, ◌<◌, Bool, true, false, List, [], ◌∷◌, ◌++◌, length, take, drop, length-append, append_assoc, refl, sym, ap, arith, eq-eqb}
use Rattle.std.specs.Prelude.{Option, Some, None, slice_index, ◌==◌, bytes_eq, if◌then◌else◌}
use Rattle.std.specs.List.{list_all}
use Rattle.std.proofs.lemmas.List.{take_at, get_or-append-add, length-replicate}
use Rattle.std.proofs.lemmas.List.Folds.{list_all-append}
use Rattle.std.proofs.lemmas.Bool.{and_from, and_parts}
use Rattle.std.proofs.lemmas.Bool.Decides.{nat_tests}
use Rattle.std.proofs.lemmas.Slice.Eq.{bytes_eq-Decides}
use Rattle.iso_wire.specs.Decimal.{decimal}
use Rattle.iso_wire.specs.DecimalLaws.{DecimalLaws}
use Rattle.iso_log.specs.Slots.{is_nonzero, is_whole}
use Rattle.iso_order.specs.declared.key.TxKey.{TxKey}
use Rattle.iso_order.specs.Order.{Instruction, is_valid}
use Rattle.iso_record.specs.declared.row.Row.{Row}
use Rattle.iso_record.specs.Key.{number_at}
use Rattle.iso_record.specs.Row.{blanks, order_bytes, answer_bytes, row_bytes, row_in, is_row, is_answer, RowsComeBack, RowsAreWhole}
use Rattle.iso_record.specs.ColumnLaws.{ColumnLaws}
use Rattle.iso_restarts.specs.declared.note.Note.{Note}
use Rattle.iso_restarts.specs.declared.note.Note.TheVariants.{Begun, TimedOut, Told}
use Rattle.iso_diary.specs.declared.line.Line.{Line}
use Rattle.iso_diary.specs.Line.{long_digits, answered_bytes, body, letter, tail, line_bytes, below, long_at, no_answer, begun_by, begun_in, timed_out_by, answered_by, answered_in, note_by, line_if_same, line_in, IsKey, IsNote, IsLine}
use Rattle.iso_diary.proofs.Columns.{length-long, nonzero_both, next, below_is, long_read}

-- ---- the row of an order without an answer

abbrev pub row_of : Instruction → Row
row_of o = record { order = o; answer = record { code = 0; seq = 0; shown = None } }

row_is : (o : Instruction) → is_valid o ≡ true → is_row (row_of o) ≡ true
row_is o valid = and_from (is_valid o) (is_answer (row_of o).answer) valid refl

length-no_answer : length no_answer ≡ 29
unfolding answer_bytes
length-no_answer = refl

same_row : (o : Instruction) → row_bytes (row_of o) ≡ order_bytes o ++ no_answer
unfolding row_bytes
same_row o = refl

record IsSound (o : Instruction) : Type 0 where
  pub size : length (order_bytes o) ≡ 99
  pub nonzero : list_all is_nonzero (order_bytes o) ≡ true

sound : (o : Instruction) → is_whole (row_bytes (row_of o)) ≡ true → IsSound o
sound o whole =
    let parts = and_parts (length (order_bytes o ++ no_answer) == 128) (list_all is_nonzero (order_bytes o ++ no_answer)) (sym (ap is_whole (same_row o)) ∙ whole) in
    let long : length (order_bytes o ++ no_answer) ≡ 128 = grind (arith, nat_tests, parts.0) in
    let both = and_parts (list_all is_nonzero (order_bytes o)) (list_all is_nonzero no_answer) (sym (list_all-append is_nonzero (order_bytes o) no_answer) ∙ parts.1) in
    record {
      size = omega (arith, long, length-append (order_bytes o) no_answer, length-no_answer);
      nonzero = both.0;
    }

pub order_front : (o : Instruction) → is_whole (row_bytes (row_of o)) ≡ true → take 99 (row_bytes (row_of o)) ≡ order_bytes o
order_front o whole = ap (take 99) (same_row o) ∙ take_at (order_bytes o) no_answer 99 (sound o whole).size

-- ---- nothing else is a line

pub only_lines : (text : List ℕ) (l : Line) → line_in text ≡ Some l → line_bytes l ≡ text
unfolding line_in
only_lines text l h = by_parts (note_by (slice_index text 99) text) (long_at text 100) h
  where
    same_line : (s : Line) (b : Bool) → bytes_eq (line_bytes s) text ≡ b → (if b then Some s else None) ≡ Some l → line_bytes l ≡ text
    same_line s true e is = let e2 : s ≡ l = some_same s l is in ap line_bytes (sym e2) ∙ (bytes_eq-Decides (line_bytes s) text).0 e
      where
        some_same : (s r : Line) → Some s ≡ Some r → s ≡ r
        some_same s r e = cc
    same_line s false e is = cc

    by_parts : (n : Option Note) (p : Option ℕ) → line_if_same text n p ≡ Some l → line_bytes l ≡ text
    by_parts (Some n) (Some p) is = same_line (record { place = p; note = n }) (bytes_eq (line_bytes (record { place = p; note = n })) text) refl is
    by_parts (Some n) None is = cc
    by_parts None (Some p) is = cc
    by_parts None None is = cc

-- ---- the letter of what happened

nonzero_letter : (n : Note) → is_nonzero (letter n) ≡ true
nonzero_letter (Begun o) = refl
nonzero_letter (TimedOut stan) = refl
nonzero_letter (Told k code) = refl

module _ (decimals : DecimalLaws) (columns : ColumnLaws) (rows_back : RowsComeBack) (rows_whole : RowsAreWhole) where
  -- ---- lengths

  length-answered : (k : TxKey) (code : ℕ) → length (answered_bytes k code) ≡ 99
  unfolding answered_bytes
  length-answered k code =
      let a = decimal 5 k.base in
      let b = decimal 10 k.stan in
      let c = long_digits k.sent in
      let d = long_digits k.acquirer in
      let e = decimal 3 code in
      let f = blanks 41 in
      length-append a (b ++ (c ++ (d ++ (e ++ f))))
      ∙ omega (
        arith,
        length-append b (c ++ (d ++ (e ++ f))),
        length-append c (d ++ (e ++ f)),
        length-append d (e ++ f),
        length-append e f,
        decimals.size 5 k.base,
        decimals.size 10 k.stan,
        length-long decimals k.sent,
        length-long decimals k.acquirer,
        decimals.size 3 code,
        length-replicate {A = ℕ} 41 32,
      )

  pub length-body : (n : Note) → IsNote n → length (body n) ≡ 99
  length-body (Begun o) is = (sound o (rows_whole (row_of o) (row_is o is))).size
  length-body (TimedOut stan) is = length-append (decimal 10 stan) (blanks 89) ∙ omega (arith, decimals.size 10 stan, length-replicate {A = ℕ} 89 32)
  length-body (Told k code) is = length-answered k code

  -- ---- a line comes back

  begun_back : (o : Instruction) (rest : List ℕ) → is_valid o ≡ true → begun_in (order_bytes o ++ rest) ≡ Some (Begun o)
  begun_back o rest valid =
      ap (λ (l : List ℕ). begun_by (row_in (l ++ no_answer))) (take_at (order_bytes o) rest 99 (sound o (rows_whole (row_of o) (row_is o valid))).size)
      ∙ ap (λ (l : List ℕ). begun_by (row_in l)) (sym (same_row o)) ∙ ap begun_by (rows_back (row_of o) (row_is o valid))

  timed_out_back : (stan : ℕ) (rest : List ℕ) → stan < 2 ^ 32 → timed_out_by (below (2 ^ 32) (number_at ((decimal 10 stan ++ blanks 89) ++ rest) 0 10)) ≡ Some (TimedOut stan)
  timed_out_back stan rest lt =
      let small : stan < 10 ^ 10 = omega (arith, lt) in
      ap (λ (x : Option ℕ). timed_out_by (below (2 ^ 32) x))
      (columns.read ((decimal 10 stan ++ blanks 89) ++ rest) 0 10 stan (blanks 89 ++ rest) (append_assoc (decimal 10 stan) (blanks 89) rest) small)
      ∙ ap timed_out_by (below_is (2 ^ 32) stan lt)

  answered_back : (k : TxKey) (code : ℕ) (rest : List ℕ) → IsKey k → code < 2 ^ 8 → answered_in (answered_bytes k code ++ rest) ≡ Some (Told k code)
  unfolding answered_bytes
  answered_back k code rest key lt =
      let t = answered_bytes k code ++ rest in
      let a = decimal 5 k.base in
      let b = decimal 10 k.stan in
      let c = long_digits k.sent in
      let d = long_digits k.acquirer in
      let e = decimal 3 code in
      let f = blanks 41 in
      let e0 : drop 0 t ≡ a ++ (b ++ (c ++ (d ++ (e ++ (f ++ rest))))) = flat a b c d e f rest in
      let e5 = next t 0 5 5 a (b ++ (c ++ (d ++ (e ++ (f ++ rest))))) e0 (decimals.size 5 k.base) refl in
      let e15 = next t 5 10 15 b (c ++ (d ++ (e ++ (f ++ rest)))) e5 (decimals.size 10 k.stan) refl in
      let e35 = next t 15 20 35 c (d ++ (e ++ (f ++ rest))) e15 (length-long decimals k.sent) refl in
      let e55 = next t 35 20 55 d (e ++ (f ++ rest)) e35 (length-long decimals k.acquirer) refl in
      let base : below (2 ^ 16) (number_at t 0 5) ≡ Some k.base =
      ap (below (2 ^ 16)) (columns.read t 0 5 k.base (b ++ (c ++ (d ++ (e ++ (f ++ rest))))) e0 (omega (arith, key.base))) ∙ below_is (2 ^ 16) k.base key.base in
      let stan : below (2 ^ 32) (number_at t 5 10) ≡ Some k.stan =
      ap (below (2 ^ 32)) (columns.read t 5 10 k.stan (c ++ (d ++ (e ++ (f ++ rest)))) e5 (omega (arith, key.stan))) ∙ below_is (2 ^ 32) k.stan key.stan in
      let sent = long_read decimals columns t 15 k.sent (d ++ (e ++ (f ++ rest))) e15 key.sent in
      let acquirer = long_read decimals columns t 35 k.acquirer (e ++ (f ++ rest)) e35 key.acquirer in
      let code_is : below (2 ^ 8) (number_at t 55 3) ≡ Some code =
      ap (below (2 ^ 8)) (columns.read t 55 3 code (f ++ rest) e55 (omega (arith, lt))) ∙ below_is (2 ^ 8) code lt in
      ap (λ (x : Option ℕ). answered_by x (below (2 ^ 32) (number_at t 5 10)) (long_at t 15) (long_at t 35) (below (2 ^ 8) (number_at t 55 3))) base
      ∙ ap (λ (x : Option ℕ). answered_by (Some k.base) x (long_at t 15) (long_at t 35) (below (2 ^ 8) (number_at t 55 3))) stan
      ∙ ap (λ (x : Option ℕ). answered_by (Some k.base) (Some k.stan) x (long_at t 35) (below (2 ^ 8) (number_at t 55 3))) sent
      ∙ ap (λ (x : Option ℕ). answered_by (Some k.base) (Some k.stan) (Some k.sent) x (below (2 ^ 8) (number_at t 55 3))) acquirer
      ∙ ap (λ (x : Option ℕ). answered_by (Some k.base) (Some k.stan) (Some k.sent) (Some k.acquirer) x) code_is
    where
      flat : (a b c d e f g : List ℕ) → (a ++ (b ++ (c ++ (d ++ (e ++ f))))) ++ g ≡ a ++ (b ++ (c ++ (d ++ (e ++ (f ++ g)))))
      flat a b c d e f g = simp append_assoc refl

  note_back : (n : Note) (rest : List ℕ) → IsNote n → note_by (letter n) (body n ++ rest) ≡ Some n
  note_back (Begun o) rest is = begun_back o rest is
  note_back (TimedOut stan) rest is = timed_out_back stan rest is
  note_back (Told k code) rest is = answered_back k code rest is.0 is.1

  letter_at : (n : Note) (c place : ℕ) → IsNote n → slice_index (body n ++ tail c place) 99 ≡ c
  unfolding tail
  letter_at n c place is =
      let rest = c ∷ [] ++ (long_digits place ++ (blanks 7 ++ 10 ∷ [])) in
      ap (λ m. slice_index (body n ++ rest) (m + 0)) (sym (length-body n is)) ∙ get_or-append-add (body n) rest 0 0

  place_at : (n : Note) (c place : ℕ) → IsNote n → place < 2 ^ 64 → long_at (body n ++ tail c place) 100 ≡ Some place
  unfolding tail
  place_at n c place is lt =
      let rest = long_digits place ++ (blanks 7 ++ 10 ∷ []) in
      let t = body n ++ (c ∷ [] ++ rest) in
      let e99 = next t 0 99 99 (body n) (c ∷ [] ++ rest) refl (length-body n is) refl in
      let e100 = next t 99 1 100 (c ∷ []) rest e99 refl refl in
      long_read decimals columns t 100 place (blanks 7 ++ 10 ∷ []) e100 lt

  pub line_back : (l : Line) → IsLine l → line_in (line_bytes l) ≡ Some l
  unfolding line_in line_bytes
  line_back l is =
      let t = body l.note ++ tail (letter l.note) l.place in
      let same : bytes_eq t t ≡ true = (bytes_eq-Decides t t).1 refl in
      ap (λ (x : ℕ). line_if_same t (note_by x t) (long_at t 100)) (letter_at l.note (letter l.note) l.place is.note)
      ∙ ap (λ (x : Option Note). line_if_same t x (long_at t 100)) (note_back l.note (tail (letter l.note) l.place) is.note)
      ∙ ap (λ (x : Option ℕ). line_if_same t (Some l.note) x) (place_at l.note (letter l.note) l.place is.note is.place)
      ∙ rw same refl

  -- ---- a line is whole

  nonzero_long : (v : ℕ) → list_all is_nonzero (long_digits v) ≡ true
  nonzero_long v = nonzero_both (decimal 10 (v / 10 ^ 10)) (decimal 10 (v % 10 ^ 10)) (columns.digits 10 (v / 10 ^ 10)) (columns.digits 10 (v % 10 ^ 10))

  nonzero_answered : (k : TxKey) (code : ℕ) → list_all is_nonzero (answered_bytes k code) ≡ true
  unfolding answered_bytes
  nonzero_answered k code =
      let b = decimal 10 k.stan in
      let c = long_digits k.sent in
      let d = long_digits k.acquirer in
      let e = decimal 3 code in
      let f = blanks 41 in
      nonzero_both (decimal 5 k.base) (b ++ (c ++ (d ++ (e ++ f)))) (columns.digits 5 k.base) (nonzero_both b (c ++ (d ++ (e ++ f))) (columns.digits 10 k.stan)
      (nonzero_both c (d ++ (e ++ f)) (nonzero_long k.sent) (nonzero_both d (e ++ f) (nonzero_long k.acquirer) (nonzero_both e f (columns.digits 3 code) (columns.blanks 41)))))

  nonzero_body : (n : Note) → IsNote n → list_all is_nonzero (body n) ≡ true
  nonzero_body (Begun o) is = (sound o (rows_whole (row_of o) (row_is o is))).nonzero
  nonzero_body (TimedOut stan) is = nonzero_both (decimal 10 stan) (blanks 89) (columns.digits 10 stan) (columns.blanks 89)
  nonzero_body (Told k code) is = nonzero_answered k code

  length-tail : (c place : ℕ) → length (tail c place) ≡ 29
  unfolding tail
  length-tail c place =
      let p = long_digits place in
      length-append (c ∷ []) (p ++ (blanks 7 ++ 10 ∷ [])) ∙ omega (arith, length-append p (blanks 7 ++ 10 ∷ []), length-long decimals place)

  nonzero_tail : (c place : ℕ) → is_nonzero c ≡ true → list_all is_nonzero (tail c place) ≡ true
  unfolding tail
  nonzero_tail c place is =
      nonzero_both (c ∷ []) (long_digits place ++ (blanks 7 ++ 10 ∷ [])) (and_from _ _ is refl) (nonzero_both (long_digits place) (blanks 7 ++ 10 ∷ []) (nonzero_long place) refl)

  pub line_whole : (l : Line) → IsLine l → is_whole (line_bytes l) ≡ true
  unfolding line_bytes
  line_whole l is =
      let x = body l.note in
      let y = tail (letter l.note) l.place in
      let size : length (x ++ y) ≡ 128 = length-append x y ∙ omega (arith, length-body l.note is.note, length-tail (letter l.note) l.place) in
      and_from _ _ (eq-eqb (length (x ++ y)) 128 size) (nonzero_both x y (nonzero_body l.note is.note) (nonzero_tail (letter l.note) l.place (nonzero_letter l.note)))
