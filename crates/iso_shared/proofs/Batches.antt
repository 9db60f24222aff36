-- Batches come back, and nothing else is read as one.
use Rattle.std.proofs.Common.{◌≡◌, ◌∙◌, ℕ, zero, suc, ◌+◌, ◌-◌, ◌*◌, ◌/◌, ◌%◌, ◌≤◌, ◌<◌, Bool, true, false, List, [], ◌∷◌, ◌++◌, length, take, drop, get_or, length-append, length-drop, append_assoc, append-nil, refl, sym, ap, arith, eq-eqb, eqb-true, le-leb}
use Rattle.std.specs.Prelude.{◌==◌, ◌&&◌, nat_le, if◌then◌else◌, Option, Some, None}
use Rattle.std.proofs.lemmas.Bool.Decides.{nat_tests}
use Rattle.std.specs.List.{list_all}
use Rattle.std.proofs.lemmas.List.{take_at, drop_at, take_all, take-append-drop, take_more, drop-drop}
use Rattle.std.proofs.Math.Seq.{take-add}
use Rattle.std.proofs.lemmas.List.Folds.{list_all-append}
use Rattle.std.proofs.lemmas.Bool.{and_from, and_parts}
use Rattle.iso_log.specs.Slots.{is_nonzero, is_whole, slot}
use Rattle.iso_record.specs.declared.row.Row.{Row}
use Rattle.iso_record.specs.Row.{row_bytes, row_in, is_row, RowsComeBack, RowsAreWhole, NothingElse as NoOtherRow}
use Rattle.iso_shared.specs.declared.heading.Heading.{Heading as Head}
use Rattle.iso_shared.specs.Heading.{heading_bytes, heading_in, is_heading, is_writer, HeadingsAreWhole, HeadingsComeBack, NoOtherHeading}
use Rattle.iso_shared.specs.Read.{rows_before}
use Rattle.iso_shared.specs.Batch.{BatchContents, rows_bytes, batch_bytes, row_before, rows_from, is_size, filed_by, batch_in, is_filed}

-- what the laws of rows and of headings say
pub record RecordLaws : Type 0 where
  pub rows_back : RowsComeBack
  pub rows_whole : RowsAreWhole
  pub rows_only : NoOtherRow
  pub heads_back : HeadingsComeBack
  pub heads_whole : HeadingsAreWhole
  pub heads_only : NoOtherHeading

whole_long : (text : List ℕ) → is_whole text ≡ true → length text ≡ 128
whole_long text h = eqb-true (length text) 128 (and_parts (length text == 128) (list_all is_nonzero text) h).0

pub rows_more : (rs : List Row) (r : Row) → rows_bytes (rs ++ r ∷ []) ≡ rows_bytes rs ++ row_bytes r
rows_more [] r = append-nil (row_bytes r)
rows_more (x ∷ rs) r =
    ap (λ (l : List ℕ). row_bytes x ++ l) (rows_more rs r) ∙ sym (append_assoc (row_bytes x) (rows_bytes rs) (row_bytes r))

module _ (laws : RecordLaws) where
  row_long : (r : Row) → is_row r ≡ true → length (row_bytes r) ≡ 128
  row_long r is = whole_long (row_bytes r) (laws.rows_whole r is)

  head_writer : (h : Head) → is_heading h ≡ true → length (heading_bytes h) ≡ 128
  head_writer h is = whole_long (heading_bytes h) (laws.heads_whole h (and_parts _ (is_writer h.writer) is).1)

  rows_long : (rs : List Row) → list_all is_row rs ≡ true → length (rows_bytes rs) ≡ 128 * length rs
  rows_long [] are = refl
  rows_long (r ∷ rs) are =
      let both = and_parts (is_row r) (list_all is_row rs) are in
      length-append (row_bytes r) (rows_bytes rs) ∙ omega (arith, row_long r both.0, rows_long rs both.1)

  -- ---- rows come back

  slot_at : (front text rest : List ℕ) (j : ℕ) → length front ≡ 128 * j → length text ≡ 128 → slot (front ++ (text ++ rest)) j ≡ text
  slot_at front text rest j lf lt = ap (take 128) (drop_at front (text ++ rest) (128 * j) lf) ∙ take_at text rest 128 lt

  rows_come : (rs : List Row) (front : List ℕ) (j : ℕ) → list_all is_row rs ≡ true → length front ≡ 128 * j
      → rows_from (length rs) j (front ++ rows_bytes rs) ≡ Some rs
  rows_come [] front j are lf = refl
  rows_come (r ∷ rs) front j are lf =
      let both = and_parts (is_row r) (list_all is_row rs) are in
      let text = front ++ (row_bytes r ++ rows_bytes rs) in
      let first : row_in (slot text j) ≡ Some r =
      ap row_in (slot_at front (row_bytes r) (rows_bytes rs) j lf (row_long r both.0)) ∙ laws.rows_back r both.0 in
      let lf2 : length (front ++ row_bytes r) ≡ 128 * (j + 1) = length-append front (row_bytes r) ∙ omega (arith, lf, row_long r both.0) in
      let rest : rows_from (length rs) (j + 1) text ≡ Some rs =
      ap (rows_from (length rs) (j + 1)) (sym (append_assoc front (row_bytes r) (rows_bytes rs))) ∙ rows_come rs (front ++ row_bytes r) (j + 1) both.1 lf2 in
      ap (λ (o : Option Row). row_before o (rows_from (length rs) (j + 1) text)) first ∙ ap (row_before (Some r)) rest

  -- ---- nothing else is rows

  cut_more : (n j : ℕ) (text : List ℕ) → take (128 * suc n) (drop (128 * j) text) ≡ slot text j ++ take (128 * n) (drop (128 * (j + 1)) text)
  cut_more n j text =
      let all : 128 * suc n ≡ 128 + 128 * n = omega arith in
      let next : 128 * j + 128 ≡ 128 * (j + 1) = omega arith in
      ap (λ m. take m (drop (128 * j) text)) all
      ∙ take-add 128 (128 * n) (drop (128 * j) text)
      ∙ ap (λ (l : List ℕ). slot text j ++ take (128 * n) l) (drop-drop 128 (128 * j) text ∙ ap (λ m. drop m text) next)

  rows_only : (n j : ℕ) (text : List ℕ) (rs : List Row) → rows_from n j text ≡ Some rs → take (128 * n) (drop (128 * j) text) ≡ rows_bytes rs
  rows_only zero j text rs is = let none : [] ≡ rs = cc in ap rows_bytes none
  rows_only (suc n) j text rs is = by_parts (row_in (slot text j)) (rows_from n (j + 1) text) refl refl is (λ more e. rows_only n (j + 1) text more e)
    where
      by_parts : (o : Option Row) (os : Option (List Row)) → row_in (slot text j) ≡ o → rows_from n (j + 1) text ≡ os → row_before o os ≡ Some rs
          → ((more : List Row) → rows_from n (j + 1) text ≡ Some more → take (128 * n) (drop (128 * (j + 1)) text) ≡ rows_bytes more)
          → take (128 * suc n) (drop (128 * j) text) ≡ rows_bytes rs
      by_parts (Some r) (Some more) eo eos same rest =
          let s : r ∷ more ≡ rs = cc in
          cut_more n j text
          ∙ ap (λ (l : List ℕ). l ++ take (128 * n) (drop (128 * (j + 1)) text)) (sym (laws.rows_only (slot text j) r eo))
          ∙ ap (λ (l : List ℕ). row_bytes r ++ l) (rest more eos)
          ∙ ap rows_bytes s
      by_parts (Some r) None eo eos same rest = cc
      by_parts None os eo eos same rest = cc

  -- ---- a batch

  batch_long : (b : BatchContents) → is_filed b ≡ true → length (batch_bytes b) ≡ 128 * (1 + length b.rows)
  batch_long b is =
      let both = and_parts (is_heading b.heading) (list_all is_row b.rows && nat_le (length b.rows) 8191) is in
      let rows = and_parts (list_all is_row b.rows) (nat_le (length b.rows) 8191) both.1 in
      length-append (heading_bytes b.heading) (rows_bytes b.rows) ∙ omega (arith, head_writer b.heading both.0, rows_long b.rows rows.0)

  size_is : (n : ℕ) → n ≤ 8191 → is_size (128 * (1 + n)) ≡ true
  size_is n few =
      let rest : 128 * (1 + n) % 128 ≡ 0 = omega arith in
      and_from _ _ (eq-eqb (128 * (1 + n) % 128) 0 rest)
      (and_from _ _ (le-leb 128 (128 * (1 + n)) (omega arith)) (le-leb (128 * (1 + n)) 1048576 (omega (arith, few))))

  pub batch_back : (b : BatchContents) → is_filed b ≡ true → batch_in (batch_bytes b) ≡ Some b
  batch_back b is =
      let both = and_parts (is_heading b.heading) (list_all is_row b.rows && nat_le (length b.rows) 8191) is in
      let rows = and_parts (list_all is_row b.rows) (nat_le (length b.rows) 8191) both.1 in
      let few : length b.rows ≤ 8191 = grind (arith, nat_tests, rows.1) in
      let text = batch_bytes b in
      let long : length text ≡ 128 * (1 + length b.rows) = batch_long b is in
      let size : is_size (length text) ≡ true = ap is_size long ∙ size_is (length b.rows) few in
      let lh : length (heading_bytes b.heading) ≡ 128 = head_writer b.heading both.0 in
      let head : heading_in (slot text 0) ≡ Some b.heading =
      ap heading_in (take_at (heading_bytes b.heading) (rows_bytes b.rows) 128 lh) ∙ laws.heads_back b.heading both.0 in
      let count : length text / 128 - 1 ≡ length b.rows = omega (arith, long) in
      let rest : rows_from (length text / 128 - 1) 1 text ≡ Some b.rows =
      ap (λ n. rows_from n 1 text) count ∙ rows_come b.rows (heading_bytes b.heading) 1 rows.0 lh in
      rw size (ap (λ (o : Option Head). filed_by o (rows_from (length text / 128 - 1) 1 text)) head ∙ ap (filed_by (Some b.heading)) rest)

  rest_is : (text : List ℕ) → is_size (length text) ≡ true → take (128 * (length text / 128 - 1)) (drop 128 text) ≡ drop 128 text
  rest_is text is =
      let both = and_parts (length text % 128 == 0) (nat_le 128 (length text) && nat_le (length text) 1048576) is in
      let even : length text % 128 ≡ 0 = eqb-true (length text % 128) 0 both.0 in
      take_all (128 * (length text / 128 - 1)) (drop 128 text) (omega (arith, length-drop 128 text, even))

  pub batch_only : (text : List ℕ) (b : BatchContents) → batch_in text ≡ Some b → batch_bytes b ≡ text
  batch_only text b is = by_size (is_size (length text)) refl is
    where
      by_parts : (o : Option Head) (os : Option (List Row)) → is_size (length text) ≡ true → heading_in (slot text 0) ≡ o
          → rows_from (length text / 128 - 1) 1 text ≡ os → filed_by o os ≡ Some b → batch_bytes b ≡ text
      by_parts (Some h) (Some rs) size eo eos same =
          let s : record { heading = h; rows = rs } ≡ b = cc in
          ap batch_bytes (sym s)
          ∙ ap (λ (l : List ℕ). l ++ rows_bytes rs) (laws.heads_only (slot text 0) h eo)
          ∙ ap (λ (l : List ℕ). take 128 text ++ l) (sym (rows_only (length text / 128 - 1) 1 text rs eos) ∙ rest_is text size)
          ∙ take-append-drop 128 text
      by_parts (Some h) None size eo eos same = cc
      by_parts None os size eo eos same = cc

      by_size : (t : Bool) → is_size (length text) ≡ t → (if t then filed_by (heading_in (slot text 0)) (rows_from (length text / 128 - 1) 1 text) else None) ≡ Some b
          → batch_bytes b ≡ text
      by_size true e same = by_parts (heading_in (slot text 0)) (rows_from (length text / 128 - 1) 1 text) e refl refl same
      by_size false e same = cc

  pub batches_differ : (a b : BatchContents) → is_filed a ≡ true → is_filed b ≡ true → batch_bytes a ≡ batch_bytes b → a ≡ b
  batches_differ a b fa fb e =
      let s : Some a ≡ Some b = sym (batch_back a fa) ∙ ap batch_in e ∙ batch_back b fb in
      cc

-- ---- loops

-- a row more was written
pub rows_step : (out now new bytes : List ℕ) (rows : List Row) (i : ℕ) (r : Row) → i < length rows → r ≡ get_or rows i r → bytes ≡ row_bytes r
    → now ≡ out ++ rows_bytes (take i rows) → new ≡ now ++ bytes → new ≡ out ++ rows_bytes (take (i + 1) rows)
rows_step out now new bytes rows i r lt is eb before e =
    let more : take (i + 1) rows ≡ take i rows ++ r ∷ [] = take_more rows i r lt ∙ ap (λ (p : Row). take i rows ++ p ∷ []) (sym is) in
    e ∙ ap (λ (l : List ℕ). l ++ bytes) before ∙ append_assoc out (rows_bytes (take i rows)) bytes
    ∙ ap (λ (l : List ℕ). out ++ (rows_bytes (take i rows) ++ l)) eb
    ∙ ap (λ (l : List ℕ). out ++ l) (sym (rows_more (take i rows) r) ∙ ap rows_bytes (sym more))

pub all_step : (rows : List Row) (i : ℕ) (r : Row) → i < length rows → r ≡ get_or rows i r → is_row r ≡ true → list_all is_row (take i rows) ≡ true → list_all is_row (take (i + 1) rows) ≡ true
all_step rows i r lt is row before =
    let more : take (i + 1) rows ≡ take i rows ++ r ∷ [] = take_more rows i r lt ∙ ap (λ (p : Row). take i rows ++ p ∷ []) (sym is) in
    ap (list_all is_row) more ∙ list_all-append is_row (take i rows) (r ∷ []) ∙ and_from _ _ before (and_from _ _ row refl)

-- a row more was read
pub read_step : (text : List ℕ) (count j : ℕ) (rows : List Row) (r : Row) (all : Option (List Row)) → j < count → row_in (slot text j) ≡ Some r
    → rows_before rows (rows_from (count - j) j text) ≡ all → rows_before (rows ++ r ∷ []) (rows_from (count - (j + 1)) (j + 1) text) ≡ all
read_step text count j rows r all lt is before =
    let next : count - j ≡ suc (count - (j + 1)) = omega (arith, lt) in
    let now : rows_from (count - j) j text ≡ row_before (Some r) (rows_from (count - (j + 1)) (j + 1) text) =
    ap (λ n. rows_from n j text) next ∙ ap (λ (o : Option Row). row_before o (rows_from (count - (j + 1)) (j + 1) text)) is in
    by_rest (rows_from (count - (j + 1)) (j + 1) text) ∙ sym (ap (rows_before rows) now) ∙ before
  where
    by_rest : (os : Option (List Row)) → rows_before (rows ++ r ∷ []) os ≡ rows_before rows (row_before (Some r) os)
    by_rest (Some more) = ap Some (append_assoc rows (r ∷ []) more)
    by_rest None = refl

-- a record that is no row
pub read_stop : (text : List ℕ) (count j : ℕ) (rows : List Row) (all : Option (List Row)) → j < count → row_in (slot text j) ≡ None
    → rows_before rows (rows_from (count - j) j text) ≡ all → all ≡ None
read_stop text count j rows all lt is before =
    let next : count - j ≡ suc (count - (j + 1)) = omega (arith, lt) in
    sym before ∙ ap (λ n. rows_before rows (rows_from n j text)) next
    ∙ ap (λ (o : Option Row). rows_before rows (row_before o (rows_from (count - (j + 1)) (j + 1) text))) is
