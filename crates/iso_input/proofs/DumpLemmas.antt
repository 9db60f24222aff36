-- What dumps show is read back.
use Rattle.std.proofs.Common.{◌≡◌, ℕ, suc, ◌+◌, ◌<◌, ◌≤◌, ◌==◌, ◌&&◌, ◌||◌, Bool, true, false, not, cond, if◌then◌else◌, arith, List, [], ◌∷◌, ◌++◌, length, drop, take, ◌⊎◌, Result, Ok, refl, sym, ap, ◌∙◌, append_assoc, append-nil, length-append, subst, take_all, eq-eqb, inl, inr}
use Rattle.std.specs.Prelude.{count_by}
use Rattle.std.specs.List.{AllPass, prefix_len, slice_split}
use Rattle.std.proofs.lemmas.Bool.{and_parts}
use Rattle.std.proofs.lemmas.Bool.Decides.{nat_tests}
use Rattle.std.proofs.lemmas.List.{take-append-le}
use Rattle.std.proofs.lemmas.List.Sums.{sum_by-cons, sum_by-append}
use Rattle.std.proofs.lemmas.List.Elements.{All-head, All-tail}
use Rattle.hex.specs.Hex.{is_hex_digit}
use Rattle.iso_input.specs.declared.fault.HexFault.{HexFault}
use Rattle.iso_input.specs.declared.place.Place.{Place}
use Rattle.iso_input.specs.Digits.{after, bytes_at}
use Rattle.iso_input.specs.Dump.{is_newline, is_blank, is_margin, begins, begins_gap, begins_byte, begins_column, ends_byte, column_from, further, offset_of, part_bytes, margin_bytes, offset_bytes, row_bytes, followed, rows, dump_bytes}
use Rattle.iso_input.specs.Dumps.{HasNoGap, AreHalves, begins_colon, IsOffset, IsLine, IsBare, AreLines, DumpsComeBack}
use Rattle.iso_input.proofs.Decoding.{passes, digit_is_no_blank, digit_is_no_margin, decoded_is_read}

-- ---- fronts

front_passes : (test : ℕ → Bool) (xs : List ℕ) (y : ℕ) (ys : List ℕ) → AllPass test xs → test y ≡ false → prefix_len test (xs ++ y ∷ ys) ≡ length xs
front_passes test [] y ys h fails = rw fails refl
front_passes test (x ∷ xs) y ys h fails =
    let one : 1 + length xs ≡ suc (length xs) = omega arith in
    rw (All-head (λ b. test b ≡ true) x xs h, front_passes test xs y ys (All-tail (λ b. test b ≡ true) x xs h) fails) one

all_pass : (test : ℕ → Bool) (xs : List ℕ) → AllPass test xs → prefix_len test xs ≡ length xs
all_pass test [] h = refl
all_pass test (x ∷ xs) h =
    let one : 1 + length xs ≡ suc (length xs) = omega arith in
    rw (All-head (λ b. test b ≡ true) x xs h, all_pass test xs (All-tail (λ b. test b ≡ true) x xs h)) one

front_stops : (test : ℕ → Bool) (x : ℕ) (xs : List ℕ) → test x ≡ false → prefix_len test (x ∷ xs) ≡ 0
front_stops test x xs fails = rw fails refl

take_whole : (xs : List ℕ) → take (length xs) xs ≡ xs
take_whole xs = let fits : length xs ≤ length xs = omega arith in take_all (length xs) xs fits

take_front : (xs ys : List ℕ) → take (length xs) (xs ++ ys) ≡ xs
take_front xs ys = let fits : length xs ≤ length xs = omega arith in take-append-le (length xs) xs ys fits ∙ take_whole xs

drop_front : (xs ys : List ℕ) → drop (length xs) (xs ++ ys) ≡ ys
drop_front [] ys = refl
drop_front (x ∷ xs) ys = drop_front xs ys

-- ---- digits before a place

abbrev digits_behind : ℕ → List ℕ → ℕ
digits_behind d [] = d
digits_behind d (b ∷ bs) = digits_behind (if is_hex_digit b then d + 1 else d) bs

-- what a byte counts
abbrev weight : ℕ → ℕ
weight b = cond (is_hex_digit b) 1 0

abbrev Counted : List ℕ → Type 0
Counted bs = (d : ℕ) → digits_behind d bs ≡ d + count_by is_hex_digit bs

counted_by : (t : Bool) (d : ℕ) (bs : List ℕ) → Counted bs → digits_behind (if t then d + 1 else d) bs ≡ d + (cond t 1 0 + count_by is_hex_digit bs)
counted_by true d bs ih = let same : (d + 1) + count_by is_hex_digit bs ≡ d + (1 + count_by is_hex_digit bs) = omega arith in ih (d + 1) ∙ same
counted_by false d bs ih = let same : d + count_by is_hex_digit bs ≡ d + (0 + count_by is_hex_digit bs) = omega arith in ih d ∙ same

counted : (bs : List ℕ) → Counted bs
counted [] d = omega arith
counted (b ∷ bs) d = counted_by (is_hex_digit b) d bs (counted bs) ∙ ap (λ n. d + n) (sym (sum_by-cons weight b bs))

count_append : (xs ys : List ℕ) → count_by is_hex_digit (xs ++ ys) ≡ count_by is_hex_digit xs + count_by is_hex_digit ys
count_append xs ys = sum_by-append weight xs ys

no_more : (n : ℕ) → 0 + (0 + n) ≡ n
no_more n = omega arith

count_gap : (xs : List ℕ) → count_by is_hex_digit (32 ∷ 32 ∷ xs) ≡ count_by is_hex_digit xs
count_gap xs = sum_by-cons weight 32 (32 ∷ xs) ∙ ap (λ n. 0 + n) (sum_by-cons weight 32 xs) ∙ no_more (count_by is_hex_digit xs)

-- ---- the text column

-- where it begins
abbrev Ends : Bool → ℕ → List ℕ → Type 0
Ends colon d text = (text ≡ []) ⊎ (begins_column colon d text ≡ true)

column_here : (colon : Bool) (d : ℕ) (text : List ℕ) → Ends colon d text → column_from colon d text ≡ 0
column_here colon d [] h = refl
column_here colon d (b ∷ bs) (inl fails) = cc fails
column_here colon d (b ∷ bs) (inr gap) = rw gap refl

-- it doesn't begin here
column_on : (colon : Bool) (d b : ℕ) (bs : List ℕ) → begins_column colon d (b ∷ bs) ≡ false → column_from colon d (b ∷ bs) ≡ 1 + column_from colon (if is_hex_digit b then d + 1 else d) bs
column_on colon d b bs h = rw h refl

no_gap_no_column : (colon : Bool) (d : ℕ) (l : List ℕ) → begins_gap l ≡ false → begins_column colon d l ≡ false
no_gap_no_column colon d l h = ap (λ t. t && (colon || not (d == 16) || not (begins_byte (drop 2 l)))) h

column_behind : (colon : Bool) (d : ℕ) (part rest : List ℕ) → HasNoGap part → column_from colon d (part ++ rest) ≡ length part + column_from colon (digits_behind d part) rest
column_behind colon d [] rest h = omega arith
column_behind colon d (b ∷ []) rest h =
    let gap : begins_gap (b ∷ rest) ≡ false = rw h refl in
    column_on colon d b rest (no_gap_no_column colon d (b ∷ rest) gap)
column_behind colon d (a ∷ b ∷ bs) rest h =
    let next = if is_hex_digit a then d + 1 else d in
    let far = column_from colon (digits_behind next (b ∷ bs)) rest in
    let one : 1 + (length (b ∷ bs) + far) ≡ suc (length (b ∷ bs)) + far = omega arith in
    column_on colon d a (b ∷ (bs ++ rest)) (no_gap_no_column colon d (a ∷ b ∷ (bs ++ rest)) h.0) ∙ ap (λ n. 1 + n) (column_behind colon next (b ∷ bs) rest h.1) ∙ one

dense_size : (colon : Bool) (d : ℕ) (part text : List ℕ) → HasNoGap part → Ends colon (d + count_by is_hex_digit part) text → column_from colon d (part ++ text) ≡ length part
dense_size colon d part text h column =
    let whole : length part + 0 ≡ length part = omega arith in
    column_behind colon d part text h ∙ ap (λ n. length part + column_from colon n text) (counted part d) ∙ ap (λ n. length part + n) (column_here colon (d + count_by is_hex_digit part) text column) ∙ whole

-- ---- two halves

blank_behind : (colon : Bool) (d : ℕ) (text : List ℕ) → Ends colon d text → ends_byte text ≡ true
blank_behind colon d [] h = refl
blank_behind colon d (b ∷ bs) (inl fails) = cc fails
blank_behind colon d (b ∷ bs) (inr gap) = (and_parts (is_blank b) (begins is_blank bs) (and_parts (begins_gap (b ∷ bs)) (colon || not (d == 16) || not (begins_byte (drop 2 (b ∷ bs)))) gap).0).0

byte_stays : (colon : Bool) (d : ℕ) (l text : List ℕ) → begins_byte l ≡ true → Ends colon d text → begins_byte (l ++ text) ≡ true
byte_stays colon d [] text h column = cc h
byte_stays colon d (a ∷ []) text h column = cc h
byte_stays colon d (a ∷ b ∷ []) text h column = rw (blank_behind colon d text column) h
byte_stays colon d (a ∷ b ∷ c ∷ cs) text h column = h

over_gap : (l : List ℕ) → begins_byte l ≡ true → column_from false 16 (32 ∷ 32 ∷ l) ≡ 2 + column_from false 16 l
over_gap [] h = cc h
over_gap (a ∷ []) h = cc h
over_gap (a ∷ b ∷ bs) h =
    let l = a ∷ b ∷ bs in
    let digit : is_hex_digit a ≡ true = (and_parts (is_hex_digit a) (is_hex_digit b) (and_parts (is_hex_digit a && is_hex_digit b) (ends_byte bs) h).0).0 in
    let first : begins_column false 16 (32 ∷ 32 ∷ l) ≡ false = ap not h in
    let second : begins_column false 16 (32 ∷ l) ≡ false = no_gap_no_column false 16 (32 ∷ l) (digit_is_no_blank a digit) in
    let two : 1 + (1 + column_from false 16 l) ≡ 2 + column_from false 16 l = omega arith in
    column_on false 16 32 (32 ∷ l) first ∙ ap (λ n. 1 + n) (column_on false 16 32 l second) ∙ two

halves_by : (first second text : List ℕ) → digits_behind 0 first ≡ 16 → HasNoGap first → HasNoGap second → begins_byte second ≡ true → Ends false (16 + count_by is_hex_digit second) text
    → column_from false 0 (first ++ (32 ∷ 32 ∷ (second ++ text))) ≡ length first + (2 + length second)
halves_by first second text eight h g more column =
    column_behind false 0 first (32 ∷ 32 ∷ (second ++ text)) h
    ∙ ap (λ n. length first + column_from false n (32 ∷ 32 ∷ (second ++ text))) eight
    ∙ ap (λ n. length first + n) (over_gap (second ++ text) (byte_stays false (16 + count_by is_hex_digit second) second text more column) ∙ ap (λ n. 2 + n) (dense_size false 16 second text g column))

zero_more : (n : ℕ) → n ≡ 0 + n
zero_more n = omega arith

halves_size : (part text : List ℕ) → AreHalves part → Ends false (count_by is_hex_digit part) text → column_from false 0 (part ++ text) ≡ length part
halves_size part text h column =
    let eight : digits_behind 0 h.first ≡ 16 = counted h.first 0 ∙ ap (λ n. 0 + n) h.eight in
    let all : count_by is_hex_digit part ≡ 16 + count_by is_hex_digit h.second =
    ap (count_by is_hex_digit) h.is ∙ count_append h.first (32 ∷ 32 ∷ h.second) ∙ ap (λ n. n + count_by is_hex_digit (32 ∷ 32 ∷ h.second)) h.eight ∙ ap (λ n. 16 + n) (count_gap h.second) in
    let long : length part ≡ length h.first + (2 + length h.second) = omega (arith, ap length h.is, length-append h.first (32 ∷ 32 ∷ h.second)) in
    ap (λ (x : List ℕ). column_from false 0 (x ++ text)) h.is
    ∙ ap (column_from false 0) (append_assoc h.first (32 ∷ 32 ∷ h.second) text)
    ∙ halves_by h.first h.second text eight h.first_dense h.second_dense h.more (subst (λ n. Ends false n text) all column) ∙ sym long

part_size : (colon : Bool) (part text : List ℕ) → HasNoGap part ⊎ ((colon ≡ false) × AreHalves part) → Ends colon (count_by is_hex_digit part) text → column_from colon 0 (part ++ text) ≡ length part
part_size colon part text (inl dense) column = dense_size colon 0 part text dense (subst (λ n. Ends colon n text) (zero_more (count_by is_hex_digit part)) column)
part_size true part text (inr halves) column = cc halves.0
part_size false part text (inr halves) column = halves_size part text halves.1 column

-- ---- a line

part_back : (p : Place) (colon : Bool) (part text bytes : List ℕ) → HasNoGap part ⊎ ((colon ≡ false) × AreHalves part) → Ends colon (count_by is_hex_digit part) text → bytes_at p part ≡ Ok bytes
    → part_bytes p colon (part ++ text) ≡ Ok bytes
part_back p colon part text bytes h column ok =
    ap (λ n. bytes_at p (take n (part ++ text))) (part_size colon part text h column) ∙ ap (bytes_at p) (take_front part text) ∙ ok

margin_by : (p : Place) (m : ℕ) (ms : List ℕ) (x : ℕ) (xs text bytes : List ℕ) → AllPass is_margin (m ∷ ms) → is_hex_digit x ≡ true → HasNoGap (x ∷ xs) ⊎ ((begins_colon (m ∷ ms) ≡ false) × AreHalves (x ∷ xs))
    → Ends (begins_colon (m ∷ ms)) (count_by is_hex_digit (x ∷ xs)) text → ((q : Place) → bytes_at q (x ∷ xs) ≡ Ok bytes) → margin_bytes p ((m ∷ ms) ++ ((x ∷ xs) ++ text)) ≡ Ok bytes
margin_by p m ms x xs text bytes blank starts h column ok =
    let rest = (x ∷ xs) ++ text in
    let size = length (m ∷ ms) in
    ap (λ n. part_bytes (further p n) (begins_colon (m ∷ ms)) (drop n ((m ∷ ms) ++ rest))) (front_passes is_margin (m ∷ ms) x (xs ++ text) blank (digit_is_no_margin x starts))
    ∙ ap (part_bytes (further p size) (begins_colon (m ∷ ms))) (drop_front (m ∷ ms) rest)
    ∙ part_back (further p size) (begins_colon (m ∷ ms)) (x ∷ xs) text bytes h column (ok (further p size))

offset_by : (p : Place) (count b : ℕ) (bs : List ℕ) (size : ℕ) → prefix_len is_hex_digit (b ∷ bs) ≡ size → 0 < size → offset_of (take size (b ∷ bs)) ≡ count
    → offset_bytes p count (b ∷ bs) ≡ margin_bytes (further p size) (drop size (b ∷ bs))
offset_by p count b bs size h some is =
    let z : (size == 0) ≡ false = grind (arith, nat_tests) in
    let e : (offset_of (take size (b ∷ bs)) == count) ≡ true = eq-eqb _ _ is in
    rw (h, z, e) refl

-- a line of an offset and what stands behind it
offset_row : (line count o : ℕ) (os rest bytes : List ℕ) → IsOffset count (o ∷ os) → prefix_len is_hex_digit ((o ∷ os) ++ rest) ≡ length (o ∷ os) → ((p : Place) → margin_bytes p rest ≡ Ok bytes)
    → row_bytes line count ((o ∷ os) ++ rest) ≡ Ok bytes
offset_row line count o os rest bytes h front ok =
    let size = length (o ∷ os) in
    let there : 0 < size = omega arith in
    let is : offset_of (take size ((o ∷ os) ++ rest)) ≡ count = ap offset_of (take_front (o ∷ os) rest) ∙ h.counts in
    let p : Place = record { line = line; column = 1 + 0 } in
    ap (λ n. offset_bytes (record { line = line; column = 1 + n }) count (drop n ((o ∷ os) ++ rest))) (front_stops is_blank o (os ++ rest) (digit_is_no_blank o (All-head passes o os h.digits)))
    ∙ offset_by p count o (os ++ rest) size front there is ∙ ap (margin_bytes (further p size)) (drop_front (o ∷ os) rest) ∙ ok (further p size)

margin_is_no_digit : (b : ℕ) → is_margin b ≡ true → is_hex_digit b ≡ false
margin_is_no_digit b h = grind (arith, nat_tests)

line_by : (line count : ℕ) (offset margin part text bytes : List ℕ) → IsOffset count offset → begins is_margin margin ≡ true → AllPass is_margin margin → begins is_hex_digit part ≡ true
    → HasNoGap part ⊎ ((begins_colon margin ≡ false) × AreHalves part) → Ends (begins_colon margin) (count_by is_hex_digit part) text → ((q : Place) → bytes_at q part ≡ Ok bytes)
    → row_bytes line count (offset ++ (margin ++ (part ++ text))) ≡ Ok bytes
line_by line count [] margin part text bytes before parted blank starts h column ok = absurd (before.some refl)
line_by line count (o ∷ os) [] part text bytes before parted blank starts h column ok = cc parted
line_by line count (o ∷ os) (m ∷ ms) [] text bytes before parted blank starts h column ok = cc starts
line_by line count (o ∷ os) (m ∷ ms) (x ∷ xs) text bytes before parted blank starts h column ok =
    offset_row line count o os ((m ∷ ms) ++ ((x ∷ xs) ++ text)) bytes before
    (front_passes is_hex_digit (o ∷ os) m (ms ++ ((x ∷ xs) ++ text)) before.digits (margin_is_no_digit m parted))
    (λ p. margin_by p m ms x xs text bytes blank starts h column ok)

row_back : (line count : ℕ) (bytes l : List ℕ) → IsLine count bytes l → row_bytes line count l ≡ Ok bytes
row_back line count bytes l h =
    ap (row_bytes line count) h.is
    ∙ line_by line count h.offset h.margin h.part h.text bytes h.before h.parted h.blank h.starts h.dense h.column (λ q. decoded_is_read q h.part bytes h.decoded)

bare_back : (line count : ℕ) (l : List ℕ) → IsBare count l → row_bytes line count l ≡ Ok []
bare_back line count l (inl empty) = ap (row_bytes line count) empty
bare_back line count [] (inr offset) = refl
bare_back line count (o ∷ os) (inr offset) =
    let same : (o ∷ os) ++ [] ≡ o ∷ os = append-nil (o ∷ os) in
    ap (row_bytes line count) (sym same)
    ∙ offset_row line count o os [] [] offset (ap (prefix_len is_hex_digit) same ∙ all_pass is_hex_digit (o ∷ os) offset.digits) (λ p. refl)

-- ---- all lines

rows_back : (line count : ℕ) (bytes : List ℕ) (ls : List (List ℕ)) → AreLines count bytes ls → rows line count ls ≡ Ok bytes
rows_back line count bytes [] h = ap (λ (x : List ℕ). Ok x) (sym h)
rows_back line count bytes (l ∷ ls) (inl bare) =
    ap (λ (r : Result (List ℕ) HexFault). followed r (λ size. rows (line + 1) (count + size) ls)) (bare_back line count l bare.0)
    ∙ ap (after []) (ap (λ n. rows (line + 1) n ls) (let same : count + 0 ≡ count = omega arith in same) ∙ rows_back (line + 1) count bytes ls bare.1)
rows_back line count bytes (l ∷ ls) (inr more) =
    ap (λ (r : Result (List ℕ) HexFault). followed r (λ size. rows (line + 1) (count + size) ls)) (row_back line count more.0 l more.3)
    ∙ ap (after more.0) (rows_back (line + 1) (count + length more.0) more.1 ls more.4) ∙ ap (λ (x : List ℕ). Ok x) (sym more.2)

pub dumps_come_back : DumpsComeBack
dumps_come_back text bytes h lines = ap (λ t. cond t (dump_bytes text) (bytes_at (record { line = 1; column = 1 }) text)) h ∙ rows_back 1 0 bytes (slice_split is_newline text) lines
