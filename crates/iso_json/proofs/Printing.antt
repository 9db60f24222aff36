-- The JSON of a message in clear is the text of its object's tokens.
use Rattle.std.proofs.Common.{◌≡◌, ℕ, ◌+◌, ◌/◌, ◌%◌, ◌<◌, Bool, true, false, List, [], ◌∷◌, ◌++◌, Option, Some, None, refl, ap, sym, ◌∙◌, arith, append_assoc}
use Rattle.std.specs.Prelude.{◌&&◌, ◌==◌, not, if◌then◌else◌, length, codes, decimal, unwrap_or}
use Rattle.std.specs.List.{flat_map, list_all}
use Rattle.std.specs.Str.{IsUtf8}
use Rattle.std.proofs.lemmas.Bool.{agree_below_at, and_parts, eqb-true}
use Rattle.std.proofs.lemmas.Str.{IsUtf8-from_ascii}
use Rattle.std.specs.Fmt.{digits}
use Rattle.json.specs.Token.{Token}
use Rattle.json.specs.Print.{escape, escape_byte, print, print_from, quoted, separator}
use Rattle.json.specs.Tree.{json_tokens, members_tokens}
use Rattle.iso_parts.specs.Digits.{four_digits_of}
use Rattle.iso_parts.specs.Spec.{has_pad_end, is_length}
use Rattle.iso_parts.specs.declared.fault.FieldFault.TheVariants.{WrongLength, NotInClass, PadEnd}
use Rattle.iso_parts.specs.Class.{is_in_class}
use Rattle.iso_parts.specs.declared.digits.Digits.TheVariants.{Ascii}
use Rattle.iso_parts.specs.declared.spec.FieldSpec.{FieldSpec}
use Rattle.iso_table.specs.Layout.{Layout, row_at}
use Rattle.iso_wire.specs.Contents.{Contents}
use Rattle.iso_wire.specs.Decimal.{number_in}
use Rattle.iso_wire.specs.Describing.{class_by, clear_text}
use Rattle.iso_json.specs.Written.{escaped, is_plain, further_members, json_member, json_members, json_of}
use Rattle.iso_json.specs.Said.{elements_key, mti_key}
use Rattle.iso_json.specs.RoundTrip.{clear_members, clear_object}
use Rattle.iso_json.proofs.Printable.{both_printable, digit_plain, escape_plain, escaped_all_printable, escaped_as, is_printable, plain_printable, printable_ascii, text_printable}
use Rattle.iso_json.proofs.Ready.{AreReady, IsReady}

-- ---- numbers of elements

-- what is tested of the number of each element
abbrev is_small : ℕ → Bool
is_small n = list_all is_plain (decimal n) && (unwrap_or (number_in 1 3 (decimal n)) 999 == n)

small : (n : ℕ) → n < 129 → is_small n ≡ true
unfolding digits
small n lt = agree_below_at is_small (λ k. true) 129 n refl lt

pub number_plain : (n : ℕ) → n < 129 → list_all is_plain (decimal n) ≡ true
number_plain n lt = (and_parts (list_all is_plain (decimal n)) (unwrap_or (number_in 1 3 (decimal n)) 999 == n) (small n lt)).0

some_from : (o : Option ℕ) (n : ℕ) → n < 129 → unwrap_or o 999 ≡ n → o ≡ Some n
some_from (Some v) n lt e = ap Some e
some_from None n lt e = absurd (omega arith)

pub number_read : (n : ℕ) → n < 129 → number_in 1 3 (decimal n) ≡ Some n
number_read n lt =
    some_from (number_in 1 3 (decimal n)) n lt (eqb-true (unwrap_or (number_in 1 3 (decimal n)) 999) n (and_parts (list_all is_plain (decimal n)) (unwrap_or (number_in 1 3 (decimal n)) 999 == n) (small n lt)).1)

-- ---- texts

in_class : (fits within padded : Bool) → (if not fits then Some WrongLength else if not within then Some NotInClass else if padded then Some PadEnd else None) ≡ None → within ≡ true
in_class false within padded h = absurd (cc)
in_class true false padded h = absurd (cc)
in_class true true padded h = refl

-- the text of an element's value
abbrev text_of : List (Option FieldSpec) → ℕ × List ℕ → List ℕ
text_of rows e = clear_text (class_by (row_at rows e.0)) e.1

text_ready : (rows : List (Option FieldSpec)) (e : ℕ × List ℕ) → IsReady rows e → list_all is_printable (text_of rows e) ≡ true
text_ready rows e ready =
    ap (λ (r : Option FieldSpec). list_all is_printable (clear_text (class_by r) e.1)) ready.found
    ∙ text_printable ready.row.class e.1 ready.bytes (in_class (is_length ready.row (length e.1)) (is_in_class ready.row.class e.1) (has_pad_end ready.row.pad e.1) ready.fits)

-- ---- members

four_joined : (a b c x : List ℕ) → ((a ++ b) ++ c) ++ x ≡ a ++ (b ++ (c ++ x))
four_joined a b c x = append_assoc (a ++ b) c x ∙ append_assoc a b (c ++ x)

-- a name and a text as the library writes them
library_member : (k text rest : List ℕ) → (quoted k ++ 58 ∷ []) ++ (quoted text ++ rest) ≡ 34 ∷ (escape k ++ (34 ∷ 58 ∷ 34 ∷ (escape text ++ (34 ∷ rest))))
library_member k text rest =
    ap (λ (xs : List ℕ). 34 ∷ xs) (four_joined (escape k) (34 ∷ []) (58 ∷ []) (quoted text ++ rest))
    ∙ ap (λ (xs : List ℕ). 34 ∷ (escape k ++ (34 ∷ 58 ∷ 34 ∷ xs))) (append_assoc (escape text) (34 ∷ []) rest)

-- and as they are written here
own_member : (k text rest : List ℕ) → (34 ∷ (k ++ (codes "\":\"" ++ (text ++ 34 ∷ [])))) ++ rest ≡ 34 ∷ (k ++ (34 ∷ 58 ∷ 34 ∷ (text ++ (34 ∷ rest))))
own_member k text rest =
    ap (λ (xs : List ℕ). 34 ∷ xs) (append_assoc k (codes "\":\"" ++ (text ++ 34 ∷ [])) rest)
    ∙ ap (λ (xs : List ℕ). 34 ∷ (k ++ (34 ∷ 58 ∷ 34 ∷ xs))) (append_assoc text (34 ∷ []) rest)

one_member : (k text rest : List ℕ) → escape k ≡ k → flat_map escaped text ≡ escape text
    → (quoted k ++ 58 ∷ []) ++ (quoted text ++ rest) ≡ (34 ∷ (k ++ (codes "\":\"" ++ (flat_map escaped text ++ 34 ∷ [])))) ++ rest
one_member k text rest p q =
    library_member k text rest
    ∙ ap (λ (xs : List ℕ). 34 ∷ (xs ++ (34 ∷ 58 ∷ 34 ∷ (escape text ++ (34 ∷ rest))))) p
    ∙ ap (λ (xs : List ℕ). 34 ∷ (k ++ (34 ∷ 58 ∷ 34 ∷ (xs ++ (34 ∷ rest))))) (sym q)
    ∙ sym (own_member k (flat_map escaped text) rest)

member_is : (rows : List (Option FieldSpec)) (e : ℕ × List ℕ) (rest : List ℕ) → IsReady rows e → (quoted (decimal e.0) ++ 58 ∷ []) ++ (quoted (text_of rows e) ++ rest) ≡ json_member true rows e ++ rest
member_is rows e rest ready = one_member (decimal e.0) (text_of rows e) rest (escape_plain (decimal e.0) (number_plain e.0 ready.most)) (escaped_as (text_of rows e) (text_ready rows e ready))

-- the tokens of an element's member, where a value stands before it or not
printed : (after : List ℕ) (c : Bool) (k text : List ℕ) (ts : List Token) → separator c (Token.key k) ≡ after
    → print_from c (Token.key k ∷ (Token.string text ∷ ts)) ≡ after ++ ((quoted k ++ 58 ∷ []) ++ (quoted text ++ print_from true ts))
unfolding print_from
printed after c k text ts h = rw h refl

further_printed : (rows : List (Option FieldSpec)) (es : List (ℕ × List ℕ)) (ts : List Token) → AreReady rows es
    → print_from true (members_tokens (clear_members rows es) ++ ts) ≡ further_members true rows es ++ (125 ∷ print_from true ts)
unfolding print_from
further_printed rows [] ts ready = refl
further_printed rows (e ∷ es) ts ready =
    printed (44 ∷ []) true (decimal e.0) (text_of rows e) (members_tokens (clear_members rows es) ++ ts) refl
    ∙ ap (λ (xs : List ℕ). 44 ∷ xs) (member_is rows e (print_from true (members_tokens (clear_members rows es) ++ ts)) ready.0)
    ∙ ap (λ (xs : List ℕ). 44 ∷ (json_member true rows e ++ xs)) (further_printed rows es ts ready.1)
    ∙ sym (append_assoc (44 ∷ json_member true rows e) (further_members true rows es) (125 ∷ print_from true ts))

members_printed : (rows : List (Option FieldSpec)) (es : List (ℕ × List ℕ)) (ts : List Token) → AreReady rows es
    → print_from false (members_tokens (clear_members rows es) ++ ts) ≡ json_members true rows es ++ (125 ∷ print_from true ts)
unfolding print_from
members_printed rows [] ts ready = refl
members_printed rows (e ∷ es) ts ready =
    printed [] false (decimal e.0) (text_of rows e) (members_tokens (clear_members rows es) ++ ts) refl
    ∙ member_is rows e (print_from true (members_tokens (clear_members rows es) ++ ts)) ready.0
    ∙ ap (λ (xs : List ℕ). json_member true rows e ++ xs) (further_printed rows es ts ready.1)
    ∙ sym (append_assoc (json_member true rows e) (further_members true rows es) (125 ∷ print_from true ts))

-- ---- the whole

whole : (d body : List ℕ) (ts : List Token) → escape d ≡ d → print_from false (ts ++ Token.end_object ∷ []) ≡ body ++ codes "}}"
    → print_from false (Token.begin_object ∷ Token.key mti_key ∷ Token.string d ∷ Token.key elements_key ∷ Token.begin_object ∷ (ts ++ Token.end_object ∷ [])) ≡ codes "{\"mti\":\"" ++ (d ++ (codes "\",\"elements\":{" ++ (body ++ codes "}}")))
unfolding print_from escape_byte
whole d body ts p q =
    rw (p, q) (ap (λ (xs : List ℕ). codes "{\"mti\":\"" ++ xs) (append_assoc d (34 ∷ []) (codes ",\"elements\":{" ++ (body ++ codes "}}"))))

digits_plain : (n : ℕ) → n < 10000 → list_all is_plain (four_digits_of Ascii n) ≡ true
digits_plain n lt =
    rw (
      digit_plain (48 + n / 1000) (omega arith) (omega arith),
      digit_plain (48 + n / 100 % 10) (omega arith) (omega arith),
      digit_plain (48 + n / 10 % 10) (omega arith) (omega arith),
      digit_plain (48 + n % 10) (omega arith) (omega arith),
    ) refl

-- the JSON is what the library writes of the object
pub json_printed : (t : Layout) (m : Contents) → m.mti < 10000 → AreReady t.rows m.elements → print (json_tokens (clear_object t m)) ≡ json_of true t m
unfolding print_from
json_printed t m lt ready =
    whole (four_digits_of Ascii m.mti) (json_members true t.rows m.elements) (members_tokens (clear_members t.rows m.elements)) (escape_plain (four_digits_of Ascii m.mti) (digits_plain m.mti lt))
    (members_printed t.rows m.elements (Token.end_object ∷ []) ready)

-- ---- it is text

member_printable : (rows : List (Option FieldSpec)) (e : ℕ × List ℕ) → IsReady rows e → list_all is_printable (json_member true rows e) ≡ true
member_printable rows e ready =
    both_printable (decimal e.0) (codes "\":\"" ++ (flat_map escaped (text_of rows e) ++ 34 ∷ [])) (plain_printable (decimal e.0) (number_plain e.0 ready.most))
    (both_printable (flat_map escaped (text_of rows e)) (34 ∷ []) (escaped_all_printable (text_of rows e) (text_ready rows e ready)) refl)

further_printable : (rows : List (Option FieldSpec)) (es : List (ℕ × List ℕ)) → AreReady rows es → list_all is_printable (further_members true rows es) ≡ true
further_printable rows [] ready = refl
further_printable rows (e ∷ es) ready = both_printable (json_member true rows e) (further_members true rows es) (member_printable rows e ready.0) (further_printable rows es ready.1)

members_printable : (rows : List (Option FieldSpec)) (es : List (ℕ × List ℕ)) → AreReady rows es → list_all is_printable (json_members true rows es) ≡ true
members_printable rows [] ready = refl
members_printable rows (e ∷ es) ready = both_printable (json_member true rows e) (further_members true rows es) (member_printable rows e ready.0) (further_printable rows es ready.1)

pub json_utf8 : (t : Layout) (m : Contents) → m.mti < 10000 → AreReady t.rows m.elements → IsUtf8 (json_of true t m)
json_utf8 t m lt ready =
    let tail = both_printable (json_members true t.rows m.elements) (codes "}}") (members_printable t.rows m.elements ready) refl in
    let all : list_all is_printable (json_of true t m) ≡ true =
    both_printable (four_digits_of Ascii m.mti) (codes "\",\"elements\":{" ++ (json_members true t.rows m.elements ++ codes "}}")) (plain_printable (four_digits_of Ascii m.mti) (digits_plain m.mti lt)) tail in
    IsUtf8-from_ascii (json_of true t m) (printable_ascii (json_of true t m) all)
