-- The object of a message in clear says that very message.
use Rattle.std.proofs.Common.{◌≡◌, ℕ, ◌+◌, ◌-◌, ◌*◌, ◌/◌, ◌%◌, ◌<◌, ◌≤◌, Bool, true, false, List, [], ◌∷◌, ◌++◌, Option, Some, None, Result, Ok, Err, inl, inr, refl, ap, subst, sym, ◌∙◌, arith, append_assoc, append-nil}
use Rattle.std.specs.Prelude.{◌||◌, ◌==◌, max, nat_le, if◌then◌else◌, decimal, option_and_then, IfOk, IfErr, MatchResult}
use Rattle.std.proofs.lemmas.Bool.{and_from, eq-eqb, eqb-true, le-leb, lt-ltb, ne_eqb}
use Rattle.hex.specs.Hex.{IsBytes}
use Rattle.hex.proofs.HexLemmas.{decode_of-encode_upper}
use Rattle.json.specs.Json.{string, object, Members, no_members, member, document, max_depth}
use Rattle.json.specs.Tree.{HasNumbers, MembersHaveNumbers, depth, members_depth}
use Rattle.json.proofs.Printed.Trees.{document-print}
use Rattle.iso_parts.specs.Class.{is_digit}
use Rattle.iso_parts.specs.Digits.{four_digits_of}
use Rattle.iso_parts.specs.Mti.{digits_in}
use Rattle.iso_parts.specs.declared.class.CharClass.{CharClass}
use Rattle.iso_parts.specs.declared.class.CharClass.TheVariants as classes
use Rattle.iso_parts.specs.declared.digits.Digits.TheVariants.{Ascii}
use Rattle.iso_parts.specs.declared.spec.FieldSpec.{FieldSpec}
use Rattle.iso_table.specs.Layout.{Layout, row_at}
use Rattle.iso_wire.specs.Contents.{Contents}
use Rattle.iso_wire.specs.Describing.{class_by, clear_text}
use Rattle.iso_wire.specs.Elements.{IsAscending, IsBelow, put}
use Rattle.iso_wire.specs.Refusal.{first_refusal}
use Rattle.iso_wire.specs.declared.fault.PackFault.{PackFault}
use Rattle.iso_wire.specs.declared.fault.PackFault.TheVariants.{WrongVersion}
use Rattle.iso_json.specs.declared.complaint.Complaint.{Complaint}
use Rattle.iso_json.specs.declared.complaint.Place.TheVariants as places
use Rattle.iso_json.specs.declared.complaint.Refusal.{Refusal}
use Rattle.iso_json.specs.declared.complaint.Refusal.TheVariants as refusals
use Rattle.iso_json.specs.declared.complaint.Trouble.{Trouble}
use Rattle.iso_json.specs.declared.complaint.Trouble.TheVariants as troubles
use Rattle.iso_json.specs.RoundTrip.{IsClearJson, clear_members, clear_object}
use Rattle.std.specs.Str.{IsUtf8}
use Rattle.iso_json.specs.Said.{AreOf, ArisesFrom, IsMessage, complaints_in, contents_of, elements_key, heard_in, mti_key}
use Rattle.iso_json.specs.Heard.{Heard, also, complained, entry_value, none_seen, or_zero, seen_with, trouble_in, type_at, type_of, with_entries, with_entry, with_value}
use Rattle.iso_json.specs.Texts.{bytes_of, decoded, element_number, fitting, number_of, unless_refused, value_of}
use Rattle.iso_json.proofs.Printing.{json_printed, json_utf8, number_read}
use Rattle.iso_json.proofs.Ready.{AreReady, IsReady, are_ready}

-- ---- values

bytes_back : (class : CharClass) (v : List ℕ) → IsBytes v → bytes_of class (clear_text class v) ≡ Ok v
bytes_back classes.B v bytes = ap decoded (decode_of-encode_upper v bytes)
bytes_back classes.N v bytes = refl
bytes_back classes.A v bytes = refl
bytes_back classes.AN v bytes = refl
bytes_back classes.ANS v bytes = refl
bytes_back classes.Z v bytes = refl
bytes_back classes.ZD v bytes = refl
bytes_back classes.XN v bytes = refl

-- the text of an element's value
abbrev text_of : List (Option FieldSpec) → ℕ × List ℕ → List ℕ
text_of rows e = clear_text (class_by (row_at rows e.0)) e.1

value_back : (rows : List (Option FieldSpec)) (e : ℕ × List ℕ) → IsReady rows e → value_of (row_at rows e.0) e.0 (text_of rows e) ≡ Ok e.1
value_back rows e ready =
    ap (λ (r : Option FieldSpec). value_of r e.0 (clear_text (class_by r) e.1)) ready.found
    ∙ ap (λ (b : Bool). if b then Err troubles.Masked else fitting ready.row (bytes_of ready.row.class (clear_text ready.row.class e.1))) ready.clear
    ∙ ap (fitting ready.row) (bytes_back ready.row.class e.1 ready.bytes)
    ∙ ap (unless_refused e.1) ready.fits

number_back : (rows : List (Option FieldSpec)) (e : ℕ × List ℕ) → IsReady rows e → number_of (decimal e.0) ≡ Some e.0
number_back rows e ready =
    ap (option_and_then element_number) (number_read e.0 ready.most) ∙ ap (λ (b : Bool). if b then Some e.0 else None) ready.number

entry_back : (rows : List (Option FieldSpec)) (seen : ℕ → Bool) (e : ℕ × List ℕ) → IsReady rows e → seen e.0 ≡ false → entry_value rows seen e.0 (string (text_of rows e)) ≡ Ok e.1
entry_back rows seen e ready fresh =
    ap (λ (b : Bool). if b then Err troubles.Twice else value_of (row_at rows e.0) e.0 (text_of rows e)) fresh ∙ value_back rows e ready

-- ---- elements

below_more : (low n : ℕ) (es : List (ℕ × List ℕ)) → low ≤ n → IsBelow low es → IsBelow n es
below_more low n [] le below = tt
below_more low n (e ∷ es) le below = (omega arith, below_more low n es le below.1)

below_push : (n : ℕ) (v : List ℕ) (es : List (ℕ × List ℕ)) → IsBelow n es → IsBelow (n + 1) (es ++ (n, v) ∷ [])
below_push n v [] below = (omega arith, tt)
below_push n v (e ∷ es) below = (omega arith, below_push n v es below.1)

put_last : (n : ℕ) (v : List ℕ) (es : List (ℕ × List ℕ)) → IsBelow n es → put n v es ≡ es ++ (n, v) ∷ []
put_last n v [] below = refl
put_last n v (e ∷ es) below = rw (lt-ltb e.0 n below.0) (ap (λ (xs : List (ℕ × List ℕ)). e ∷ xs) (put_last n v es below.1))

also_fresh : (n k : ℕ) (seen : ℕ → Bool) → n < k → seen k ≡ false → also n seen k ≡ false
also_fresh n k seen lt h = ap (λ (b : Bool). b || seen k) (ne_eqb k n (λ e. omega arith)) ∙ h

-- elements and no complaints
abbrev only : List (ℕ × List ℕ) → Heard
only es = record { elements = es; complaints = [] }

step_back : (rows : List (Option FieldSpec)) (seen : ℕ → Bool) (at : ℕ) (e : ℕ × List ℕ) (ms : Members) (done : List (ℕ × List ℕ)) → IsReady rows e → seen e.0 ≡ false → IsBelow e.0 done
    → with_entries rows seen at (member (decimal e.0) (string (text_of rows e)) ms) (only done) ≡ with_entries rows (also e.0 seen) (at + 1) ms (only (done ++ e ∷ []))
step_back rows seen at e ms done ready fresh below =
    ap (λ (o : Option ℕ). with_entries rows (seen_with o seen) (at + 1) ms (with_entry rows seen (record { at = at; number = o; value = string (text_of rows e) }) (only done))) (number_back rows e ready)
    ∙ ap (λ (r : Result (List ℕ) Trouble). with_entries rows (also e.0 seen) (at + 1) ms (with_value (places.Entry (at + 1)) e.0 r (only done))) (entry_back rows seen e ready fresh)
    ∙ ap (λ (xs : List (ℕ × List ℕ)). with_entries rows (also e.0 seen) (at + 1) ms (only xs)) (put_last e.0 e.1 done below)

elements_back : (rows : List (Option FieldSpec)) (es : List (ℕ × List ℕ)) (low at : ℕ) (seen : ℕ → Bool) (done : List (ℕ × List ℕ)) → AreReady rows es → IsAscending low es → IsBelow low done
    → ((k : ℕ) → low ≤ k → seen k ≡ false) → with_entries rows seen at (clear_members rows es) (only done) ≡ only (done ++ es)
elements_back rows [] low at seen done ready up below fresh = ap only (sym (append-nil done))
elements_back rows (e ∷ es) low at seen done ready up below fresh =
    let here : IsBelow e.0 done = below_more low e.0 done up.0 below in
    step_back rows seen at e (clear_members rows es) done ready.0 (fresh e.0 up.0) here
    ∙ elements_back rows es (e.0 + 1) (at + 1) (also e.0 seen) (done ++ e ∷ []) ready.1 up.3 (below_push e.0 e.1 done here) (λ k le. also_fresh e.0 k seen (omega arith) (fresh k (omega arith)))
    ∙ ap only (append_assoc done (e ∷ []) es)

-- ---- the type

digit_is : (b : ℕ) → 48 ≤ b → b ≤ 57 → is_digit b ≡ true
digit_is b low high = and_from (nat_le 48 b) (nat_le b 57) (le-leb 48 b low) (le-leb b 57 high)

digits_back : (a b c d : ℕ) → a < 10 → b < 10 → c < 10 → d < 10 → digits_in ((48 + a) ∷ (48 + b) ∷ (48 + c) ∷ (48 + d) ∷ []) ≡ Some (a, b, c, d)
digits_back a b c d p q r s =
    let first : 48 + a - 48 ≡ a = omega arith in
    let second : 48 + b - 48 ≡ b = omega arith in
    let third : 48 + c - 48 ≡ c = omega arith in
    let fourth : 48 + d - 48 ≡ d = omega arith in
    rw (
      digit_is (48 + a) (omega arith) (omega arith),
      digit_is (48 + b) (omega arith) (omega arith),
      digit_is (48 + c) (omega arith) (omega arith),
      digit_is (48 + d) (omega arith) (omega arith),
    ) (rw (first, second, third, fourth) refl)

number_of_digits : (n : ℕ) → n < 10000 → 1000 * (n / 1000) + 100 * (n / 100 % 10) + 10 * (n / 10 % 10) + n % 10 ≡ n
number_of_digits n lt = omega arith

type_back : (version n : ℕ) → n < 10000 → n / 1000 ≡ version → type_at version (Some (string (four_digits_of Ascii n))) ≡ Ok n
type_back version n lt e =
    ap (type_of version) (digits_back (n / 1000) (n / 100 % 10) (n / 10 % 10) (n % 10) (omega arith) (omega arith) (omega arith) (omega arith))
    ∙ ap (λ (b : Bool). if b then Ok (1000 * (n / 1000) + 100 * (n / 100 % 10) + 10 * (n / 10 % 10) + n % 10) else Err troubles.WrongVersion) (eq-eqb (n / 1000) version e)
    ∙ ap (λ (k : ℕ). Ok k) (number_of_digits n lt)

-- ---- the whole

-- the members of the object
abbrev members_of_clear : Layout → Contents → Members
members_of_clear t m = member mti_key (string (four_digits_of Ascii m.mti)) (member elements_key (object (clear_members t.rows m.elements)) no_members)

heard_back : (t : Layout) (m : Contents) → AreReady t.rows m.elements → IsAscending 2 m.elements → type_at t.version (Some (string (four_digits_of Ascii m.mti))) ≡ Ok m.mti → heard_in t (members_of_clear t m) ≡ only m.elements
heard_back t m ready up type =
    ap (λ (r : Result ℕ Trouble). with_entries t.rows none_seen 0 (clear_members t.rows m.elements) (record { elements = []; complaints = complained places.Whole (trouble_in r) })) type
    ∙ elements_back t.rows m.elements 2 0 none_seen [] ready up tt (λ k le. refl)

same_contents : (a b : Contents) → a.mti ≡ b.mti → a.elements ≡ b.elements → a ≡ b
same_contents a b p q = λ i. record { mti = p i; elements = q i }

both_accepted : (b : Bool) (o : Option PackFault) → (if b then o else Some WrongVersion) ≡ None → (b ≡ true) × (o ≡ None)
both_accepted true o h = (refl, h)
both_accepted false o h = absurd (cc)

members_flat : (rows : List (Option FieldSpec)) (es : List (ℕ × List ℕ)) → members_depth (clear_members rows es) ≡ 0
members_flat rows [] = refl
members_flat rows (e ∷ es) = ap (max 0) (members_flat rows es)

shallow : (t : Layout) (m : Contents) → depth (clear_object t m) ≤ max_depth
shallow t m = rw (members_flat t.rows m.elements) (omega arith)

members_numbered : (rows : List (Option FieldSpec)) (es : List (ℕ × List ℕ)) → MembersHaveNumbers (clear_members rows es)
members_numbered rows [] = tt
members_numbered rows (e ∷ es) = (tt, members_numbered rows es)

numbered : (t : Layout) (m : Contents) → HasNumbers (clear_object t m)
numbered t m = (tt, (members_numbered t.rows m.elements, tt))

pub clear_says : (t : Layout) (m : Contents) (text : List ℕ) → IsClearJson t m text → IsMessage t text m
clear_says t m text clear =
    let both = both_accepted (m.mti / 1000 == t.version) (first_refusal t.rows m.elements) clear.accepted in
    let up = clear.formed.ascending in
    let ready : AreReady t.rows m.elements = are_ready t.rows m.elements 2 (omega arith) up clear.formed.bytes both.1 clear.no_stars in
    let type = type_back t.version m.mti clear.formed.mti (eqb-true (m.mti / 1000) t.version both.0) in
    let heard = heard_back t m ready up type in
    let printed = json_printed t m clear.formed.mti ready in (
      clear_object t m,
      subst IsUtf8 (sym clear.written) (json_utf8 t m clear.formed.mti ready),
      ap document (clear.written ∙ sym printed) ∙ document-print (clear_object t m) (numbered t m) (shallow t m),
      (
        members_of_clear t m,
        refl,
        ap (λ (h : Heard). h.complaints) heard,
        same_contents m _ (sym (ap or_zero type)) (sym (ap (λ (h : Heard). h.elements) heard)),
      ),
    )

-- ---- what is read is the only message

said_once : (t : Layout) (text : List ℕ) (a b : Contents) → IsMessage t text a → IsMessage t text b → a ≡ b
said_once t text a b first second =
    let value : first.0 ≡ second.0 = cc (first.2, second.2) in
    let said : object first.3.0 ≡ object second.3.0 = sym first.3.1 ∙ value ∙ second.3.1 in
    let members : first.3.0 ≡ second.3.0 = cc in
    first.3.3 ∙ ap (contents_of t) members ∙ sym second.3.3

never_complained : (t : Layout) (text : List ℕ) (m : Contents) (cs : List Complaint) → IsMessage t text m → ArisesFrom t text cs → ⊥
never_complained t text m cs said (inl refused) = let none = refused.0 said.1 in cc (none, said.2)
never_complained t text m cs said (inr refused) =
    let value : refused.0 ≡ said.0 = cc (refused.2, said.2) in
    refused.4 (refused.3 ∙ ap (complaints_in t) (value ∙ said.3.1) ∙ said.3.2)

pub comes_back : (t : Layout) (text : List ℕ) (m : Contents) (r : Result Contents Refusal) → IsMessage t text m → IfOk r (λ read. IsMessage t text read) → IfErr r (λ e. AreOf t text e)
    → MatchResult r (λ read. read ≡ m) (λ e. e ≡ refusals.Memory)
comes_back t text m (Ok read) said ok err = said_once t text read m ok said
comes_back t text m (Err (refusals.Complaints cs)) said ok err = absurd (never_complained t text m cs.items said err)
comes_back t text m (Err refusals.Memory) said ok err = refl
