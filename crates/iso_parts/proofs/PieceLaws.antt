-- What is read of a whole length and a whole body is what they tell, and a bad one is refused for what is wrong with it.
use Rattle.std.proofs.Common.{◌≡◌, ℕ, ◌+◌, ◌-◌, ◌/◌, ◌%◌, ◌≤◌, ◌<◌, Bool, true, false, ◌||◌, cond, eqb, ltb, List, [], ◌∷◌, length, get_or, Some, None, Result, Ok, Err, ◌⊎◌, refl, sym, ap, subst, ◌∙◌, inl, inr}
use Rattle.std.proofs.lemmas.Bool.{ltb-false, ltb-true, lt-ltb, cond-true, cond-false, le-ltb}
use Rattle.std.proofs.lemmas.List.{nil_from_length}
use Rattle.hex.specs.Hex.{decode_of}
use Rattle.hex.specs.declared.error.FromHexError.{FromHexError}
use Rattle.iso_parts.specs.declared.encoding.Coding.{Coding}
use Rattle.iso_parts.specs.declared.encoding.Coding.TheVariants as codings
use Rattle.iso_parts.specs.declared.digits.Digits.TheVariants as digits
use Rattle.iso_parts.specs.declared.prefix.Length.{Length}
use Rattle.iso_parts.specs.declared.prefix.Length.TheVariants as lengths
use Rattle.iso_parts.specs.declared.spec.FieldSpec.{FieldSpec}
use Rattle.iso_parts.specs.declared.fault.FieldFault.{FieldFault}
use Rattle.iso_parts.specs.declared.fault.FieldFault.TheVariants as faults
use Rattle.iso_parts.specs.Class.{is_in_class}
use Rattle.iso_parts.specs.Part.{characters, prefix}
use Rattle.iso_parts.specs.Spec.{limit}
use Rattle.iso_parts.specs.PieceLaws.{PieceLaws}
use Rattle.iso_parts.specs.Pieces.{TellsCount, IsCount, IsText, IsBadCount, IsBadBody}
use Rattle.iso_parts.specs.Reading.{◌>>=◌, prefix_size, or_bad_length, number_of, count_of, prefix_of, body_size, behind_filler, or_bad_hex, text_of, without_padding, value_of, body_of}
use Rattle.iso_parts.proofs.Pads.{without_padding-with_pads, IsUnpadded-without_padding}
use Rattle.iso_parts.proofs.Prefixes.{count_again, count_takes}
use Rattle.iso_parts.proofs.Texts.{text_again, text_takes}

abbrev AreBytes : List ℕ → Type 0
AreBytes p = (i : ℕ) → get_or p i 0 < 256

-- ---- the count of a length

count_told : (k : Length) (max c : ℕ) (p : List ℕ) → TellsCount k max c p → count_of k max p ≡ Ok c
count_told lengths.Fixed max c p told = ap Ok (sym told.1)
count_told (lengths.LL d) max c p told = ap (count_of (lengths.LL d) max) told.1 ∙ count_again (lengths.LL d) max c told.0 (λ e. absurd cc)
count_told (lengths.LLL d) max c p told = ap (count_of (lengths.LLL d) max) told.1 ∙ count_again (lengths.LLL d) max c told.0 (λ e. absurd cc)
count_told (lengths.LLLL d) max c p told = ap (count_of (lengths.LLLL d) max) told.1 ∙ count_again (lengths.LLLL d) max c told.0 (λ e. absurd cc)

-- the maximum is looked at only where the length is fixed
not_fixed : (k : Length) (max n : ℕ) (p : List ℕ) → (k ≡ lengths.Fixed → ⊥) → length p ≡ prefix_size k → AreBytes p → count_of k max p ≡ Ok n → (n ≤ limit k) × (p ≡ prefix k n)
not_fixed k max n p other len bytes h = let d = count_takes k max n p (λ e. absurd (other e)) len bytes h in (d.small, d.bytes)

count_tells : (k : Length) (max n : ℕ) (p : List ℕ) → length p ≡ prefix_size k → AreBytes p → count_of k max p ≡ Ok n → TellsCount k max n p
count_tells lengths.Fixed max n p len bytes h = let same : max ≡ n = cc in (nil_from_length p len, sym same)
count_tells (lengths.LL d) max n p len bytes h = not_fixed (lengths.LL d) max n p (λ e. absurd cc) len bytes h
count_tells (lengths.LLL d) max n p len bytes h = not_fixed (lengths.LLL d) max n p (λ e. absurd cc) len bytes h
count_tells (lengths.LLLL d) max n p len bytes h = not_fixed (lengths.LLLL d) max n p (λ e. absurd cc) len bytes h

-- ---- a length that is refused

chosen_err : {A : Type 0} (b : Bool) (d e : FieldFault) (x : A) → cond b (Ok x) (Err d) ≡ Err e → (b ≡ false) × (d ≡ e)
chosen_err true d e x h = absurd cc
chosen_err false d e x h = (refl, cc)

untold_length : (b : Bool) (n : ℕ) (e : FieldFault) → or_bad_length (cond b (Some n) None) ≡ Err e → faults.BadLengthDigits ≡ e
untold_length true n e h = absurd cc
untold_length false n e h = cc

number_err : (l : List ℕ) (e : FieldFault) → number_of l ≡ Err e → faults.BadLengthDigits ≡ e
number_err [] e h = cc
number_err (a ∷ []) e h = cc
number_err (a ∷ b ∷ []) e h = cc
number_err (a ∷ b ∷ c ∷ []) e h = cc
number_err (a ∷ b ∷ c ∷ d ∷ []) e h = untold_length _ _ e h
number_err (a ∷ b ∷ c ∷ d ∷ f ∷ l) e h = cc

after_zero_err : (b : Bool) (l : List ℕ) (e : FieldFault) → cond b (number_of l) (Err faults.BadLengthDigits) ≡ Err e → faults.BadLengthDigits ≡ e
after_zero_err true l e h = number_err l e h
after_zero_err false l e h = cc

count_err : (k : Length) (max : ℕ) (p : List ℕ) (e : FieldFault) → count_of k max p ≡ Err e → faults.BadLengthDigits ≡ e
count_err lengths.Fixed max p e h = absurd cc
count_err (lengths.LL digits.Ascii) max p e h = number_err (48 ∷ 48 ∷ p) e h
count_err (lengths.LL digits.Bcd) max p e h = number_err (48 ∷ 48 ∷ characters p) e h
count_err (lengths.LLL digits.Ascii) max p e h = number_err (48 ∷ p) e h
count_err (lengths.LLLL digits.Ascii) max p e h = number_err p e h
count_err (lengths.LLLL digits.Bcd) max p e h = number_err (characters p) e h
count_err (lengths.LLL digits.Bcd) max [] e h = cc
count_err (lengths.LLL digits.Bcd) max (x ∷ p) e h = after_zero_err (eqb (48 + x / 16) 48) (characters (x ∷ p)) e h

abbrev within : FieldSpec → ℕ → Result ℕ FieldFault
within s n = cond (ltb s.max n) (Err faults.LengthOver) (Ok n)

within_ok : (t : Bool) (n c : ℕ) → cond t (Err faults.LengthOver) (Ok n) ≡ Ok c → (t ≡ false) × (n ≡ c)
within_ok true n c h = absurd cc
within_ok false n c h = (refl, cc)

within_err : (t : Bool) (n : ℕ) (e : FieldFault) → cond t (Err faults.LengthOver) (Ok n) ≡ Err e → (t ≡ true) × (faults.LengthOver ≡ e)
within_err true n e h = (refl, cc)
within_err false n e h = absurd cc

good_count : (s : FieldSpec) (c : ℕ) (p : List ℕ) → length p ≡ prefix_size s.length → AreBytes p → (r : Result ℕ FieldFault) → count_of s.length s.max p ≡ r → r >>= within s ≡ Ok c → IsCount s c p × (c ≤ s.max)
good_count s c p len bytes (Err d) is h = absurd cc
good_count s c p len bytes (Ok n) is h =
    let got = within_ok (ltb s.max n) n c h in
    (count_tells s.length s.max c p len bytes (is ∙ ap Ok got.1), subst (λ (k : ℕ). k ≤ s.max) got.1 (ltb-false s.max n got.0))

count_is_told : (s : FieldSpec) (c : ℕ) (p : List ℕ) → IsCount s c p → c ≤ s.max → prefix_of s p ≡ Ok c
count_is_told s c p told le = ap (λ r. r >>= within s) (count_told s.length s.max c p told) ∙ cond-false (ltb s.max c) (Err faults.LengthOver) (Ok c) (le-ltb s.max c le)

refused_count : (s : FieldSpec) (e : FieldFault) (p : List ℕ) → length p ≡ prefix_size s.length → AreBytes p → (r : Result ℕ FieldFault) → count_of s.length s.max p ≡ r → r >>= within s ≡ Err e → IsBadCount s p e
refused_count s e p len bytes (Err d) is h =
    let same : faults.BadLengthDigits ≡ e = count_err s.length s.max p e (is ∙ h) in
    subst (IsBadCount s p) same (λ c told. absurd (let other : Err d ≡ Ok c = sym is ∙ count_told s.length s.max c p told in cc))
refused_count s e p len bytes (Ok n) is h =
    let got = within_err (ltb s.max n) n e h in
    subst (IsBadCount s p) got.1 (n, count_tells s.length s.max n p len bytes is, ltb-true s.max n got.0)

not_digits : (s : FieldSpec) (p : List ℕ) → length p ≡ prefix_size s.length → AreBytes p → ((c : ℕ) → IsCount s c p → ⊥) → (r : Result ℕ FieldFault) → count_of s.length s.max p ≡ r → r >>= within s ≡ Err faults.BadLengthDigits
not_digits s p len bytes none (Err d) is = ap Err (sym (count_err s.length s.max p d is))
not_digits s p len bytes none (Ok n) is = absurd (none n (count_tells s.length s.max n p len bytes is))

bad_is_refused : (s : FieldSpec) (e : FieldFault) (p : List ℕ) → length p ≡ prefix_size s.length → AreBytes p → IsBadCount s p e → prefix_of s p ≡ Err e
bad_is_refused s faults.BadLengthDigits p len bytes bad = not_digits s p len bytes bad (count_of s.length s.max p) refl
bad_is_refused s faults.LengthOver p len bytes bad =
    ap (λ r. r >>= within s) (count_told s.length s.max bad.0 p bad.1) ∙ cond-true (ltb s.max bad.0) (Err faults.LengthOver) (Ok bad.0) (lt-ltb s.max bad.0 bad.2)
bad_is_refused s faults.WrongLength p len bytes bad = absurd bad
bad_is_refused s faults.NotInClass p len bytes bad = absurd bad
bad_is_refused s faults.PadEnd p len bytes bad = absurd bad
bad_is_refused s faults.BadFiller p len bytes bad = absurd bad
bad_is_refused s faults.BadHex p len bytes bad = absurd bad
bad_is_refused s faults.Memory p len bytes bad = absurd bad

-- ---- a body that is refused

-- whose fault it is that no characters are read
abbrev IsCodingFault : Coding → FieldFault → Type 0
IsCodingFault k e = ((k ≡ codings.Bcd) × (faults.BadFiller ≡ e)) ⊎ ((k ≡ codings.HexText) × (faults.BadHex ≡ e))

filler_err : (cs : List ℕ) (e : FieldFault) → behind_filler cs ≡ Err e → faults.BadFiller ≡ e
filler_err [] e h = cc
filler_err (f ∷ w) e h = (chosen_err (eqb f 48 || eqb f 63) faults.BadFiller e w h).1

bcd_err : (t : Bool) (cs : List ℕ) (e : FieldFault) → cond t (behind_filler cs) (Ok cs) ≡ Err e → faults.BadFiller ≡ e
bcd_err true cs e h = filler_err cs e h
bcd_err false cs e h = absurd cc

hex_err : (r : Result (List ℕ) FromHexError) (e : FieldFault) → or_bad_hex r ≡ Err e → faults.BadHex ≡ e
hex_err (Ok w) e h = absurd cc
hex_err (Err d) e h = cc

text_err : (k : Coding) (n : ℕ) (p : List ℕ) (e : FieldFault) → text_of k n p ≡ Err e → IsCodingFault k e
text_err codings.Ascii n p e h = absurd cc
text_err codings.Raw n p e h = absurd cc
text_err codings.Bcd n p e h = inl (refl, bcd_err (eqb (n % 2) 1) (characters p) e h)
text_err codings.HexText n p e h = inr (refl, hex_err (decode_of p) e h)

text_told : (s : FieldSpec) (c : ℕ) (w p : List ℕ) → IsText s c w p → text_of s.coding c p ≡ Ok w
text_told s c w p text = subst (λ (n : ℕ). text_of s.coding n p ≡ Ok w) text.1 (text_again s.coding p w text.0)

text_tells : (s : FieldSpec) (c : ℕ) (w p : List ℕ) → length p ≡ body_size s.coding c → text_of s.coding c p ≡ Ok w → IsText s c w p
text_tells s c w p len h = let text = text_takes s.coding c p w len h in (text.stands, text.count)

refused_body : (s : FieldSpec) (c : ℕ) (e : FieldFault) (p : List ℕ) → length p ≡ body_size s.coding c → (r : Result (List ℕ) FieldFault) → text_of s.coding c p ≡ r → r >>= value_of s ≡ Err e → IsBadBody s c p e
refused_body s c e p len (Ok w) is h =
    let v : List ℕ = without_padding s.pad w in
    let got = chosen_err (is_in_class s.class v) faults.NotInClass e v h in
    let bare = IsUnpadded-without_padding s.pad w in
    subst (IsBadBody s c p) got.1 (w, v, text_tells s c w p len is, (length w - length v, bare.whole, bare.clean), got.0)
refused_body s c e p len (Err d) is h =
    let none : (w : List ℕ) → IsText s c w p → ⊥ = λ w text. absurd (let other : Err d ≡ Ok w = sym is ∙ text_told s c w p text in cc) in
    elim (text_err s.coding c p e (is ∙ h)) [
      | inl coded ↦ subst (IsBadBody s c p) coded.1 (coded.0, none)
      | inr coded ↦ subst (IsBadBody s c p) coded.1 (coded.0, none)
    ]

not_filled : (s : FieldSpec) (c : ℕ) (p : List ℕ) → length p ≡ body_size s.coding c → s.coding ≡ codings.Bcd → ((w : List ℕ) → IsText s c w p → ⊥) → (r : Result (List ℕ) FieldFault) → text_of s.coding c p ≡ r → r >>= value_of s ≡ Err faults.BadFiller
not_filled s c p len bcd none (Ok w) is = absurd (none w (text_tells s c w p len is))
not_filled s c p len bcd none (Err d) is =
    elim (text_err s.coding c p d is) [
      | inl coded ↦ ap Err (sym coded.1)
      | inr coded ↦ absurd (let other : codings.Bcd ≡ codings.HexText = sym bcd ∙ coded.0 in cc)
    ]

not_hex : (s : FieldSpec) (c : ℕ) (p : List ℕ) → length p ≡ body_size s.coding c → s.coding ≡ codings.HexText → ((w : List ℕ) → IsText s c w p → ⊥) → (r : Result (List ℕ) FieldFault) → text_of s.coding c p ≡ r → r >>= value_of s ≡ Err faults.BadHex
not_hex s c p len hex none (Ok w) is = absurd (none w (text_tells s c w p len is))
not_hex s c p len hex none (Err d) is =
    elim (text_err s.coding c p d is) [
      | inl coded ↦ absurd (let other : codings.HexText ≡ codings.Bcd = sym hex ∙ coded.0 in cc)
      | inr coded ↦ ap Err (sym coded.1)
    ]

bad_body_is_refused : (s : FieldSpec) (c : ℕ) (e : FieldFault) (p : List ℕ) → length p ≡ body_size s.coding c → IsBadBody s c p e → body_of s c p ≡ Err e
bad_body_is_refused s c faults.BadFiller p len bad = not_filled s c p len bad.0 bad.1 (text_of s.coding c p) refl
bad_body_is_refused s c faults.BadHex p len bad = not_hex s c p len bad.0 bad.1 (text_of s.coding c p) refl
bad_body_is_refused s c faults.NotInClass p len bad =
    let w : List ℕ = bad.0 in
    let bare : without_padding s.pad w ≡ bad.1 = ap (without_padding s.pad) (sym bad.3.1) ∙ without_padding-with_pads s.pad bad.3.0 bad.1 bad.3.2 in
    ap (λ r. r >>= value_of s) (text_told s c w p bad.2)
    ∙ cond-false (is_in_class s.class (without_padding s.pad w)) (Ok (without_padding s.pad w)) (Err faults.NotInClass) (ap (is_in_class s.class) bare ∙ bad.4)
bad_body_is_refused s c faults.WrongLength p len bad = absurd bad
bad_body_is_refused s c faults.PadEnd p len bad = absurd bad
bad_body_is_refused s c faults.BadLengthDigits p len bad = absurd bad
bad_body_is_refused s c faults.LengthOver p len bad = absurd bad
bad_body_is_refused s c faults.Memory p len bad = absurd bad

pub piece_laws : PieceLaws
piece_laws = record {
  count = λ s c p good bytes len. (good_count s c p len bytes (count_of s.length s.max p) refl, λ h. count_is_told s c p h.0 h.1);
  bad_count = λ s e p good bytes len. (refused_count s e p len bytes (count_of s.length s.max p) refl, bad_is_refused s e p len bytes);
  bad_body = λ s c e p len. (refused_body s c e p len (text_of s.coding c p) refl, bad_body_is_refused s c e p len);
}
