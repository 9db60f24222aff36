-- What is written is the plain spelling, and a message that has a spelling is not refused.
use Rattle.std.specs.Option.{option_or}
use Rattle.std.proofs.Common.{◌≡◌, ◌≢◌, ℕ, ◌/◌, ◌≤◌, ◌<◌, Bool, true, cond, eqb, List, [], ◌∷◌, ◌++◌, length, take, drop, Option, Some, None, Result, Ok, Err, refl, sym, ap, subst, ◌∙◌, append_assoc, arith}
use Rattle.std.specs.Prelude.{IfErr}
use Rattle.std.specs.List.{flat_map}
use Rattle.std.proofs.lemmas.Bool.{eq-eqb}
use Rattle.std.proofs.lemmas.Bool.Decides.{nat_tests}
use Rattle.iso_parts.specs.Digits.{four_digits_of}
use Rattle.iso_parts.specs.declared.bitmap.BitmapCoding.{BitmapCoding}
use Rattle.iso_parts.specs.declared.bitmap.BitmapCoding.TheVariants.{Raw}
use Rattle.iso_parts.specs.declared.spec.FieldSpec.{FieldSpec}
use Rattle.iso_parts.specs.Bitmap.{PlainBitmaps}
use Rattle.iso_parts.specs.Buffers.{Keeps}
use Rattle.iso_parts.specs.Spec.{refusal, Fits}
use Rattle.iso_wire.specs.declared.fault.PackFault.{PackFault}
use Rattle.iso_wire.specs.declared.fault.PackFault.TheVariants.{WrongVersion, NoRow, WrongLength, NotInClass, PadEnd, Memory}
use Rattle.iso_wire.specs.Contents.{Contents}
use Rattle.iso_wire.specs.Elements.{has, IsAscending}
use Rattle.iso_table.specs.Layout.{Layout, row_at, AreGood}
use Rattle.iso_wire.specs.Reading.{message_at, whole}
use Rattle.iso_wire.specs.Refusal.{refused_field, refused_by, first_refusal, message_refusal}
use Rattle.iso_wire.specs.Spelling.{AreBytes, PartAs, Parts, plain_of, Spelling, PlainSpelling}
use Rattle.iso_wire.specs.ReadingLaws.{ReadsSpellings}
use Rattle.std.proofs.lemmas.List.{drop_at, take_at, take_all, take-take, take-append-drop, length-append}
use Rattle.iso_wire.proofs.Bytes.{bytes_append, bytes_drop}
use Rattle.iso_wire.proofs.Messages.{maps_agree}
use Rattle.iso_wire.proofs.Unpacks.{spelled_is_read}
use Rattle.iso_wire.proofs.Orders.{Values}

-- ---- faults

refusal_from_fits : (s : FieldSpec) (v : List ℕ) → Fits s v → refusal s v ≡ None
refusal_from_fits s v fits = rw (fits.length, fits.class, fits.pad) refl

part_taken : (rows : List (Option FieldSpec)) (n : ℕ) (v b : List ℕ) → PartAs rows n v b → refused_by (row_at rows n) n v ≡ None
part_taken rows n v b part = ap (λ (r : Option FieldSpec). refused_by r n v) part.1 ∙ ap (refused_field n) (refusal_from_fits part.0 v part.2.1.0)

parts_taken : (rows : List (Option FieldSpec)) (es : Values) (b : List ℕ) → Parts rows es b → first_refusal rows es ≡ None
parts_taken rows [] b parts = refl
parts_taken rows (e ∷ es) b parts = ap (λ (o : Option PackFault). option_or o (first_refusal rows es)) (part_taken rows e.0 e.1 parts.0 parts.2) ∙ parts_taken rows es parts.1 parts.3

-- a message that has a spelling is not refused
spelled_taken : (t : Layout) (m : Contents) (b : List ℕ) → Spelling t m b → message_refusal t m ≡ None
spelled_taken t m b s =
    let same : eqb (m.mti / 1000) t.version ≡ true = let v = s.version in grind (arith, nat_tests) in
    rw same (parts_taken t.rows m.elements s.parts s.elements)

memory_or : (e : PackFault) → (e ≢ Memory → ⊥) → e ≡ Memory
memory_or Memory h = refl
memory_or WrongVersion h = absurd (h (λ same. cc))
memory_or (NoRow n) h = absurd (h (λ same. cc))
memory_or (WrongLength n) h = absurd (h (λ same. cc))
memory_or (NotInClass n) h = absurd (h (λ same. cc))
memory_or (PadEnd n) h = absurd (h (λ same. cc))

pub is_written : {T : Type 0} (t : Layout) (m : Contents) (r : Result T PackFault) → IfErr r (λ e. e ≢ Memory → message_refusal t m ≡ Some e) → (b : List ℕ) → Spelling t m b → IfErr r (λ e. e ≡ Memory)
is_written t m (Ok x) h b s = tt
is_written t m (Err e) h b s = memory_or e (λ other. absurd (let same : Some e ≡ None = sym (h other) ∙ spelled_taken t m b s in cc))

-- ---- what is written

-- plain bitmaps of one set are those of another with the same elements
plain_agree : (c : BitmapCoding) (set other : ℕ → Bool) (b : List ℕ) → ((k : ℕ) → 2 ≤ k → k ≤ 128 → other k ≡ set k) → PlainBitmaps c set b → PlainBitmaps c other b
plain_agree c set other b agrees plain = record {
  two = plain.two;
  raw = plain.raw;
  fits = plain.fits;
  maps = maps_agree Raw plain.two set other plain.raw agrees plain.maps;
  needed = λ is. let above = plain.needed is in (above.0, above.1, above.2, agrees above.0 (omega (arith, above.1)) above.2 ∙ above.3);
  bytes = plain.bytes;
  spelled = maps_agree c plain.two set other b agrees plain.spelled;
}

pub plain_spelling_lem : (t : Layout) (m : Contents) (set : ℕ → Bool) (maps out : List ℕ) → m.mti < 10000 → m.mti / 1000 ≡ t.version → IsAscending 2 m.elements → ((k : ℕ) → set k ≡ has m.elements k) → PlainBitmaps t.bitmap set maps
    → Parts t.rows m.elements (flat_map (plain_of t.rows) m.elements) → out ≡ four_digits_of t.mti m.mti ++ (maps ++ flat_map (plain_of t.rows) m.elements) → PlainSpelling t m out
plain_spelling_lem t m set maps out small version ascending agrees plain parts is =
    let same = plain_agree t.bitmap set (has m.elements) maps (λ k low high. sym (agrees k)) plain in
    record {
      spelling = record {
        mti = small;
        version = version;
        ascending = ascending;
        secondary = same.two;
        maps = maps;
        parts = flat_map (plain_of t.rows) m.elements;
        bitmaps = same.spelled;
        elements = parts;
        bytes = is;
      };
      bitmaps = same;
      parts = refl;
    }

-- ---- what is written is read again

module _ (reads : ReadsSpellings) where
  pub read_again : (t : Layout) (m : Contents) (out rest : List ℕ) → AreGood t.rows → AreBytes out → AreBytes rest → PlainSpelling t m out → message_at t (out ++ rest) ≡ whole m (length out)
  read_again t m out rest good fits others plain = spelled_is_read reads t m out rest good (bytes_append out rest fits others) plain.spelling

  -- the same of what a function appends
  pub appended_again : (t : Layout) (m : Contents) (old new : List ℕ) → AreGood t.rows → AreBytes new → (b : List ℕ) × PlainSpelling t m b × (new ≡ old ++ b)
      → (b rest : List ℕ) → new ≡ old ++ b → AreBytes rest → message_at t (b ++ rest) ≡ whole m (length b)
  appended_again t m old new good fits packed b rest is others =
      let behind : drop (length old) new ≡ b = ap (drop (length old)) is ∙ drop_at old b (length old) refl in
      let same : packed.0 ≡ b = sym (ap (drop (length old)) packed.2 ∙ drop_at old packed.0 (length old) refl) ∙ behind in
      read_again t m b rest good (subst AreBytes behind (bytes_drop (length old) new fits)) others (subst (PlainSpelling t m) same packed.1)

-- what begins with more than the old bytes begins with the old bytes
Keeps-front : (old more new : List ℕ) → Keeps (old ++ more) new → Keeps old new
Keeps-front old more new kept =
    sym (take-take (length old) (length (old ++ more)) new (omega (arith, length-append old more))) ∙ ap (take (length old)) kept ∙ take_at old more (length old) refl

-- what is kept twice is kept
pub kept_twice : (old mid new : List ℕ) → Keeps old mid → Keeps mid new → Keeps old new
kept_twice old mid new one two =
    let more = drop (length old) mid in
    let whole : mid ≡ old ++ more = sym (take-append-drop (length old) mid) ∙ ap (λ (l : List ℕ). l ++ more) one in
    Keeps-front old more new (subst (λ (l : List ℕ). Keeps l new) whole two)

-- two pieces behind what was there
pub kept_behind : (old none one two new a b : List ℕ) → none ≡ old → one ≡ none ++ a → two ≡ one ++ b → Keeps two new → Keeps old new
kept_behind old none one two new a b same first second kept =
    let head : one ≡ old ++ a = first ∙ ap (λ (l : List ℕ). l ++ a) same in
    Keeps-front old a new (subst (λ (l : List ℕ). Keeps l new) head (Keeps-front one b new (subst (λ (l : List ℕ). Keeps l new) second kept)))

-- three pieces behind what was there, one after another
pub three_pieces : (old none one two all a b c : List ℕ) → none ≡ old → one ≡ none ++ a → two ≡ one ++ b → all ≡ two ++ c → all ≡ old ++ (a ++ (b ++ c))
three_pieces old none one two all a b c same first second third =
    third
    ∙ ap (λ (l : List ℕ). l ++ c) (second ∙ ap (λ (l : List ℕ). l ++ b) (first ∙ ap (λ (l : List ℕ). l ++ a) same))
    ∙ append_assoc (old ++ a) b c
    ∙ append_assoc old a (b ++ c)

-- what was there is kept where something is put behind it, and where nothing is
pub kept_more : (old new a : List ℕ) → new ≡ old ++ a → Keeps old new
kept_more old new a is = ap (take (length old)) is ∙ take_at old a (length old) refl

pub kept_same : (old new : List ℕ) → new ≡ old → Keeps old new
kept_same old new is = ap (take (length old)) is ∙ take_all (length old) old (omega arith)

-- a message of the table's version is refused for its elements alone
pub refused_elements : (t : Layout) (m : Contents) → m.mti / 1000 ≡ t.version → message_refusal t m ≡ first_refusal t.rows m.elements
refused_elements t m is = ap (λ (b : Bool). cond b (first_refusal t.rows m.elements) (Some WrongVersion)) (eq-eqb (m.mti / 1000) t.version is)
