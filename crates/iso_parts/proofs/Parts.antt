-- The laws of parts: what is a part is read, what is read is a part, and what is written is one.
use Rattle.std.proofs.Common.{◌≡◌, ℕ, ◌+◌, ◌-◌, ◌≤◌, false, ltb, List, ◌++◌, length, take, drop, Ok, refl, sym, ap, ◌∙◌, append_assoc, arith}
use Rattle.std.proofs.lemmas.Bool.{le-ltb, cond-false}
use Rattle.std.proofs.lemmas.List.{length-append, take_at, drop_at}
use Rattle.iso_parts.specs.declared.prefix.Length.{Length}
use Rattle.iso_parts.specs.declared.digits.Digits.TheVariants as digits
use Rattle.iso_parts.specs.declared.prefix.Length.TheVariants as lengths
use Rattle.iso_parts.specs.declared.spec.FieldSpec.{FieldSpec}
use Rattle.iso_parts.specs.Spec.{IsGood, Fits, limit}
use Rattle.iso_parts.specs.Part.{with_padding, prefix, Part, Stands}
use Rattle.iso_parts.specs.Reading.{◌>>=◌, prefix_size, prefix_of, body_size, value_of, body_of, got, more, at_body, at_prefix, part_at}
use Rattle.iso_parts.proofs.Pads.{without_padding-with_pads}
use Rattle.iso_parts.proofs.Prefixes.{count_again}
use Rattle.iso_parts.proofs.Texts.{text_again, size_again}
use Rattle.iso_parts.proofs.Counts.{counts, max_small}

pub length-prefix : (k : Length) (n : ℕ) → length (prefix k n) ≡ prefix_size k
length-prefix lengths.Fixed n = refl
length-prefix (lengths.LL digits.Ascii) n = refl
length-prefix (lengths.LL digits.Bcd) n = refl
length-prefix (lengths.LLL digits.Ascii) n = refl
length-prefix (lengths.LLL digits.Bcd) n = refl
length-prefix (lengths.LLLL digits.Ascii) n = refl
length-prefix (lengths.LLLL digits.Bcd) n = refl

-- ---- what is a part is read

prefix_again : (s : FieldSpec) (n : ℕ) → n ≤ s.max → n ≤ limit s.length → (s.length ≡ lengths.Fixed → n ≡ s.max) → prefix_of s (prefix s.length n) ≡ Ok n
prefix_again s n le small fixed = rw (count_again s.length s.max n small fixed, le-ltb s.max n le) refl

value_again : (s : FieldSpec) (v : List ℕ) → Fits s v → value_of s (with_padding s v) ≡ Ok v
value_again s v fits = rw (without_padding-with_pads s.pad (s.max - length v) v fits.pad, fits.class) refl

-- a good prefix and a good body, and then anything
pieces_read : (s : FieldSpec) (n : ℕ) (p body v rest : List ℕ) → length p ≡ prefix_size s.length → prefix_of s p ≡ Ok n → length body ≡ body_size s.coding n → body_of s n body ≡ Ok v
    → part_at s (p ++ (body ++ rest)) ≡ got v (prefix_size s.length + body_size s.coding n)
pieces_read s n p body v rest plen pok blen bok =
    let front = prefix_size s.length in
    let size = body_size s.coding n in
    let whole : List ℕ = p ++ (body ++ rest) in
    let first : take front whole ≡ p = take_at p (body ++ rest) front plen in
    let after : drop front whole ≡ body ++ rest = drop_at p (body ++ rest) front plen in
    let second : take size (drop front whole) ≡ body = ap (take size) after ∙ take_at body rest size blen in
    let enough_front : ltb (length whole) front ≡ false = le-ltb (length whole) front (omega (arith, length-append p (body ++ rest))) in
    let enough : ltb (length whole) (front + size) ≡ false = le-ltb (length whole) (front + size) (omega (arith, length-append p (body ++ rest), length-append body rest)) in
    cond-false (ltb (length whole) front) more (at_prefix s whole (prefix_of s (take front whole))) enough_front
    ∙ ap (λ (l : List ℕ). at_prefix s whole (prefix_of s l)) first
    ∙ ap (at_prefix s whole) pok
    ∙ cond-false (ltb (length whole) (front + size)) more (at_body (front + size) (body_of s n (take size (drop front whole)))) enough
    ∙ ap (λ (l : List ℕ). at_body (front + size) (body_of s n l)) second
    ∙ ap (at_body (front + size)) bok

pub part_again : (s : FieldSpec) (v b rest : List ℕ) → IsGood s → Part s v b → part_at s (b ++ rest) ≡ got v (length b)
part_again s v b rest good part =
    let body : List ℕ = part.0 in
    let w : List ℕ = with_padding s v in
    let n = length w in
    let fits : Fits s v = part.1.0 in
    let stands : Stands s.coding body w = part.1.1 in
    let count = counts s v good fits in
    let p : List ℕ = prefix s.length n in
    let plen : length p ≡ prefix_size s.length = length-prefix s.length n in
    let blen : length body ≡ body_size s.coding n = size_again s.coding body w stands in
    let pok : prefix_of s p ≡ Ok n = prefix_again s n count.at_most (omega (arith, max_small s good, count.at_most)) count.fixed in
    let bok : body_of s n body ≡ Ok v = ap (λ r. r >>= value_of s) (text_again s.coding body w stands) ∙ value_again s v fits in
    let whole : b ≡ p ++ body = part.2 ∙ ap (λ (q : List ℕ). q ++ body) count.prefix in
    let used : prefix_size s.length + body_size s.coding n ≡ length b = sym (ap length whole ∙ length-append p body ∙ omega arith) in
    ap (λ (l : List ℕ). part_at s (l ++ rest)) whole
    ∙ ap (part_at s) (append_assoc p body rest)
    ∙ pieces_read s n p body v rest plen pok blen bok
    ∙ ap (got v) used

-- no part begins with another part of the row, and no bytes are parts of two values
pub one_part : (s : FieldSpec) → IsGood s → (v w a b x y : List ℕ) → Part s v a → Part s w b → a ++ x ≡ b ++ y → (v ≡ w) × (a ≡ b)
one_part s good v w a b x y first second same =
    let one = part_again s v a x good first in
    let two = part_again s w b y good second in
    let both : got v (length a) ≡ got w (length b) = sym one ∙ ap (part_at s) same ∙ two in
    let value : v ≡ w = cc in
    let size : length a ≡ length b = cc in
    (value, sym (take_at a x (length a) refl) ∙ ap (take (length a)) same ∙ take_at b y (length a) (sym size))
