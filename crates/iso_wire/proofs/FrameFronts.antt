-- What the front of bytes says of a frame there.
use Rattle.std.proofs.Common.{rules, ◌≡◌, ℕ, ◌+◌, ◌/◌, ◌%◌, ◌<◌, ◌≤◌, Bool, true, false, not, cond, List, [], ◌∷◌, ◌++◌, length, take, drop, Option, Some, None, Ok, sym, refl, ap, ◌∙◌, arith, append_assoc, length-append}
use Rattle.std.specs.Prelude.{◌↔◌, ◌&&◌, nat_le}
use Rattle.std.specs.Result.{IsErrOf}
use Rattle.std.proofs.Math.Seq.{take-append_seam, drop-append_seam}
use Rattle.iso_parts.specs.Class.{is_digit}
use Rattle.iso_wire.specs.declared.framing.Framed.{Framed}
use Rattle.iso_wire.specs.declared.framing.FrameFault.{FrameFault}
use Rattle.iso_wire.specs.declared.framing.FrameFault.TheVariants.{BadDigits}
use Rattle.iso_wire.specs.Framing.{largest, header_size, header_of, frame_of, header_length, is_bad_header, NoFrame, NeedsMore}
use Rattle.iso_wire.specs.declared.header.Header.{Header}
use Rattle.iso_wire.specs.declared.header.Header.TheVariants.{Binary2, Ascii4, Bcd2}
use Rattle.iso_wire.proofs.FrameHeaders.{length-header_of}
use Rattle.iso_wire.proofs.FrameSplits.{told, told-header_of, only_front, good_header, cut_needs_more}

-- ---- fewer bytes than a header

short_header : (h : Header) (bytes : List ℕ) → length bytes < header_size h → is_bad_header h bytes ≡ false
short_header Binary2 bytes lt = refl
short_header Ascii4 [] lt = refl
short_header Ascii4 (a ∷ []) lt = refl
short_header Ascii4 (a ∷ b ∷ []) lt = refl
short_header Ascii4 (a ∷ b ∷ c ∷ []) lt = refl
short_header Ascii4 (a ∷ b ∷ c ∷ d ∷ bytes) lt = absurd (omega (arith, lt))
short_header Bcd2 [] lt = refl
short_header Bcd2 (x ∷ []) lt = refl
short_header Bcd2 (x ∷ y ∷ bytes) lt = absurd (omega (arith, lt))

pub short_needs_more : (h : Header) (bytes : List ℕ) → length bytes < header_size h → NeedsMore h bytes
short_needs_more h bytes lt = record {
  no_frame = λ body more p e.
      omega (arith, lt, ap length e, length-append (frame_of h body) more, length-append (header_of h (length body)) body, length-header_of h (length body));
  no_fault = short_header h bytes lt;
}

-- ---- a header that isn't of digits

none_bad : (a b c d : Bool) (v : ℕ) → ◌≡◌ {A = Option ℕ} None (cond (a && b && c && d) (Some v) None) → not (a && (b && (c && (d && true)))) ≡ true
none_bad false b c d v h = refl
none_bad true false c d v h = refl
none_bad true true false d v h = refl
none_bad true true true false v h = refl
none_bad true true true true v h = absurd cc

pub bad_front : (h : Header) (front rest : List ℕ) → length front ≡ header_size h → None ≡ header_length h front → is_bad_header h (front ++ rest) ≡ true
bad_front Binary2 [] rest size h = absurd (omega (arith, size))
bad_front Binary2 (x ∷ []) rest size h = absurd (omega (arith, size))
bad_front Binary2 (x ∷ y ∷ []) rest size h = absurd cc
bad_front Binary2 (x ∷ y ∷ z ∷ front) rest size h = absurd (omega (arith, size))
bad_front Ascii4 [] rest size h = absurd (omega (arith, size))
bad_front Ascii4 (a ∷ []) rest size h = absurd (omega (arith, size))
bad_front Ascii4 (a ∷ b ∷ []) rest size h = absurd (omega (arith, size))
bad_front Ascii4 (a ∷ b ∷ c ∷ []) rest size h = absurd (omega (arith, size))
bad_front Ascii4 (a ∷ b ∷ c ∷ d ∷ []) rest size h =
    let room : nat_le 4 (length (a ∷ b ∷ c ∷ d ∷ rest)) ≡ true = search rules in
    ap (λ t. t && not (is_digit a && (is_digit b && (is_digit c && (is_digit d && true))))) room ∙ none_bad (is_digit a) (is_digit b) (is_digit c) (is_digit d) _ h
bad_front Ascii4 (a ∷ b ∷ c ∷ d ∷ e ∷ front) rest size h = absurd (omega (arith, size))
bad_front Bcd2 [] rest size h = absurd (omega (arith, size))
bad_front Bcd2 (x ∷ []) rest size h = absurd (omega (arith, size))
bad_front Bcd2 (x ∷ y ∷ []) rest size h =
    let room : nat_le 2 (length (x ∷ y ∷ rest)) ≡ true = search rules in
    ap (λ t. t && not (is_digit (48 + x / 16) && (is_digit (48 + x % 16) && (is_digit (48 + y / 16) && (is_digit (48 + y % 16) && true))))) room ∙ none_bad (is_digit (48 + x / 16)) (is_digit (48 + x % 16)) (is_digit (48 + y / 16)) (is_digit (48 + y % 16)) _ h
bad_front Bcd2 (x ∷ y ∷ z ∷ front) rest size h = absurd (omega (arith, size))

-- no frame begins there
pub bad_no_frame : (h : Header) (bytes : List ℕ) → is_bad_header h bytes ≡ true → NoFrame h bytes
bad_no_frame h bytes bad = λ body more p e.
    let other : true ≡ false = sym bad ∙ ap (is_bad_header h) (e ∙ append_assoc (header_of h (length body)) body more) ∙ good_header h (length body) (body ++ more) p in
    cc

-- ---- a header that counts a length

-- fewer bytes follow than it counts
pub rest_needs_more : (h : Header) (n : ℕ) (bytes rest : List ℕ) → bytes ≡ header_of h n ++ rest → n ≤ largest h → length rest < n → NeedsMore h bytes
rest_needs_more h n bytes rest e fits few = rw e (cut_needs_more h n rest fits few)

-- it is no bad header
pub counted_header : (h : Header) (n : ℕ) (bytes rest : List ℕ) → bytes ≡ header_of h n ++ rest → n ≤ largest h → is_bad_header h bytes ≡ false
counted_header h n bytes rest e fits = ap (is_bad_header h) e ∙ good_header h n rest fits

-- the frame there is of its body
pub got_front : (h : Header) (n : ℕ) (bytes rest body more : List ℕ) → bytes ≡ header_of h n ++ rest → n ≤ largest h → length body ≤ largest h → bytes ≡ frame_of h body ++ more
    → (take n rest ≡ body) × (header_size h + n ≡ header_size h + length body)
got_front h n bytes rest body more whole fits p e =
    let q = only_front h bytes body more p e in
    let size : n ≡ length body = sym (told-header_of h n rest fits) ∙ ap (told h) (sym whole) ∙ q.0 in
    let behind : drop (header_size h) bytes ≡ rest =
    ap (drop (header_size h)) whole ∙ ap (λ k. drop k (header_of h n ++ rest)) (sym (length-header_of h n)) ∙ drop-append_seam (header_of h n) rest in
    let all : body ++ more ≡ rest = q.1 ∙ behind in
    (ap (λ k. take k rest) size ∙ ap (take (length body)) (sym all) ∙ take-append_seam body more, ap (λ k. header_size h + k) size)

-- ---- an answer that is no fault

pub no_fault_here : (x : Framed) (bad : Bool) → bad ≡ false → IsErrOf {T = Framed} {E = FrameFault} (Ok x) BadDigits ↔ (bad ≡ true)
no_fault_here x bad none = (λ e. absurd cc, λ is. absurd (let w : true ≡ false = sym is ∙ none in cc))
