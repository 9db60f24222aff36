-- A stream is split into frames and a rest in one way.
use Rattle.std.proofs.Common.{rules, ◌≡◌, ℕ, true, false, zero, suc, ◌+◌, ◌-◌, ◌*◌, ◌/◌, ◌%◌, ◌<◌, ◌≤◌, List, [], ◌∷◌, ◌++◌, length, take, drop, sym, refl, ap, ◌∙◌, arith, append_assoc, length-append, inl, inr, ◌⊎◌}
use Rattle.std.proofs.lemmas.List.{length-take-le}
use Rattle.std.proofs.lemmas.Bool.{cases_lt, cases_eq}
use Rattle.std.proofs.Math.Seq.{take-append_seam, drop-append_seam}
use Rattle.iso_wire.specs.Framing.{largest, header_size, header_of, frame_of, frames_of, is_bad_header, AllFit, NoFrame, NeedsMore, Splits}
use Rattle.iso_wire.specs.declared.header.Header.{Header}
use Rattle.iso_wire.specs.declared.header.Header.TheVariants.{Binary2, Ascii4, Bcd2}
use Rattle.iso_wire.proofs.FrameHeaders.{length-header_of}

-- ---- a frame at the front is the only one

-- the length that the front tells, if a frame begins there
abbrev pub told : Header → List ℕ → ℕ
told Binary2 (x ∷ y ∷ rest) = 256 * x + y
told Ascii4 (a ∷ b ∷ c ∷ d ∷ rest) = 1000 * (a - 48) + 100 * (b - 48) + 10 * (c - 48) + (d - 48)
told Bcd2 (x ∷ y ∷ rest) = 1000 * (x / 16) + 100 * (x % 16) + 10 * (y / 16) + y % 16
told h other = 0

pub told-header_of : (h : Header) (n : ℕ) (more : List ℕ) → n ≤ largest h → told h (header_of h n ++ more) ≡ n
told-header_of Binary2 n more fits = omega arith
told-header_of Ascii4 n more fits = omega arith
told-header_of Bcd2 n more fits = omega arith

told-frame_of : (h : Header) (body more : List ℕ) → length body ≤ largest h → told h (frame_of h body ++ more) ≡ length body
told-frame_of h body more fits =
    ap (told h) (append_assoc (header_of h (length body)) body more) ∙ told-header_of h (length body) (body ++ more) fits

same_parts : (a b x y : List ℕ) → length a ≡ length b → a ++ x ≡ b ++ y → (a ≡ b) × (x ≡ y)
same_parts a b x y n e =
    let front : a ≡ b = sym (take-append_seam a x) ∙ ap (λ k. take k (a ++ x)) n ∙ ap (take (length b)) e ∙ take-append_seam b y in
    let back : x ≡ y = sym (drop-append_seam a x) ∙ ap (λ k. drop k (a ++ x)) n ∙ ap (drop (length b)) e ∙ drop-append_seam b y in
    (front, back)

frame_once : (h : Header) (a b x y : List ℕ) → length a ≤ largest h → length b ≤ largest h → frame_of h a ++ x ≡ frame_of h b ++ y → (a ≡ b) × (x ≡ y)
frame_once h a b x y p q e =
    let size : length a ≡ length b = sym (told-frame_of h a x p) ∙ ap (told h) e ∙ told-frame_of h b y q in
    let heads : length (header_of h (length a)) ≡ length (header_of h (length b)) = length-header_of h (length a) ∙ sym (length-header_of h (length b)) in
    let behind = same_parts (header_of h (length a)) (header_of h (length b)) (a ++ x) (b ++ y) heads
    (sym (append_assoc (header_of h (length a)) a x) ∙ e ∙ append_assoc (header_of h (length b)) b y) in
    same_parts a b x y size behind.1

frames_once : (h : Header) (bodies others : List (List ℕ)) (rest left : List ℕ) → AllFit h bodies → AllFit h others → NoFrame h rest → NoFrame h left
    → frames_of h bodies ++ rest ≡ frames_of h others ++ left → (others ≡ bodies) × (left ≡ rest)
frames_once h [] [] rest left f g n m e = (refl, sym e)
frames_once h [] (o ∷ os) rest left f g n m e = absurd (n o (frames_of h os ++ left) g.0 (e ∙ append_assoc (frame_of h o) (frames_of h os) left))
frames_once h (b ∷ bs) [] rest left f g n m e = absurd (m b (frames_of h bs ++ rest) f.0 (sym e ∙ append_assoc (frame_of h b) (frames_of h bs) rest))
frames_once h (b ∷ bs) (o ∷ os) rest left f g n m e =
    let same = frame_once h b o (frames_of h bs ++ rest) (frames_of h os ++ left) f.0 g.0
    (sym (append_assoc (frame_of h b) (frames_of h bs) rest) ∙ e ∙ append_assoc (frame_of h o) (frames_of h os) left) in
    let later = frames_once h bs os rest left f.1 g.1 n m same.1 in
    (ap (λ l. o ∷ l) later.0 ∙ ap (λ l. l ∷ bs) (sym same.0), later.1)

pub one_split : (h : Header) (bytes : List ℕ) (bodies others : List (List ℕ)) (rest left : List ℕ) → Splits h bytes bodies rest → Splits h bytes others left
    → (others ≡ bodies) × (left ≡ rest)
one_split h bytes bodies others rest left s t = frames_once h bodies others rest left s.fit t.fit s.partial t.partial (sym s.joined ∙ t.joined)

-- ---- frames that begin a stream are the first ones

frames_first : (h : Header) (done bodies : List (List ℕ)) (more rest : List ℕ) → AllFit h done → AllFit h bodies → NoFrame h rest
    → frames_of h done ++ more ≡ frames_of h bodies ++ rest → take (length done) bodies ≡ done
frames_first h [] bodies more rest f g n e = refl
frames_first h (d ∷ ds) [] more rest f g n e = absurd (n d (frames_of h ds ++ more) f.0 (sym e ∙ append_assoc (frame_of h d) (frames_of h ds) more))
frames_first h (d ∷ ds) (b ∷ bs) more rest f g n e =
    let same = frame_once h d b (frames_of h ds ++ more) (frames_of h bs ++ rest) f.0 g.0
    (sym (append_assoc (frame_of h d) (frames_of h ds) more) ∙ e ∙ append_assoc (frame_of h b) (frames_of h bs) rest) in
    ap (λ l. b ∷ l) (frames_first h ds bs more rest f.1 g.1 n same.1) ∙ ap (λ l. l ∷ ds) (sym same.0)

pub first_of_split : (h : Header) (bytes : List ℕ) (done bodies : List (List ℕ)) (more rest : List ℕ) → AllFit h done → bytes ≡ frames_of h done ++ more → Splits h bytes bodies rest
    → take (length done) bodies ≡ done
first_of_split h bytes done bodies more rest f e s = frames_first h done bodies more rest f s.fit s.partial (sym e ∙ s.joined)

-- ---- there is a split

-- a whole frame at the front
record Front (h : Header) (bytes : List ℕ) : Type 0 where
  pub body : List ℕ
  pub more : List ℕ
  pub fits : length body ≤ largest h
  pub whole : bytes ≡ frame_of h body ++ more

-- two lists of numbers are the same or not
same_or_not : (a b : List ℕ) → (a ≡ b) ⊎ (a ≡ b → ⊥)
same_or_not [] [] = inl refl
same_or_not [] (y ∷ b) = inr (λ e. cc)
same_or_not (x ∷ a) [] = inr (λ e. cc)
same_or_not (x ∷ a) (y ∷ b) =
    elim (cases_eq x y) [
      | inr other ↦ inr (λ e. let first : x ≡ y = cc in other first)
      | inl same ↦ elim (same_or_not a b) [
        | inr other ↦ inr (λ e. let rest : a ≡ b = cc in other rest)
        | inl others ↦ inl (ap (λ (z : ℕ). z ∷ a) same ∙ ap (λ l. y ∷ l) others)
      ]
    ]

front_is : (h : Header) (n : ℕ) (bytes : List ℕ) → bytes ≡ frame_of h (take n (drop (header_size h) bytes)) ++ drop n (drop (header_size h) bytes)
    → n ≤ length (drop (header_size h) bytes) → n ≤ largest h → Front h bytes
front_is h n bytes e room fits =
    let rest = drop (header_size h) bytes in
    record { body = take n rest; more = drop n rest; fits = omega (arith, length-take-le n rest room, fits); whole = e }

-- a frame that begins the bytes is the one that their front tells
pub only_front : (h : Header) (bytes body more : List ℕ) → length body ≤ largest h → bytes ≡ frame_of h body ++ more
    → (told h bytes ≡ length body) × (body ++ more ≡ drop (header_size h) bytes)
only_front h bytes body more fits e =
    let head = header_of h (length body) in
    let whole : bytes ≡ head ++ (body ++ more) = e ∙ append_assoc head body more in (
      ap (told h) e ∙ told-frame_of h body more fits,
      sym (drop-append_seam head (body ++ more)) ∙ ap (λ k. drop k (head ++ (body ++ more))) (length-header_of h (length body)) ∙ ap (drop (header_size h)) (sym whole),
    )

-- where a frame begins the bytes, it is the one that is cut there
it_is : (h : Header) (bytes body more : List ℕ) → length body ≤ largest h → bytes ≡ frame_of h body ++ more
    → bytes ≡ frame_of h (take (told h bytes) (drop (header_size h) bytes)) ++ drop (told h bytes) (drop (header_size h) bytes)
it_is h bytes body more fits e =
    let q = only_front h bytes body more fits e in
    let first : take (told h bytes) (drop (header_size h) bytes) ≡ body =
    ap (λ k. take k (drop (header_size h) bytes)) q.0 ∙ ap (take (length body)) (sym q.1) ∙ take-append_seam body more in
    let second : drop (told h bytes) (drop (header_size h) bytes) ≡ more =
    ap (λ k. drop k (drop (header_size h) bytes)) q.0 ∙ ap (drop (length body)) (sym q.1) ∙ drop-append_seam body more in
    e ∙ ap (λ l. frame_of h l ++ more) (sym first) ∙ ap (λ l. frame_of h (take (told h bytes) (drop (header_size h) bytes)) ++ l) (sym second)

front_or_none : (h : Header) (bytes : List ℕ) → Front h bytes ⊎ NoFrame h bytes
front_or_none h bytes =
    let n = told h bytes in
    let rest = drop (header_size h) bytes in
    elim (cases_lt (largest h) n) [
      | inl large ↦ inr (λ body more p e. omega (arith, (only_front h bytes body more p e).0, p, large))
      | inr small ↦ elim (cases_lt (length rest) n) [
        | inl short ↦ inr (λ body more p e. let q = only_front h bytes body more p e in omega (arith, q.0, ap length q.1, length-append body more, short))
        | inr long ↦ elim (same_or_not bytes (frame_of h (take n rest) ++ drop n rest)) [
          | inl whole ↦ inl (front_is h n bytes whole long small)
          | inr other ↦ inr (λ body more p e. other (it_is h bytes body more p e))
        ]
      ]
    ]

frame_long : (h : Header) (body more bytes : List ℕ) → bytes ≡ frame_of h body ++ more → length more < length bytes
frame_long Binary2 body more bytes e = omega (arith, ap length e, length-append body more)
frame_long Ascii4 body more bytes e = omega (arith, ap length e, length-append body more)
frame_long Bcd2 body more bytes e = omega (arith, ap length e, length-append body more)

split_within : (h : Header) (fuel : ℕ) (bytes : List ℕ) → length bytes < fuel → (bodies : List (List ℕ)) × (rest : List ℕ) × Splits h bytes bodies rest
split_within h zero bytes k = absurd (omega arith)
split_within h (suc fuel) bytes k =
    elim (front_or_none h bytes) [
      | inr none ↦ ([], bytes, record { joined = refl; fit = tt; partial = none })
      | inl front ↦
          let shorter : length front.more < fuel = omega (arith, frame_long h front.body front.more bytes front.whole) in
          let later = split_within h fuel front.more shorter in (
            front.body ∷ later.0,
            later.1,
            record {
              joined = front.whole ∙ ap (λ l. frame_of h front.body ++ l) later.2.joined ∙ sym (append_assoc (frame_of h front.body) (frames_of h later.0) later.1);
              fit = (front.fits, later.2.fit);
              partial = later.2.partial;
            },
          )
    ]

pub some_split : (h : Header) (bytes : List ℕ) → (bodies : List (List ℕ)) × (rest : List ℕ) × Splits h bytes bodies rest
some_split h bytes = split_within h (length bytes + 1) bytes (omega arith)

-- ---- a stream behind frames

pub frames_of-append : (h : Header) (done others : List (List ℕ)) → frames_of h (done ++ others) ≡ frames_of h done ++ frames_of h others
frames_of-append h [] others = refl
frames_of-append h (d ∷ ds) others = ap (λ l. frame_of h d ++ l) (frames_of-append h ds others) ∙ sym (append_assoc (frame_of h d) (frames_of h ds) (frames_of h others))

pub AllFit-append : (h : Header) (done others : List (List ℕ)) → AllFit h done → AllFit h others → AllFit h (done ++ others)
AllFit-append h [] others f g = g
AllFit-append h (d ∷ ds) others f g = (f.0, AllFit-append h ds others f.1 g)

pub split_behind : (h : Header) (done bodies : List (List ℕ)) (more rest : List ℕ) → AllFit h done → Splits h more bodies rest → Splits h (frames_of h done ++ more) (done ++ bodies) rest
split_behind h done bodies more rest f s = record {
  joined = ap (λ l. frames_of h done ++ l) s.joined ∙ sym (append_assoc (frames_of h done) (frames_of h bodies) rest) ∙ ap (λ l. l ++ rest) (sym (frames_of-append h done bodies));
  fit = AllFit-append h done bodies f s.fit;
  partial = s.partial;
}

-- ---- a frame that is cut off

-- a header that isn't of digits is one whatever follows
pub bad_stays : (h : Header) (bytes more : List ℕ) → is_bad_header h bytes ≡ true → is_bad_header h (bytes ++ more) ≡ true
bad_stays Binary2 bytes more bad = absurd cc
bad_stays Ascii4 [] more bad = absurd cc
bad_stays Ascii4 (a ∷ []) more bad = absurd cc
bad_stays Ascii4 (a ∷ b ∷ []) more bad = absurd cc
bad_stays Ascii4 (a ∷ b ∷ c ∷ []) more bad = absurd cc
bad_stays Ascii4 (a ∷ b ∷ c ∷ d ∷ bytes) more bad = search rules
bad_stays Bcd2 [] more bad = absurd cc
bad_stays Bcd2 (x ∷ []) more bad = absurd cc
bad_stays Bcd2 (x ∷ y ∷ bytes) more bad = search rules

-- a header that counts a length is of digits
pub good_header : (h : Header) (n : ℕ) (part : List ℕ) → n ≤ largest h → is_bad_header h (header_of h n ++ part) ≡ false
good_header Binary2 n part fits = refl
good_header Ascii4 n part fits = search rules
good_header Bcd2 n part fits = search rules

-- a header and fewer bytes than it counts
pub cut_needs_more : (h : Header) (n : ℕ) (part : List ℕ) → n ≤ largest h → length part < n → NeedsMore h (header_of h n ++ part)
cut_needs_more h n part fits few = record {
  no_frame = λ body more p e.
      let q = only_front h (header_of h n ++ part) body more p e in
      let behind : drop (header_size h) (header_of h n ++ part) ≡ part =
      ap (λ k. drop k (header_of h n ++ part)) (sym (length-header_of h n)) ∙ drop-append_seam (header_of h n) part in
      let size : n ≡ length body = sym (told-header_of h n part fits) ∙ q.0 in
      omega (arith, ap length q.1, ap length behind, length-append body more, size, few);
  no_fault = good_header h n part fits;
}
