-- One frame more at the front of bytes.
use Rattle.std.proofs.Common.{◌≡◌, ◌∙◌, ◌++◌, ℕ, ◌+◌, ◌<◌, ◌≤◌, refl, sym, ap, subst, arith, List, [], ◌∷◌, length, drop, append_assoc, append-nil, length-append, lit<}
use Rattle.iso_wire.specs.declared.header.Header.{Header}
use Rattle.iso_wire.specs.declared.header.Header.TheVariants.{Binary2, Ascii4, Bcd2}
use Rattle.iso_wire.specs.FrameLaws.{FrameLaws}
use Rattle.iso_wire.specs.Framing.{header_of, frame_of, frames_of, AllFit, Begins}

-- the bytes are the frames of these bodies, and then others
pub record BeginWith (h : Header) (bytes : List ℕ) (bodies : List (List ℕ)) (rest : List ℕ) : Type 0 where
  pub joined : bytes ≡ frames_of h bodies ++ rest
  pub fit : AllFit h bodies

frames_more : FrameLaws → (h : Header) (bodies : List (List ℕ)) (body rest : List ℕ) → frames_of h (bodies ++ body ∷ []) ++ rest ≡ frames_of h bodies ++ (frame_of h body ++ rest)
frames_more laws h bodies body rest =
    ap (λ (l : List ℕ). l ++ rest) (laws.joined h bodies (body ∷ [])) ∙ append_assoc (frames_of h bodies) (frame_of h body ++ []) rest
    ∙ ap (λ (l : List ℕ). frames_of h bodies ++ (l ++ rest)) (append-nil (frame_of h body))

pub one_more : FrameLaws → (h : Header) (bytes : List ℕ) (old new : List (List ℕ)) (rest body behind : List ℕ) (used : ℕ) → BeginWith h bytes old rest
    → Begins h rest body used → behind ≡ drop used rest → new ≡ old ++ body ∷ [] → BeginWith h bytes new behind
one_more laws h bytes old new rest body behind used so_far front is grown =
    subst (λ (l : List (List ℕ)). BeginWith h bytes l behind) (sym grown) (record {
      joined = so_far.joined
          ∙ ap (λ (l : List ℕ). frames_of h old ++ l) (front.whole ∙ ap (λ (l : List ℕ). frame_of h body ++ l) (sym is))
          ∙ sym (frames_more laws h old body behind);
      fit = laws.fit h old (body ∷ []) so_far.fit (front.fits, tt);
    })

-- the bytes are so many frames, each of at least one byte, and then others
pub record Counted (h : Header) (bytes rest : List ℕ) (frames : ℕ) : Type 0 where
  pub bodies : List (List ℕ)
  pub begin : BeginWith h bytes bodies rest
  pub count : frames ≡ length bodies
  pub small : frames + length rest ≤ length bytes

header_some : (h : Header) (n : ℕ) → 0 < length (header_of h n)
header_some Binary2 n = lit< tt
header_some Ascii4 n = lit< tt
header_some Bcd2 n = lit< tt

-- a frame has at least one byte
shorter : (h : Header) (rest body : List ℕ) (used : ℕ) → Begins h rest body used → length (drop used rest) < length rest
shorter h rest body used front =
    let some = header_some h (length body) in
    let frame = length-append (header_of h (length body)) body in
    let whole : length rest ≡ length (frame_of h body) + length (drop used rest) =
    ap length front.whole ∙ length-append (frame_of h body) (drop used rest) in
    omega arith

pub one_counted : FrameLaws → (h : Header) (bytes rest body behind : List ℕ) (used frames : ℕ) → Counted h bytes rest frames → Begins h rest body used
    → behind ≡ drop used rest → Counted h bytes behind (frames + 1)
one_counted laws h bytes rest body behind used frames so_far front is =
    let less : length behind < length rest = rw is (shorter h rest body used front) in record {
      bodies = so_far.bodies ++ body ∷ [];
      begin = one_more laws h bytes so_far.bodies (so_far.bodies ++ body ∷ []) rest body behind used so_far.begin front is refl;
      count = ap (λ (n : ℕ). n + 1) so_far.count ∙ sym (length-append so_far.bodies (body ∷ []));
      small = let small = so_far.small in omega arith;
    }
