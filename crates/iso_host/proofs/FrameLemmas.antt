-- A frame behind others, and room for a header with a body behind it.
use Rattle.std.proofs.Common.{◌≡◌, ℕ, ◌≤◌, List, [], ◌∷◌, ◌++◌, length, take, drop, replicate, sym, ap, ◌∙◌, arith, append_assoc, append-nil}
use Rattle.std.proofs.lemmas.List.{take_at, drop_at, length-replicate}
use Rattle.iso_wire.specs.declared.header.Header.{Header}
use Rattle.iso_wire.specs.declared.header.Header.TheVariants.{Binary2, Ascii4, Bcd2}
use Rattle.iso_wire.specs.FrameLaws.{FrameLaws}
use Rattle.iso_wire.specs.Framing.{header_size, largest, frame_of, frames_of, AllFit}

-- ---- one frame more

module _ (laws : FrameLaws) (h : Header) (bodies : List (List ℕ)) (body : List ℕ) where
  pub frames_more : (rest : List ℕ) → frames_of h (bodies ++ body ∷ []) ++ rest ≡ frames_of h bodies ++ (frame_of h body ++ rest)
  frames_more rest =
      ap (λ (l : List ℕ). l ++ rest) (laws.joined h bodies (body ∷ [])) ∙ append_assoc (frames_of h bodies) (frame_of h body ++ []) rest
      ∙ ap (λ (l : List ℕ). frames_of h bodies ++ (l ++ rest)) (append-nil (frame_of h body))

  pub fit_more : AllFit h bodies → length body ≤ largest h → AllFit h (bodies ++ body ∷ [])
  fit_more fit few = laws.fit h bodies (body ∷ []) fit (few, tt)

-- ---- room for a header

-- each header can count 9,999 bytes
pub short_fits : (h : Header) (n : ℕ) → n ≤ 9999 → n ≤ largest h
short_fits Binary2 n short = omega arith
short_fits Ascii4 n short = short
short_fits Bcd2 n short = short

-- a body behind room for a header, behind other bytes, becomes a frame behind them
pub closed_behind : (h : Header) (old room all plain closed : List ℕ) (start : ℕ) → start ≡ length old → room ≡ old ++ replicate (header_size h) 0 → all ≡ room ++ plain
    → closed ≡ take start all ++ frame_of h (drop (header_size h) (drop start all)) → closed ≡ old ++ frame_of h plain
closed_behind h old room all plain closed start at first second closes =
    let zeros = replicate (header_size h) 0 in
    let behind : all ≡ old ++ (zeros ++ plain) = second ∙ ap (λ (l : List ℕ). l ++ plain) first ∙ append_assoc old zeros plain in
    let front : take start all ≡ old = ap (take start) behind ∙ take_at old (zeros ++ plain) start (sym at) in
    let rest : drop start all ≡ zeros ++ plain = ap (drop start) behind ∙ drop_at old (zeros ++ plain) start (sym at) in
    let body : drop (header_size h) (drop start all) ≡ plain = ap (drop (header_size h)) rest ∙ drop_at zeros plain (header_size h) (length-replicate (header_size h) 0) in
    closes ∙ ap (λ (l : List ℕ). l ++ frame_of h (drop (header_size h) (drop start all))) front ∙ ap (λ (l : List ℕ). old ++ frame_of h l) body
