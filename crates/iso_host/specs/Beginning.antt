-- What a peer holds of a frame that isn't whole.
-- Inner: bodies and proofs cite it, and no public clause does.
use Rattle.std.specs.Prelude.{◌≡◌, ℕ, ◌+◌, ◌<◌, ◌≤◌, List, [], ◌++◌, length, take}
use Rattle.iso_wire.specs.declared.header.Header.{Header}
use Rattle.iso_wire.specs.Framing.{header_of, header_size, largest}
use Rattle.iso_host.specs.declared.taking.Begun.{Begun}

-- the bytes of the header that came
abbrev pub head_of : Begun → List ℕ
head_of b = take b.count b.head

-- the bytes that came, of the header and of the body
abbrev pub held_of : Begun → List ℕ → List ℕ
held_of b part = head_of b ++ part

-- between two frames, or inside a header
pub record IsInHeader (h : Header) (b : Begun) (part : List ℕ) : Type 0 where
  pub none : part ≡ []
  pub short : b.count < header_size h

-- inside a body, which goes on
pub record IsInBody (h : Header) (b : Begun) (part : List ℕ) : Type 0 where
  pub size : b.count ≡ header_size h
  pub head : head_of b ≡ header_of h (length part + b.left)
  pub fits : length part + b.left ≤ largest h

-- so many bytes of the header came, and these of the body
pub record IsBegun (h : Header) (b : Begun) (part : List ℕ) : Type 0 where
  pub outside : b.left ≡ 0 → IsInHeader h b part
  pub inside : 0 < b.left → IsInBody h b part
