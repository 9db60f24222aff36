-- How the frames of bodies join.
use Rattle.std.specs.Prelude.{◌≡◌, ℕ, List, ◌++◌, length}
use Rattle.iso_wire.specs.Framing.{header_size, header_of, frames_of, AllFit}
use Rattle.iso_wire.specs.declared.header.Header.{Header}

-- what holds of every header, and of the frames of any bodies
pub record FrameLaws : Type 0 where
  -- a header takes so many bytes, whatever it counts
  pub header : (h : Header) (n : ℕ) → length (header_of h n) ≡ header_size h
  -- the frames of bodies that follow others come behind the frames of those
  pub joined : (h : Header) (bodies others : List (List ℕ))
      → frames_of h (bodies ++ others) ≡ frames_of h bodies ++ frames_of h others
  -- a header that can count each of both can count each of all
  pub fit : (h : Header) (bodies others : List (List ℕ)) → AllFit h bodies → AllFit h others
      → AllFit h (bodies ++ others)
