-- Bytes that are no message, in place of an answer.
use Rattle.std.proofs.Common.{◌≡◌, ◌≢◌, ◌∙◌, ◌++◌, ℕ, refl, ap, List, [], ◌∷◌, length, append-nil}
use Rattle.std.specs.Prelude.{Option}
use Rattle.iso_wire.specs.Contents.{Contents}
use Rattle.iso_wire.specs.Framing.{frame_of}
use Rattle.iso_issuer.specs.Books.{Books}
use Rattle.iso_host.specs.Hosting.{GrowsBy}
use Rattle.iso_host.specs.Links.{Agreed}
use Rattle.iso_host.specs.Output.{IsAnswerTo}
use Rattle.iso_script.specs.Misbehaving.{garbage, garbage_for, InPlace}

module _ (l : Agreed) (books : Books) (message : Option Contents) (old mid new : List ℕ) where
  -- the host answered, and its answer gave way to them
  pub garbage_in_place : (honest : List ℕ) → IsAnswerTo l.table l.header books message honest → mid ≡ old ++ honest → length mid ≢ length old → new ≡ old ++ frame_of l.header garbage
      → GrowsBy (InPlace (garbage_for l.header) l books message) old new
  garbage_in_place [] is whole differs grown = absurd (differs (ap length (whole ∙ append-nil old)))
  garbage_in_place (b ∷ bs) is whole differs grown = (frame_of l.header garbage, (b ∷ bs, is, refl), grown)
