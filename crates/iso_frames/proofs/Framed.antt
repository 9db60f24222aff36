-- Frames one after the other.
use Rattle.std.proofs.Common.{◌≡◌, ◌≤◌, ℕ, refl, ap, sym, ◌∙◌, List, [], ◌∷◌, ◌++◌, length, append_assoc, append-nil}
use Rattle.std.proofs.lemmas.List.{map-append}
use Rattle.iso_table.specs.Layout.{Layout}
use Rattle.iso_wire.specs.declared.header.Header.{Header}
use Rattle.iso_wire.specs.FrameLaws.{FrameLaws}
use Rattle.iso_wire.specs.Framing.{frame_of, frames_of, largest}
use Rattle.iso_frames.specs.declared.reading.Read.{Read}
use Rattle.iso_frames.specs.Reading.{read_of, TakesFrames}

frames-more : FrameLaws → (h : Header) (bodies : List (List ℕ)) (body : List ℕ) → frames_of h (bodies ++ body ∷ []) ≡ frames_of h bodies ++ frame_of h body
frames-more laws h bodies body = laws.joined h bodies (body ∷ []) ∙ ap (λ last. frames_of h bodies ++ last) (append-nil (frame_of h body))

-- no frame is taken yet
pub none-taken : (t : Layout) (h : Header) (came : List ℕ) → TakesFrames t h came came []
none-taken t h came = record { bodies = []; joined = refl; fit = tt; each = refl }

-- one more is taken behind some
pub one-more : FrameLaws → (t : Layout) (h : Header) (first before after body : List ℕ) (some : List Read) (read : Read) →
    TakesFrames t h first before some → before ≡ frame_of h body ++ after → length body ≤ largest h → read ≡ read_of t body →
    TakesFrames t h first after (some ++ read ∷ [])
one-more laws t h first before after body some read so front fits told = record {
  bodies = so.bodies ++ body ∷ [];
  joined = so.joined ∙ ap (λ rest. frames_of h so.bodies ++ rest) front
      ∙ sym (append_assoc (frames_of h so.bodies) (frame_of h body) after)
      ∙ ap (λ frames. frames ++ after) (sym (frames-more laws h so.bodies body));
  fit = laws.fit h so.bodies (body ∷ []) so.fit (fits, tt);
  each = ap (λ r. some ++ r ∷ []) told ∙ ap (λ rs. rs ++ read_of t body ∷ []) so.each ∙ sym (map-append (read_of t) so.bodies (body ∷ []));
}
