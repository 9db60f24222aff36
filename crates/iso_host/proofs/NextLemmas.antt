-- A frame that ends in the window.
use Rattle.std.proofs.Common.{◌≡◌, ℕ, ◌≤◌, List, ◌++◌, length, take, drop, ◌+◌, Option, Some, None, sym, subst, ap, ◌∙◌, arith, length-append, length-take, length-drop}
use Rattle.std.specs.Io.KnownBytes.{Consumes, prepend_known}
use Rattle.iso_table.specs.Layout.{Layout}
use Rattle.iso_wire.specs.declared.header.Header.{Header}
use Rattle.iso_wire.specs.Framing.{frame_of, largest, NeedsMore}
use Rattle.iso_issuer.specs.Books.{Books}
use Rattle.iso_host.proofs.WindowLemmas.{took_more}
use Rattle.iso_host.specs.Hosting.{Answers, IsHandled, replying}
use Rattle.iso_host.specs.Links.{agreed}
use Rattle.iso_host.specs.Peers.{Takes, TakesPiece, one_peer}
use Rattle.iso_host.specs.declared.handled.Handled.{Handled}
use Rattle.iso_host.specs.declared.peer.Taken.{Taken}

pub taken_frame : (t : Layout) (h : Header) (a r : Option (List ℕ)) (w bytes after held kept : List ℕ) (old new : Books) (out grown : List ℕ) (taken : Taken) (handled : Handled)
    → Consumes a (prepend_known w r) held → bytes ≡ w → after ≡ drop taken.used w → Takes (agreed t h) (one_peer held old out) (one_peer kept new grown) bytes taken → taken.handled ≡ Some handled
    → (body : List ℕ) × Consumes a (prepend_known after r) (frame_of h body) × (length body ≤ largest h) × Answers (agreed t h) (replying old out) (replying new grown) body × IsHandled t old body handled
taken_frame t h a r w bytes after held kept old new out grown taken handled part same passed takes is =
    let piece = subst (TakesPiece (agreed t h) (one_peer held old out) (one_peer kept new grown) (take taken.used bytes)) is takes.piece in
    let front : held ++ take taken.used w ≡ frame_of h piece.0 = ap (λ (l : List ℕ). held ++ take taken.used l) (sym same) ∙ piece.1 in (
      piece.0,
      subst (Consumes a (prepend_known after r)) front (subst (λ (l : List ℕ). Consumes a (prepend_known l r) (held ++ take taken.used w)) (sym passed) (took_more a r w held taken.used part)),
      piece.2,
      piece.4,
      piece.5,
    )

-- the same call, at what its books and bytes are
pub taken_at : (t : Layout) (h : Header) (held kept : List ℕ) (old books new : Books) (bytes out first grown : List ℕ) (taken : Taken) → Takes (agreed t h) (one_peer held old out) (one_peer kept new grown) bytes taken
    → old ≡ books → out ≡ first → Takes (agreed t h) (one_peer held books first) (one_peer kept new grown) bytes taken
taken_at t h held kept old books new bytes out first grown taken takes same_books same_out =
    subst (λ (l : List ℕ). Takes (agreed t h) (one_peer held books l) (one_peer kept new grown) bytes taken) same_out
    (subst (λ (b : Books). Takes (agreed t h) (one_peer held b out) (one_peer kept new grown) bytes taken) same_books takes)

-- or stays behind what was held
pub taken_on : (t : Layout) (h : Header) (a r : Option (List ℕ)) (w bytes after held kept : List ℕ) (old new : Books) (out grown : List ℕ) (taken : Taken)
    → Consumes a (prepend_known w r) held → bytes ≡ w → after ≡ drop taken.used w → Takes (agreed t h) (one_peer held old out) (one_peer kept new grown) bytes taken → taken.handled ≡ None
    → Consumes a (prepend_known after r) kept × (new ≡ old) × (grown ≡ out) × (length kept + length after ≡ length held + length w) × NeedsMore h kept
taken_on t h a r w bytes after held kept old new out grown taken part same passed takes is =
    let piece = subst (TakesPiece (agreed t h) (one_peer held old out) (one_peer kept new grown) (take taken.used bytes)) is takes.piece in
    let whole : kept ≡ held ++ take taken.used w = piece.0 ∙ ap (λ (l : List ℕ). held ++ take taken.used l) same in (
      subst (Consumes a (prepend_known after r)) (sym whole) (subst (λ (l : List ℕ). Consumes a (prepend_known l r) (held ++ take taken.used w)) (sym passed) (took_more a r w held taken.used part)),
      piece.2,
      piece.3,
      omega (arith, ap length whole, ap length passed, length-append held (take taken.used w), length-take taken.used w, length-drop taken.used w, takes.within, ap length same),
      piece.1,
    )
