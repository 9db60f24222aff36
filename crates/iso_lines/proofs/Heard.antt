-- What bodies that came enter, one after the other.
use Rattle.std.proofs.Common.{◌≡◌, ◌∙◌, ◌++◌, ℕ, refl, sym, ap, inl, inr, List, [], ◌∷◌}
use Rattle.std.specs.Prelude.{Option, Some, None, Result, Ok, Err, IfOk, IfErr, Bool}
use Rattle.iso_table.specs.Layout.{Layout}
use Rattle.iso_issuer.specs.Books.{Books}
use Rattle.iso_host.specs.Links.{agreed}
use Rattle.iso_host.specs.Entering.{books_after_bodies, BodiesGoOn, StaysWithout}
use Rattle.iso_host.specs.Handling.{books_after_body, BodyAlone}
use Rattle.iso_host.specs.Peers.{Unfinished, one_peer}
use Rattle.iso_host.specs.declared.peer.Taken.{Taken}
use Rattle.iso_host.specs.declared.handled.Handled.{Handled}
use Rattle.iso_host.specs.Peers.{TakesPiece}
use Rattle.iso_wire.specs.declared.header.Header.{Header}
use Rattle.iso_peers.specs.Connection.{ConnectionState}
use Rattle.iso_peers.specs.Pieces.{TakenSoFar}
use Rattle.iso_peers.specs.Turn.{AtBooks, TakesOf, RefusesTurn, at_books, books_change}
use Rattle.iso_peers.specs.declared.fault.TurnFault.{TurnFault}
use Rattle.iso_peers.specs.declared.fault.TurnFault.TheVariants.{Log, BadHeader, Memory}
use Rattle.iso_guard.specs.Guarding.{EntersAllowed}
use Rattle.iso_lines.specs.Turn.{Heard, books_after_heard, EntersHeard}

-- ---- books

after_more : (b : Books) (xs ys : List Heard) → books_after_heard (books_after_heard b xs) ys ≡ books_after_heard b (xs ++ ys)
after_more b [] ys = refl
after_more b (x ∷ xs) ys = after_more (books_after_bodies x.table b (x.body ∷ [])) xs ys

-- ---- what enters

-- nothing
pub none_heard : (books : Books) → EntersHeard books books
none_heard books = record { heard = []; entered = refl }

-- the same books
pub same_heard : (old new : Books) → new ≡ old → EntersHeard old new
same_heard old new same = record { heard = []; entered = same }

-- bodies, and then more
pub more_heard : (old mid new : Books) → EntersHeard old mid → EntersHeard mid new → EntersHeard old new
more_heard old mid new first second = record {
  heard = first.heard ++ second.heard;
  entered = second.entered ∙ ap (λ (b : Books). books_after_heard b second.heard) first.entered ∙ after_more old first.heard second.heard;
}

-- one body
pub one_heard : BodyAlone → (t : Layout) (old new : Books) (body : List ℕ) → new ≡ books_after_body t old body → EntersHeard old new
one_heard alone t old new body is = record { heard = record { table = t; body = body } ∷ []; entered = is ∙ alone t old body }

-- bodies of one line
pub bodies_heard : (t : Layout) (bodies : List (List ℕ)) (old new : Books) → BodiesGoOn → books_after_bodies t old [] ≡ old → new ≡ books_after_bodies t old bodies → EntersHeard old new
bodies_heard t [] old new law stays is = same_heard old new (is ∙ stays)
bodies_heard t (body ∷ bodies) old new law stays is =
    let mid = books_after_bodies t old (body ∷ []) in
    let first : EntersHeard old mid = record { heard = record { table = t; body = body } ∷ []; entered = refl } in
    more_heard old mid new first (bodies_heard t bodies mid new law (law t old (body ∷ []) []) (is ∙ sym (law t old (body ∷ []) bodies)))

-- messages that may be spoken for
pub allowed_heard : (acquirers : List ℕ) (t : Layout) (old new : Books) → BodiesGoOn → StaysWithout old → EntersAllowed acquirers t old new → EntersHeard old new
allowed_heard acquirers t old new law without enters = bodies_heard t enters.bodies old new law (without t) enters.entered

-- ---- a piece

module _ (alone : BodyAlone) where
  piece_heard : (t : Layout) (h : Header) (held kept : List ℕ) (old new : Books) (piece out grown : List ℕ) (handled : Option Handled) → TakesPiece (agreed t h) (one_peer held old out) (one_peer kept new grown) piece handled
      → EntersHeard old new
  piece_heard t h held kept old new piece out grown None took = same_heard old new took.2
  piece_heard t h held kept old new piece out grown (Some handled) took = one_heard alone t old new took.0 took.4.0

  refused_heard : (failed : Bool) (p : Unfinished) (old new : Books) (bytes : List ℕ) (why : TurnFault) → RefusesTurn failed p (books_change old new) bytes why → EntersHeard old new
  refused_heard failed p old new bytes Log refused = same_heard old new refused.1
  refused_heard failed p old new bytes BadHeader refused = same_heard old new refused.1.0
  refused_heard failed p old new bytes Memory (sound, inl same) = same_heard old new same
  refused_heard failed p old new bytes Memory (sound, inr wants) = one_heard alone p.table old new wants.0 wants.4.0

  -- however taking a piece ends
  pub take_heard : (failed : Bool) (before after : ConnectionState) (old new : Books) (bytes : List ℕ) (r : Result Taken TurnFault)
      → IfOk r (TakesOf (at_books before old) (at_books after new) bytes) → IfErr r (RefusesTurn failed before.peer (books_change old new) bytes) → EntersHeard old new
  take_heard failed before after old new bytes (Ok taken) took refused =
      piece_heard before.peer.table before.peer.header before.peer.held after.peer.held old new _ before.waiting after.waiting taken.handled took.piece
  take_heard failed before after old new bytes (Err why) took refused = refused_heard failed before.peer old new bytes why refused

-- the pieces so far
pub so_heard : (before after : AtBooks) (bytes : List ℕ) (used : ℕ) → BodiesGoOn → StaysWithout before.books → TakenSoFar before after bytes used → EntersHeard before.books after.books
so_heard before after bytes used law without so = bodies_heard before.connection.peer.table so.bodies before.books after.books law (without before.connection.peer.table) so.books
