-- Piece after piece of one peer.
use Rattle.std.proofs.Common.{◌≡◌, ◌∙◌, ◌++◌, ◌+◌, ℕ, refl, sym, ap, subst, arith, List, [], ◌∷◌, length, take, drop, append_assoc, append-nil}
use Rattle.std.specs.Prelude.{Option, Some, None}
use Rattle.std.proofs.lemmas.List.{length-drop}
use Rattle.std.proofs.Math.Seq.{drop-length, take-add}
use Rattle.iso_table.specs.Layout.{Layout}
use Rattle.iso_wire.specs.declared.header.Header.{Header}
use Rattle.iso_wire.specs.FrameLaws.{FrameLaws}
use Rattle.iso_wire.specs.Framing.{frame_of, frames_of, NoFrame, SplitsSomehow}
use Rattle.iso_issuer.specs.Books.{Books}
use Rattle.iso_issuer.specs.Laws.{books_after}
use Rattle.iso_host.specs.Links.{agreed}
use Rattle.iso_host.specs.Asking.{orders_of}
use Rattle.iso_host.specs.Entering.{books_after_bodies, BodiesGoOn, StaysWithout}
use Rattle.iso_host.specs.Handling.{BodyAlone}
use Rattle.iso_host.specs.Output.{IsAnswer, NoOutput, OutputGoesOn}
use Rattle.iso_host.specs.Peers.{OnePeer, TakesPiece, Refuses}
use Rattle.iso_host.specs.declared.handled.Handled.{Handled}
use Rattle.iso_host.specs.declared.peer.PeerFault.{PeerFault}
use Rattle.iso_host.specs.declared.peer.Taken.{Taken}
use Rattle.iso_peers.specs.Connection.{ConnectionState}
use Rattle.iso_peers.specs.Pieces.{PieceLaws, TakenSoFar, TakesNext}
use Rattle.iso_peers.specs.Turn.{AtBooks, TakesAll, at_books, peer_at}

-- bodies enter the books by the orders that they ask
pub by_orders : (t : Layout) (books : Books) (bodies : List (List ℕ)) → books_after_bodies t books bodies ≡ books_after books (orders_of t bodies)
unfolding books_after_bodies
by_orders t books bodies = refl

-- what the laws of frames and of a host say
pub record HostLaws : Type 0 where
  pub frames : FrameLaws
  pub splits : SplitsSomehow
  pub alone : BodyAlone
  pub go_on : BodiesGoOn
  pub no_output : NoOutput
  pub output : OutputGoesOn

-- no frame begins with no bytes
no_frame : SplitsSomehow → (h : Header) → NoFrame h []
no_frame law h =
    let split = law h [] in
    subst (NoFrame h) (rest_none (frames_of h split.0) split.1 split.2.joined) split.2.partial
  where
    rest_none : (xs ys : List ℕ) → [] ≡ xs ++ ys → ys ≡ []
    rest_none [] ys is = sym is
    rest_none (x ∷ xs) ys is = cc

-- after a piece that is taken, none begins
no_frame_after : SplitsSomehow → (t : Layout) (h : Header) (before after : OnePeer) (piece : List ℕ) (handled : Option Handled)
    → TakesPiece (agreed t h) before after piece handled → NoFrame h after.held
no_frame_after law t h before after piece None took = took.1.no_frame
no_frame_after law t h before after piece (Some handled) took = subst (NoFrame h) (sym took.3) (no_frame law h)

module _ (laws : HostLaws) where
  none : (c : ConnectionState) (books : Books) (bytes : List ℕ) → StaysWithout books → TakenSoFar (at_books c books) (at_books c books) bytes 0
  none c books bytes without = record {
    within = omega arith;
    table = refl;
    header = refl;
    bodies = [];
    joined = append-nil c.peer.held;
    fit = tt;
    answers = [];
    output = laws.no_output c.peer.table c.peer.header books;
    waits = sym (append-nil c.waiting);
    books = sym (without c.peer.table);
  }

  module _ (first mid last : AtBooks) (bytes : List ℕ) (used : ℕ) (taken : Taken) (so : TakenSoFar first mid bytes used) (took : TakesNext mid last (drop used bytes) taken) where
    abbrev t : Layout
    t = first.connection.peer.table

    abbrev h : Header
    h = first.connection.peer.header

    abbrev piece : List ℕ
    piece = take taken.used (drop used bytes)

    -- the piece on the first table and header
    here : TakesPiece (agreed t h) (peer_at mid) (peer_at last) piece taken.handled
    here =
        subst (λ (k : Header). TakesPiece (agreed t k) (peer_at mid) (peer_at last) piece taken.handled) so.header
        (subst (λ (l : Layout). TakesPiece (agreed l mid.connection.peer.header) (peer_at mid) (peer_at last) piece taken.handled) so.table took.took.piece)

    -- it comes behind what was held
    joined : first.connection.peer.held ++ take (used + taken.used) bytes ≡ frames_of h so.bodies ++ (mid.connection.peer.held ++ piece)
    joined =
        let held = first.connection.peer.held in
        ap (λ (l : List ℕ). held ++ l) (take-add used taken.used bytes) ∙ sym (append_assoc held (take used bytes) piece)
        ∙ ap (λ (l : List ℕ). l ++ piece) so.joined ∙ append_assoc (frames_of h so.bodies) mid.connection.peer.held piece

    by_handled : (handled : Option Handled) → TakesPiece (agreed t h) (peer_at mid) (peer_at last) piece handled → TakenSoFar first last bytes (used + taken.used)
    by_handled None kept = record {
      within = omega (arith, took.took.within, length-drop used bytes, so.within);
      table = took.table ∙ so.table;
      header = took.header ∙ so.header;
      bodies = so.bodies;
      joined = joined ∙ ap (λ (l : List ℕ). frames_of h so.bodies ++ l) (sym kept.0);
      fit = so.fit;
      answers = so.answers;
      output = so.output;
      waits = kept.3 ∙ so.waits;
      books = kept.2 ∙ so.books;
    }
    by_handled (Some handled) ended =
        let body = ended.0 in
        let grows = ended.4.1 in
        let bodies = so.bodies ++ body ∷ [] in
        record {
          within = omega (arith, took.took.within, length-drop used bytes, so.within);
          table = took.table ∙ so.table;
          header = took.header ∙ so.header;
          bodies = bodies;
          joined = joined ∙ ap (λ (l : List ℕ). frames_of h so.bodies ++ l) (ended.1 ∙ sym (append-nil (frame_of h body))) ∙ sym (laws.frames.joined h so.bodies (body ∷ []))
              ∙ sym (append-nil (frames_of h bodies)) ∙ ap (λ (l : List ℕ). frames_of h bodies ++ l) (sym ended.3);
          fit = laws.frames.fit h so.bodies (body ∷ []) so.fit (ended.2, tt);
          answers = so.answers ++ grows.0;
          output = laws.output t h first.books so.bodies body so.answers grows.0 so.output (subst (λ (b : Books). IsAnswer t h b body grows.0) so.books grows.1);
          waits = grows.2 ∙ ap (λ (l : List ℕ). l ++ grows.0) so.waits ∙ append_assoc first.connection.waiting so.answers grows.0;
          books = ended.4.0 ∙ laws.alone t mid.books body ∙ ap (λ (b : Books). books_after_bodies t b (body ∷ [])) so.books ∙ laws.go_on t first.books so.bodies (body ∷ []);
        }

    next : TakenSoFar first last bytes (used + taken.used)
    next = by_handled taken.handled here

    all : used + taken.used ≡ length bytes → TakesAll first last bytes (record { used = used + taken.used; stopped = None })
    all end =
        let no_more = no_frame_after laws.splits mid.connection.peer.table mid.connection.peer.header (peer_at mid) (peer_at last) piece taken.handled took.took.piece in
        record {
          within = next.within;
          bodies = next.bodies;
          joined = next.joined;
          fit = next.fit;
          answers = next.answers;
          output = next.output;
          waits = next.waits;
          stops = (
            ap (λ (n : ℕ). drop n bytes) end ∙ drop-length bytes,
            subst (λ (k : Header). NoFrame k last.connection.peer.held) (sym took.header) no_more,
            next.books,
          );
        }

refused : (first mid : AtBooks) (bytes : List ℕ) (used : ℕ) (after : Books) (why : PeerFault) → TakenSoFar first mid bytes used
    → Refuses mid.connection.peer mid.books after (drop used bytes) why → TakesAll first (at_books mid.connection after) bytes (record { used = used; stopped = Some why })
refused first mid bytes used after why so refuses = record {
  within = so.within;
  bodies = so.bodies;
  joined = so.joined;
  fit = so.fit;
  answers = so.answers;
  output = so.output;
  waits = so.waits;
  stops = subst (λ (b : Books). Refuses mid.connection.peer b after (drop used bytes) why) so.books refuses;
}

pub piece_laws : HostLaws → (books : Books) → StaysWithout books → PieceLaws books
piece_laws laws books without = record {
  none = λ c bytes. none laws c books bytes without;
  next = next laws;
  all = all laws;
  refused = refused;
}
