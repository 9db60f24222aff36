-- Frame after frame of one guarded peer.
use Rattle.std.proofs.Common.{◌≡◌, ◌∙◌, ◌++◌, ◌+◌, ◌≤◌, ℕ, zero, suc, zero-add, refl, sym, ap, subst, arith, inl, inr, List, [], ◌∷◌, length, drop, append_assoc, append-nil}
use Rattle.std.specs.Prelude.{Option, Some, None}
use Rattle.std.proofs.lemmas.List.{length-drop, length-append}
use Rattle.iso_wire.specs.FrameLaws.{FrameLaws}
use Rattle.iso_wire.specs.Framing.{frame_of, frames_of, AllFit, Begins}
use Rattle.iso_issuer.specs.Books.{Books}
use Rattle.iso_peers.specs.Turn.{books_change}
use Rattle.iso_host.specs.Peers.{one_peer}
use Rattle.iso_host.specs.Hosting.{replying}
use Rattle.iso_host.specs.Entering.{books_after_bodies, BodiesGoOn, StaysWithout}
use Rattle.iso_host.specs.declared.peer.PeerFault.{PeerFault}
use Rattle.iso_host.specs.declared.peer.PeerFault.TheVariants.{BadHeader, Memory}
use Rattle.iso_peers.specs.declared.turn.Turned.{Turned}
use Rattle.iso_guard.specs.Guarding.{Guard, EntersAllowed}
use Rattle.iso_guard.specs.Entering.{entering_of, books_after_guarded}
use Rattle.iso_guard.specs.Answering.{AnswersGuarded, IsGuardedAnswer, IsGuardedOutput, IsGuardedOutputFrom}
use Rattle.iso_guard.specs.Taking.{StopsGuarded, TakesFrames, TakesGuarded}
use Rattle.iso_guard.proofs.Allowed.{allowed_enter, books_more, one_more_or_not}

-- ---- one body more

module _ (g : Guard) (books : Books) where
  output_from_more : (earlier bodies : List (List ℕ)) (body out first : List ℕ) → IsGuardedOutputFrom g books earlier bodies out
      → IsGuardedAnswer g (books_after_guarded g books (earlier ++ bodies)) body first → IsGuardedOutputFrom g books earlier (bodies ++ body ∷ []) (out ++ first)
  output_from_more earlier [] body out first is answer = (
    first,
    [],
    subst (λ (l : List (List ℕ)). IsGuardedAnswer g (books_after_guarded g books l) body first) (append-nil earlier) answer,
    refl,
    ap (λ (l : List ℕ). l ++ first) is ∙ sym (append-nil first),
  )
  output_from_more earlier (x ∷ xs) body out first is answer =
      let later = subst (λ (l : List (List ℕ)). IsGuardedAnswer g (books_after_guarded g books l) body first) (sym (append_assoc earlier (x ∷ []) xs)) answer in (
        is.0,
        is.1 ++ first,
        is.2,
        output_from_more (earlier ++ x ∷ []) xs body is.1 first is.3 later,
        ap (λ (l : List ℕ). l ++ first) is.4 ∙ append_assoc is.0 is.1 first,
      )

  pub output_none : IsGuardedOutput g books [] []
  unfolding IsGuardedOutput
  output_none = refl

  output_more : (bodies : List (List ℕ)) (body out first : List ℕ) → IsGuardedOutput g books bodies out
      → IsGuardedAnswer g (books_after_guarded g books bodies) body first → IsGuardedOutput g books (bodies ++ body ∷ []) (out ++ first)
  unfolding IsGuardedOutput
  output_more bodies body out first is answer = output_from_more [] bodies body out first is answer

-- ---- bytes that are passed over

abbrev nothing : List ℕ
nothing = []

drop_none : (n : ℕ) → drop n nothing ≡ nothing
drop_none zero = refl
drop_none (suc n) = refl

pub drop_again : (m n : ℕ) (l : List ℕ) → drop n (drop m l) ≡ drop (m + n) l
drop_again zero n l = ap (λ (k : ℕ). drop k l) (sym (zero-add n))
drop_again (suc m) n [] = drop_none n ∙ sym (drop_none (suc m + n))
drop_again (suc m) n (x ∷ xs) =
    let more : suc (m + n) ≡ suc m + n = omega arith in
    drop_again m n xs ∙ ap (λ (k : ℕ). drop k (x ∷ xs)) more

-- ---- the frames so far

-- the bodies of the frames that the first so many of these bytes are
pub record FramesSoFar (g : Guard) (before after : Books) (bytes old new : List ℕ) (used : ℕ) : Type 0 where
  pub within : used ≤ length bytes
  pub bodies : List (List ℕ)
  pub joined : bytes ≡ frames_of g.header bodies ++ drop used bytes
  pub fit : AllFit g.header bodies
  pub answers : List ℕ
  pub output : IsGuardedOutput g before bodies answers
  pub waits : new ≡ old ++ answers
  pub books : after ≡ books_after_guarded g before bodies

module _ (g : Guard) (before : Books) (bytes old : List ℕ) where
  pub none_so_far : StaysWithout before → FramesSoFar g before before bytes old old 0
  none_so_far without = record {
    within = omega arith;
    bodies = [];
    joined = refl;
    fit = tt;
    answers = [];
    output = output_none g before;
    waits = sym (append-nil old);
    books = sym (without g.table);
  }

  -- the frame that begins the rest has so many bytes, which are there
  pub within_rest : (used size : ℕ) (body : List ℕ) → used ≤ length bytes → Begins g.header (drop used bytes) body size → used + size ≤ length bytes
  within_rest used size body within begins =
      let rest = drop used bytes in
      let whole : length rest ≡ length (frame_of g.header body) + length (drop size rest) = ap length begins.whole ∙ length-append (frame_of g.header body) (drop size rest) in
      omega (arith, within, whole, begins.size, length-drop used bytes)

  frames_more : FrameLaws → (bodies : List (List ℕ)) (body rest : List ℕ)
      → frames_of g.header (bodies ++ body ∷ []) ++ rest ≡ frames_of g.header bodies ++ (frame_of g.header body ++ rest)
  frames_more joins bodies body rest =
      ap (λ (l : List ℕ). l ++ rest) (joins.joined g.header bodies (body ∷ [])) ∙ append_assoc (frames_of g.header bodies) (frame_of g.header body ++ []) rest
      ∙ ap (λ (l : List ℕ). frames_of g.header bodies ++ (l ++ rest)) (append-nil (frame_of g.header body))

  -- one frame more
  pub next_frame : FrameLaws → (mid after : Books) (used size : ℕ) (body between new : List ℕ) → BodiesGoOn → FramesSoFar g before mid bytes old between used
      → Begins g.header (drop used bytes) body size → AnswersGuarded g (replying mid between) (replying after new) body
      → FramesSoFar g before after bytes old new (used + size)
  next_frame joins mid after used size body between new law so begins answered =
      let behind = drop_again used size bytes in
      let grows = answered.1 in
      record {
        within = within_rest used size body so.within begins;
        bodies = so.bodies ++ body ∷ [];
        joined = so.joined ∙ ap (λ (l : List ℕ). frames_of g.header so.bodies ++ l) (begins.whole ∙ ap (λ (l : List ℕ). frame_of g.header body ++ l) behind)
            ∙ sym (frames_more joins so.bodies body (drop (used + size) bytes));
        fit = joins.fit g.header so.bodies (body ∷ []) so.fit (begins.fits, tt);
        answers = so.answers ++ grows.0;
        output = output_more g before so.bodies body so.answers grows.0 so.output (subst (λ (b : Books). IsGuardedAnswer g b body grows.0) so.books grows.1);
        waits = grows.2 ∙ ap (λ (l : List ℕ). l ++ grows.0) so.waits ∙ append_assoc old so.answers grows.0;
        books = subst (λ (b : Books). after ≡ b) (books_more g before so.bodies body law)
            (subst (λ (b : Books). after ≡ books_after_bodies g.table b (entering_of g body)) so.books answered.0);
      }

-- ---- what is held

module _ (g : Guard) (held waiting bytes : List ℕ) (before after : Books) where
  -- the bytes can't be held
  pub holds_nothing : StaysWithout before → after ≡ before
      → TakesGuarded g (one_peer held before waiting) (one_peer held after waiting) bytes (record { used = 0; stopped = Some Memory })
  holds_nothing without same = record {
    within = omega arith;
    bodies = [];
    joined = append-nil held;
    fit = tt;
    answers = [];
    output = output_none g before;
    waits = sym (append-nil waiting);
    stops = inl (same ∙ sym (without g.table));
  }

-- ---- what enters

stops_enter : (g : Guard) (before after : Books) (bodies : List (List ℕ)) (held rest : List ℕ) (why : Option PeerFault) → BodiesGoOn
    → StopsGuarded g held rest (books_change (books_after_guarded g before bodies) after) why → EntersAllowed g.acquirers g.table before after
stops_enter g before after bodies held rest None law stops = allowed_enter g before after bodies stops.2
stops_enter g before after bodies held rest (Some BadHeader) law stops = allowed_enter g before after bodies stops.2
stops_enter g before after bodies held rest (Some Memory) law (inl same) = allowed_enter g before after bodies same
stops_enter g before after bodies held rest (Some Memory) law (inr wants) = one_more_or_not g before after bodies wants.0 law wants.4

-- only orders that may be spoken for
pub frames_enter : (g : Guard) (before after : Books) (bytes old new : List ℕ) (taken : Turned) → BodiesGoOn → TakesFrames g (replying before old) (replying after new) bytes taken
    → EntersAllowed g.acquirers g.table before after
frames_enter g before after bytes old new taken law took = stops_enter g before after took.bodies (drop taken.used bytes) [] taken.stopped law took.stops
