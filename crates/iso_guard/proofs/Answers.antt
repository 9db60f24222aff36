-- The answer to one body of a guarded line.
use Rattle.std.proofs.Common.{◌≡◌, ◌∙◌, ◌++◌, ◌+◌, ◌<◌, ◌≤◌, ℕ, refl, sym, ap, subst, arith, inl, inr, List, [], length, take, drop, append-nil}
use Rattle.std.specs.Prelude.{◌⊎◌, Result, Ok, Err, OnErr, Option, Some, None, Bool, true, false, if◌then◌else◌, nat_lt}
use Rattle.std.proofs.Math.Seq.{drop-append_seam}
use Rattle.std.proofs.lemmas.List.{length-append}
use Rattle.iso_table.specs.Layout.{Layout}
use Rattle.iso_wire.specs.declared.header.Header.{Header}
use Rattle.iso_wire.specs.declared.header.Header.TheVariants.{Binary2, Ascii4, Bcd2}
use Rattle.iso_wire.specs.Contents.{Contents}
use Rattle.iso_wire.specs.FrameLaws.{FrameLaws}
use Rattle.iso_wire.specs.Framing.{frame_of, header_of, header_size, largest}
use Rattle.iso_wire.specs.Spelling.{PlainSpelling}
use Rattle.iso_order.specs.declared.key.TxKey.{TxKey}
use Rattle.iso_order.specs.Outcome.{code_alone}
use Rattle.iso_order.specs.Response.{response}
use Rattle.iso_issuer.specs.Books.{Books}
use Rattle.iso_host.specs.Asking.{message_in}
use Rattle.iso_host.specs.Entering.{books_after_bodies, StaysWithout}
use Rattle.iso_host.specs.Hosting.{GrowsBy, replying}
use Rattle.iso_host.specs.Output.{IsFramed, IsAnswerTo, response_to}
use Rattle.iso_guard.specs.Guarding.{Guard}
use Rattle.iso_guard.specs.Entering.{entering_of, entering_unless, foreign_to, EntersOrNot}
use Rattle.iso_guard.specs.Answering.{response_unless, AnswersGuarded, IsFramedBehind, IsGuardedAnswer}

-- ---- headers

pub header_counts : (h : Header) → 1 ≤ header_size h
header_counts Binary2 = omega arith
header_counts Ascii4 = omega arith
header_counts Bcd2 = omega arith

-- the body behind a header
behind_header : FrameLaws → (h : Header) (body : List ℕ) → drop (header_size h) (frame_of h body) ≡ body
behind_header laws h body =
    subst (λ (n : ℕ). drop n (header_of h (length body) ++ body) ≡ body) (laws.header h (length body)) (drop-append_seam (header_of h (length body)) body)

pub frame_length : FrameLaws → (h : Header) (body : List ℕ) → length (frame_of h body) ≡ header_size h + length body
frame_length laws h body = length-append (header_of h (length body)) body ∙ ap (λ (n : ℕ). n + length body) (laws.header h (length body))

-- ---- the host's answer, behind the bytes before its message

-- what the host's answer is: nothing, or a frame
pub framed : (t : Layout) (h : Header) (books : Books) (message : Option Contents) (bytes : List ℕ) → IsAnswerTo t h books message bytes → IsFramed t h (response_to books message) bytes
unfolding IsAnswerTo
framed t h books message bytes is = is

-- no answer was given
pub none_behind : FrameLaws → (t : Layout) (h : Header) (before bytes old new : List ℕ) (made : Option Contents) → IsFramed t h made bytes → length bytes < header_size h → new ≡ old
    → GrowsBy (IsFramedBehind t h before made) old new
none_behind laws t h before bytes old new None is few same = ([], refl, same ∙ sym (append-nil old))
none_behind laws t h before bytes old new (Some r) is few same = absurd (omega (arith, few, ap length is.3, frame_length laws h is.0))

-- an answer was given
pub some_behind : FrameLaws → (t : Layout) (h : Header) (before bytes body old new : List ℕ) (made : Option Contents) → IsFramed t h made bytes → header_size h ≤ length bytes
    → body ≡ drop (header_size h) bytes → length (before ++ body) ≤ largest h → new ≡ old ++ frame_of h (before ++ body)
    → GrowsBy (IsFramedBehind t h before made) old new
some_behind laws t h before bytes body old new None is many body_is fits grown = absurd (omega (arith, many, ap length is, header_counts h))
some_behind laws t h before bytes body old new (Some r) is many body_is fits grown =
    let plain_is : body ≡ is.0 = body_is ∙ ap (drop (header_size h)) is.3 ∙ behind_header laws h is.0 in (
      frame_of h (before ++ body),
      (body, subst (PlainSpelling t r) (sym plain_is) is.1, fits, refl),
      grown,
    )

-- ---- the answer to an order that may not be spoken for

pub foreign_behind : (t : Layout) (h : Header) (books : Books) (key : TxKey) (before plain old new : List ℕ) (m : Contents) (message : Option Contents) → message ≡ Some m
    → PlainSpelling t (response m (code_alone 12)) plain → length (before ++ plain) ≤ largest h → new ≡ old ++ frame_of h (before ++ plain)
    → GrowsBy (IsFramedBehind t h before (response_unless books (Some key) message)) old new
foreign_behind t h books key before plain old new m message is spelled fits grown =
    subst (λ (o : Option Contents). GrowsBy (IsFramedBehind t h before (response_unless books (Some key) o)) old new) (sym is)
    (frame_of h (before ++ plain), (plain, spelled, fits, refl), grown)

-- ---- the body of a frame

module _ (g : Guard) (old new : Books) (body : List ℕ) where
  -- one that ends before its message
  pub short_body : (waiting : List ℕ) → StaysWithout old → nat_lt (length body) g.skip ≡ true → AnswersGuarded g (replying old waiting) (replying old waiting) body
  unfolding entering_of IsGuardedAnswer
  short_body waiting without is =
      let message = drop g.skip body in (
        subst (λ (b : Bool). old ≡ books_after_bodies g.table old (if b then [] else entering_unless (foreign_to g message) message)) (sym is) (sym (without g.table)),
        (
          [],
          subst (λ (b : Bool). IsFramedBehind g.table g.header (take g.skip body)
              (if b then None else response_unless old (foreign_to g message) (message_in g.table message)) []) (sym is) refl,
          sym (append-nil waiting),
        ),
      )

  -- one with a message
  pub whole_body : (out grown before message : List ℕ) → nat_lt (length body) g.skip ≡ false → before ≡ take g.skip body → message ≡ drop g.skip body
      → new ≡ books_after_bodies g.table old (entering_unless (foreign_to g message) message)
      → GrowsBy (IsFramedBehind g.table g.header before (response_unless old (foreign_to g message) (message_in g.table message))) out grown
      → AnswersGuarded g (replying old out) (replying new grown) body
  unfolding entering_of IsGuardedAnswer
  whole_body out grown before message is front back enters grows =
      let behind = drop g.skip body in
      let enters_behind = subst (λ (m : List ℕ). new ≡ books_after_bodies g.table old (entering_unless (foreign_to g m) m)) back enters in
      let made = subst (λ (m : List ℕ). IsFramedBehind g.table g.header before (response_unless old (foreign_to g m) (message_in g.table m)) grows.0) back grows.1 in
      let made_behind = subst (λ (l : List ℕ). IsFramedBehind g.table g.header l (response_unless old (foreign_to g behind) (message_in g.table behind)) grows.0) front made in (
        subst (λ (b : Bool). new ≡ books_after_bodies g.table old (if b then [] else entering_unless (foreign_to g behind) behind)) (sym is) enters_behind,
        (
          grows.0,
          subst (λ (b : Bool). IsFramedBehind g.table g.header (take g.skip body)
              (if b then None else response_unless old (foreign_to g behind) (message_in g.table behind)) grows.0) (sym is) made_behind,
          grows.2,
        ),
      )

  -- one with a message, for which memory was wanting
  pub whole_or_not : (message : List ℕ) → nat_lt (length body) g.skip ≡ false → message ≡ drop g.skip body
      → (new ≡ old) ⊎ (new ≡ books_after_bodies g.table old (entering_unless (foreign_to g message) message)) → EntersOrNot g old new body
  unfolding entering_of
  whole_or_not message is back (inl same) = inl same
  whole_or_not message is back (inr enters) =
      let behind = drop g.skip body in
      let enters_behind = subst (λ (m : List ℕ). new ≡ books_after_bodies g.table old (entering_unless (foreign_to g m) m)) back enters in
      inr (subst (λ (b : Bool). new ≡ books_after_bodies g.table old (if b then [] else entering_unless (foreign_to g behind) behind)) (sym is) enters_behind)

-- ---- errors that are handed on

-- what holds, holds of an error
pub on_err : {X E : Type 0} (r : Result X E) (P : Type 0) → P → OnErr r P
on_err (Ok x) P holds = tt
on_err (Err e) P holds = holds
