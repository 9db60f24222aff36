-- One more body: the stream and the output.
use Rattle.std.proofs.Common.{◌≡◌, ℕ, zero, suc, ◌-◌, List, [], ◌∷◌, ◌++◌, length, take, Option, Some, None, sym, subst, refl, arith, ap, ◌∙◌, append_assoc, append-nil, length-append}
use Rattle.std.proofs.Math.Seq.{take-append_seam}
use Rattle.iso_table.specs.Layout.{Layout}
use Rattle.iso_wire.specs.declared.header.Header.{Header}
use Rattle.iso_wire.specs.Contents.{Contents}
use Rattle.iso_wire.specs.Framing.{frame_of}
use Rattle.iso_wire.specs.OneSpelling.{PlainOnce}
use Rattle.iso_issuer.specs.Books.{Books}
use Rattle.iso_host.specs.Entering.{books_after_bodies}
use Rattle.iso_host.specs.Asking.{message_in}
use Rattle.iso_host.specs.Links.{agreed}
use Rattle.iso_host.specs.Output.{response_to, IsFramed, IsAnswer, IsAnswerTo, IsOutputFrom, IsOutput, NoOutput, OutputGoesOn, OutputOnce}
use Rattle.iso_host.specs.Serving.{front, IsPrefix}

-- ---- the stream

pub front_more : (bodies : List (List ℕ)) (body : List ℕ) → front (bodies ++ body ∷ []) ≡ bodies
front_more bodies body =
    let size : length (bodies ++ body ∷ []) - 1 ≡ length bodies = omega (arith, length-append bodies (body ∷ [])) in
    ap (λ (n : ℕ). take n (bodies ++ body ∷ [])) size ∙ take-append_seam bodies (body ∷ [])

-- ---- the output

output_from_more : (t : Layout) (h : Header) (books : Books) (earlier bodies : List (List ℕ)) (body out first : List ℕ)
    → IsOutputFrom (agreed t h) books earlier bodies out → IsAnswer t h (books_after_bodies t books (earlier ++ bodies)) body first → IsOutputFrom (agreed t h) books earlier (bodies ++ body ∷ []) (out ++ first)
output_from_more t h books earlier [] body out first is answer = (
  first,
  [],
  subst (λ (l : List (List ℕ)). IsAnswer t h (books_after_bodies t books l) body first) (append-nil earlier) answer,
  refl,
  ap (λ (l : List ℕ). l ++ first) is ∙ sym (append-nil first),
)
output_from_more t h books earlier (x ∷ xs) body out first is answer =
    let later = subst (λ (l : List (List ℕ)). IsAnswer t h (books_after_bodies t books l) body first) (sym (append_assoc earlier (x ∷ []) xs)) answer in (
      is.0,
      is.1 ++ first,
      is.2,
      output_from_more t h books (earlier ++ x ∷ []) xs body is.1 first is.3 later,
      ap (λ (l : List ℕ). l ++ first) is.4 ∙ append_assoc is.0 is.1 first,
    )

pub output_none : NoOutput
unfolding IsOutput
output_none t h books = refl

pub output_more : OutputGoesOn
unfolding IsOutput
output_more t h books bodies body out first is answer = output_from_more t h books [] bodies body out first is answer

output_from_take : (t : Layout) (h : Header) (books : Books) (n : ℕ) (earlier bodies : List (List ℕ)) (out : List ℕ)
    → IsOutputFrom (agreed t h) books earlier bodies out → (less : List ℕ) × IsOutputFrom (agreed t h) books earlier (take n bodies) less × IsPrefix less out
output_from_take t h books zero earlier bodies out is = ([], refl, (out, refl))
output_from_take t h books (suc n) earlier [] out is = ([], refl, (out, refl))
output_from_take t h books (suc n) earlier (x ∷ xs) out is =
    let rest = output_from_take t h books n (earlier ++ x ∷ []) xs is.1 is.3 in (
      is.0 ++ rest.0,
      (is.0, rest.0, is.2, rest.1, refl),
      (rest.2.0, is.4 ∙ ap (λ (l : List ℕ). is.0 ++ l) rest.2.1 ∙ sym (append_assoc is.0 rest.0 rest.2.0)),
    )

pub output_front : (t : Layout) (h : Header) (books : Books) (bodies : List (List ℕ)) (out : List ℕ)
    → IsOutput t h books bodies out → (less : List ℕ) × IsOutput t h books (front bodies) less × IsPrefix less out
unfolding IsOutput
output_front t h books bodies out is = output_from_take t h books (length bodies - 1) [] bodies out is

-- ---- one output

framed_once : (t : Layout) (h : Header) (r : Option Contents) (a b : List ℕ) → PlainOnce → IsFramed t h r a → IsFramed t h r b → a ≡ b
framed_once t h None a b once one other = one ∙ sym other
framed_once t h (Some r) a b once one other = one.3 ∙ ap (frame_of h) (once t r one.0 other.0 one.1 other.1) ∙ sym other.3

answer_once : (t : Layout) (h : Header) (books : Books) (body a b : List ℕ) → PlainOnce → IsAnswer t h books body a → IsAnswer t h books body b → a ≡ b
unfolding IsAnswerTo
answer_once t h books body a b once one other = framed_once t h (response_to books (message_in t body)) a b once one other

output_from_once : (t : Layout) (h : Header) (books : Books) (earlier bodies : List (List ℕ)) (a b : List ℕ) → PlainOnce → IsOutputFrom (agreed t h) books earlier bodies a → IsOutputFrom (agreed t h) books earlier bodies b → a ≡ b
output_from_once t h books earlier [] a b once one other = one ∙ sym other
output_from_once t h books earlier (x ∷ xs) a b once one other =
    one.4
    ∙ ap (λ (l : List ℕ). l ++ one.1) (answer_once t h (books_after_bodies t books earlier) x one.0 other.0 once one.2 other.2)
    ∙ ap (λ (l : List ℕ). other.0 ++ l) (output_from_once t h books (earlier ++ x ∷ []) xs one.1 other.1 once one.3 other.3)
    ∙ sym other.4

pub output_once : PlainOnce → OutputOnce
unfolding IsOutput
output_once once t h books bodies a b one other = output_from_once t h books [] bodies a b once one other
