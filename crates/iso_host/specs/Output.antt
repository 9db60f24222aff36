-- What is written for a stream of frames.
use Rattle.std.specs.Prelude.{◌≡◌, ℕ, ◌≤◌, List, [], ◌∷◌, ◌++◌, length, Option, Some, None, option_map, if◌then◌else◌}
use Rattle.iso_table.specs.Layout.{Layout}
use Rattle.iso_wire.specs.declared.header.Header.{Header}
use Rattle.iso_wire.specs.Contents.{Contents}
use Rattle.iso_wire.specs.Framing.{frame_of, largest}
use Rattle.iso_wire.specs.Spelling.{PlainSpelling}
use Rattle.iso_order.specs.Codes.{system_malfunction}
use Rattle.iso_order.specs.declared.verdict.Verdict.{Verdict}
use Rattle.iso_order.specs.declared.verdict.Verdict.TheVariants.{Order, Reply, Silent}
use Rattle.iso_order.specs.Order.{Instruction}
use Rattle.iso_order.specs.Outcome.{Outcome, code_alone}
use Rattle.iso_order.specs.Response.{response}
use Rattle.iso_order.specs.Verdict.{verdict}
use Rattle.iso_issuer.specs.Books.{Books, journal, is_full}
use Rattle.iso_issuer.specs.Decision.{answer_for}
use Rattle.iso_host.specs.Asking.{message_in}
use Rattle.iso_host.specs.Entering.{books_after_bodies}
use Rattle.iso_host.specs.Links.{Agreed, agreed}

-- ---- the response to a body

-- the issuer's answer to an order, a system malfunction where its journal is full
abbrev pub outcome_for : Books → Instruction → Outcome
outcome_for books o =
    if is_full books o.key then code_alone system_malfunction
    else answer_for books.accounts (journal books) o

-- the answer to a verdict, where it is answered
abbrev pub outcome_of : Books → Verdict → Option Outcome
outcome_of books (Order o) = Some (outcome_for books o)
outcome_of books (Reply code) = Some (code_alone code)
outcome_of books Silent = None

-- the response with this answer, where there is one
abbrev pub response_with : Contents → Option Outcome → Option Contents
response_with m outcome = option_map (response m) outcome

-- the response to the message that a body is
abbrev pub response_to : Books → Option Contents → Option Contents
response_to books None = None
response_to books (Some m) = response_with m (outcome_of books (verdict m))

-- ---- its bytes

-- the frame of the response's plain spelling, or nothing
abbrev pub IsFramed : Layout → Header → Option Contents → List ℕ → Type 0
IsFramed t h None bytes = bytes ≡ []
IsFramed t h (Some r) bytes = (plain : List ℕ) × PlainSpelling t r plain
    × (length plain ≤ largest h) × (bytes ≡ frame_of h plain)

-- what is written at these books for the message that a body is
unfoldable pub IsAnswerTo : Layout → Header → Books → Option Contents → List ℕ → Type 0
IsAnswerTo t h books message bytes = IsFramed t h (response_to books message) bytes

-- what is written for a body at these books
abbrev pub IsAnswer : Layout → Header → Books → List ℕ → List ℕ → Type 0
IsAnswer t h books body bytes = IsAnswerTo t h books (message_in t body) bytes

-- ---- of a stream

-- what is written for these bodies, after the earlier ones
abbrev pub IsOutputFrom : Agreed → Books → List (List ℕ) → List (List ℕ) → List ℕ → Type 0
IsOutputFrom l books earlier [] bytes = bytes ≡ []
IsOutputFrom l books earlier (body ∷ bodies) bytes =
    (first : List ℕ) × (others : List ℕ)
    × IsAnswer l.table l.header (books_after_bodies l.table books earlier) body first
    × IsOutputFrom l books (earlier ++ body ∷ []) bodies others × (bytes ≡ first ++ others)

-- what is written for these bodies
unfoldable pub IsOutput : Layout → Header → Books → List (List ℕ) → List ℕ → Type 0
IsOutput t h books bodies bytes = IsOutputFrom (agreed t h) books [] bodies bytes

-- for no bodies nothing is written
abbrev pub NoOutput : Type 0
NoOutput = (t : Layout) (h : Header) (books : Books) → IsOutput t h books [] []

-- behind what is written for some bodies comes the answer to the next one, at the books after them
abbrev pub OutputGoesOn : Type 0
OutputGoesOn = (t : Layout) (h : Header) (books : Books) (bodies : List (List ℕ))
    (body bytes answer : List ℕ) → IsOutput t h books bodies bytes
    → IsAnswer t h (books_after_bodies t books bodies) body answer
    → IsOutput t h books (bodies ++ body ∷ []) (bytes ++ answer)

-- no bodies have two outputs
abbrev pub OutputOnce : Type 0
OutputOnce = (t : Layout) (h : Header) (books : Books) (bodies : List (List ℕ)) (a b : List ℕ)
    → IsOutput t h books bodies a → IsOutput t h books bodies b → a ≡ b
