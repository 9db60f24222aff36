-- A host without streams: what answering one body leaves, and what a log may tell of it.
use Rattle.std.specs.Prelude.{◌≡◌, ℕ, ◌<◌, List, ◌++◌, length, Option, Some, Err}
use Rattle.iso_table.specs.Layout.{Layout}
use Rattle.iso_wire.specs.declared.header.Header.{Header}
use Rattle.iso_wire.specs.Contents.{Contents}
use Rattle.iso_wire.specs.Reading.{message_at, whole}
use Rattle.iso_order.specs.Order.{Instruction}
use Rattle.iso_order.specs.declared.verdict.Verdict.{Verdict}
use Rattle.iso_order.specs.declared.verdict.Verdict.TheVariants as asks
use Rattle.iso_issuer.specs.Books.{Books}
use Rattle.iso_host.specs.Asking.{asked_of, message_in}
use Rattle.iso_host.specs.Handling.{entered_by, books_after_body}
use Rattle.iso_host.specs.Links.{Agreed}
use Rattle.iso_host.specs.Output.{IsAnswerTo, IsAnswer, outcome_for}
use Rattle.iso_host.specs.declared.handled.BodyFault.{BodyFault}
use Rattle.iso_host.specs.declared.handled.BodyFault.TheVariants.{Stops, Behind}
use Rattle.iso_host.specs.declared.handled.Handled.{Handled}
use Rattle.iso_host.specs.declared.handled.Handled.TheVariants as handled

-- bytes that grew by some more, of which this holds
abbrev pub GrowsBy : (List ℕ → Type 0) → List ℕ → List ℕ → Type 0
GrowsBy P old new = (bytes : List ℕ) × P bytes × (new ≡ old ++ bytes)

-- ---- what a log may tell

-- why a body isn't one whole message: where reading it stops and why, or where its message ends before it does
abbrev pub IsBodyFault : Layout → List ℕ → BodyFault → Type 0
IsBodyFault t body (Stops e) = message_at t body ≡ Err e
IsBodyFault t body (Behind end) = ((m : Contents) × (message_at t body ≡ whole m end))
    × (end < length body)

-- what came of a message on which this is the verdict, at these books
abbrev pub IsHandledBy : Books → Verdict → Handled → Type 0
IsHandledBy books v (handled.Unreadable fault) = ⊥
IsHandledBy books v handled.Silent = v ≡ asks.Silent
IsHandledBy books v (handled.Replied code) = v ≡ asks.Reply code
IsHandledBy books v (handled.Ordered key code seq) =
    (o : Instruction) × (v ≡ asks.Order o) × (key ≡ o.key) × (code ≡ (outcome_for books o).code)
    × (seq ≡ (outcome_for books o).seq)

-- what came of a body at these books
unfoldable pub IsHandled : Layout → Books → List ℕ → Handled → Type 0
IsHandled t books body (handled.Unreadable fault) = IsBodyFault t body fault
IsHandled t books body handled.Silent = asked_of t body ≡ Some asks.Silent
IsHandled t books body (handled.Replied code) = asked_of t body ≡ Some (asks.Reply code)
IsHandled t books body (handled.Ordered key code seq) =
    (o : Instruction) × (asked_of t body ≡ Some (asks.Order o))
    × (key ≡ o.key) × (code ≡ (outcome_for books o).code) × (seq ≡ (outcome_for books o).seq)

-- ---- one body

-- a host that replies into a buffer: its books, and the bytes in the buffer
pub record Replying : Type 0 where
  pub books : Books
  pub out : List ℕ

-- these books and these bytes
abbrev pub replying : Books → List ℕ → Replying
replying books out = record { books = books; out = out }

-- the message that a body is, or none, was entered, and the bytes grew by the frame of its response
abbrev pub AnswersMessage : Agreed → Replying → Replying → Option Contents → Type 0
AnswersMessage l before after message = (after.books ≡ entered_by before.books message)
    × GrowsBy (IsAnswerTo l.table l.header before.books message) before.out after.out

-- the body was entered, and the bytes grew by the frame of its response
abbrev pub Answers : Agreed → Replying → Replying → List ℕ → Type 0
Answers l before after body = AnswersMessage l before after (message_in l.table body)

-- the body was entered, and has an answer, which wasn't made
abbrev pub EntersAlone : Layout → Header → Books → Books → List ℕ → Type 0
EntersAlone t h old new body = (new ≡ books_after_body t old body)
    × ((bytes : List ℕ) × IsAnswer t h old body bytes)
