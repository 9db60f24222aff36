-- What handling one body leaves: the books with its order.
-- Inner: bodies and proofs cite it, and of public clauses only those that cite a word of it.
use Rattle.std.specs.Prelude.{◌≡◌, ◌⊎◌, ℕ, List, [], ◌∷◌, Option, option_map}
use Rattle.iso_table.specs.Layout.{Layout}
use Rattle.iso_wire.specs.declared.header.Header.{Header}
use Rattle.iso_wire.specs.Contents.{Contents}
use Rattle.iso_order.specs.Verdict.{verdict}
use Rattle.iso_issuer.specs.Books.{Books}
use Rattle.iso_issuer.specs.Laws.{books_after}
use Rattle.iso_host.specs.Asking.{message_in, orders_in}
use Rattle.iso_host.specs.Entering.{books_after_bodies}
use Rattle.iso_host.specs.Output.{IsAnswerTo}

-- the books once the message that a body is, or none, is handled
abbrev pub entered_by : Books → Option Contents → Books
entered_by books message = books_after books (orders_in (option_map verdict message))

-- the books once this body is handled
abbrev pub books_after_body : Layout → Books → List ℕ → Books
books_after_body t books body = entered_by books (message_in t body)

-- a body alone leaves the books that a stream of this one body leaves
abbrev pub BodyAlone : Type 0
BodyAlone = (t : Layout) (books : Books) (body : List ℕ)
    → books_after_body t books body ≡ books_after_bodies t books (body ∷ [])

-- the books are as they were, or the message's order was entered, and the message has an answer
abbrev pub EntersOrKeeps : Layout → Header → Books → Books → Option Contents → Type 0
EntersOrKeeps t h old new message = (new ≡ old)
    ⊎ ((new ≡ entered_by old message) × ((bytes : List ℕ) × IsAnswerTo t h old message bytes))
