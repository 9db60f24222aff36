-- The journal while bodies are handled: the first order of each key, up to the limit.
use Rattle.std.specs.Prelude.{◌≡◌, ℕ, List, [], ◌++◌}
use Rattle.iso_table.specs.Layout.{Layout}
use Rattle.iso_issuer.specs.Books.{Books}
use Rattle.iso_issuer.specs.Laws.{books_after}
use Rattle.iso_host.specs.Asking.{orders_of}

-- the books once these bodies are handled
unfoldable pub books_after_bodies : Layout → Books → List (List ℕ) → Books
books_after_bodies t books bodies = books_after books (orders_of t bodies)

-- no bodies leave the books as they are
abbrev pub StaysWithout : Books → Type 0
StaysWithout books = (t : Layout) → books_after_bodies t books [] ≡ books

-- bodies that follow others are handled as all of them, one after the other
abbrev pub BodiesGoOn : Type 0
BodiesGoOn =
    (t : Layout) (books : Books) (earlier later : List (List ℕ))
    → books_after_bodies t (books_after_bodies t books earlier) later
    ≡ books_after_bodies t books (earlier ++ later)
