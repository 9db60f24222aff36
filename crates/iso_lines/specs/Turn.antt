-- What a turn enters: bodies, one after the other.
use Rattle.std.specs.Prelude.{◌≡◌, ℕ, List, [], ◌∷◌}
use Rattle.iso_table.specs.Layout.{Layout}
use Rattle.iso_issuer.specs.Books.{Books}
use Rattle.iso_host.specs.Entering.{books_after_bodies}

-- a body, and the table of its line
pub record Heard : Type 0 where
  pub table : Layout
  pub body : List ℕ

-- the books once these bodies came, one after the other
abbrev pub books_after_heard : Books → List Heard → Books
books_after_heard books [] = books
books_after_heard books (h ∷ hs) =
    books_after_heard (books_after_bodies h.table books (h.body ∷ [])) hs

-- the books grow by such bodies, and by nothing else
pub record EntersHeard (old new : Books) : Type 0 where
  pub heard : List Heard
  pub entered : new ≡ books_after_heard old heard
