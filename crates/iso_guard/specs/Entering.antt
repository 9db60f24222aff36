-- What enters the books of the bodies of a guarded line.
use Rattle.std.specs.Prelude.{◌≡◌, ◌⊎◌, nat_lt, List, [], ◌∷◌, ◌++◌, ℕ, length, drop, Option, Some, None, if◌then◌else◌}
use Rattle.iso_order.specs.declared.key.TxKey.{TxKey}
use Rattle.iso_issuer.specs.Books.{Books}
use Rattle.iso_host.specs.Asking.{asked_of}
use Rattle.iso_host.specs.Entering.{books_after_bodies}
use Rattle.iso_guard.specs.Guarding.{Guard, foreign_of}

-- a message enters, unless it asks the order of this key, which may not be spoken for
abbrev pub entering_unless : Option TxKey → List ℕ → List (List ℕ)
entering_unless None message = message ∷ []
entering_unless (Some key) message = []

-- the key of the order of a message, where it may not be spoken for
abbrev pub foreign_to : Guard → List ℕ → Option TxKey
foreign_to g message = foreign_of g.acquirers (asked_of g.table message)

-- what enters of a body: its message, if that may be spoken for; nothing of one that ends before its message
unfoldable pub entering_of : Guard → List ℕ → List (List ℕ)
entering_of g body = if nat_lt (length body) g.skip then []
    else entering_unless (foreign_to g (drop g.skip body)) (drop g.skip body)

-- what enters of bodies, one after the other
abbrev pub entering_all : Guard → List (List ℕ) → List (List ℕ)
entering_all g [] = []
entering_all g (body ∷ bodies) = entering_of g body ++ entering_all g bodies

-- the books once these bodies came
abbrev pub books_after_guarded : Guard → Books → List (List ℕ) → Books
books_after_guarded g books bodies = books_after_bodies g.table books (entering_all g bodies)

-- the books are as they were, or they are those after this body
abbrev pub EntersOrNot : Guard → Books → Books → List ℕ → Type 0
EntersOrNot g old new body = (new ≡ old)
    ⊎ (new ≡ books_after_bodies g.table old (entering_of g body))
