-- What comes of bodies that are delivered one after the other.
use Rattle.std.specs.Prelude.{ℕ, List, [], ◌∷◌, ◌++◌, ⊤}
use Rattle.iso_table.specs.Layout.{Layout}
use Rattle.iso_wire.specs.declared.header.Header.{Header}
use Rattle.iso_issuer.specs.Books.{Books}
use Rattle.iso_host.specs.Entering.{books_after_bodies}
use Rattle.iso_host.specs.Hosting.{IsHandled}
use Rattle.iso_host.specs.Links.{Agreed, agreed}
use Rattle.iso_host.specs.Output.{IsAnswer}
use Rattle.iso_play.specs.declared.delivering.Answered.{Answered}

-- what came of a body at these books: its frame is the answer to it
abbrev pub IsAnswered : Layout → Header → Books → List ℕ → Answered → Type 0
IsAnswered t h books body a = IsAnswer t h books body a.frame.items
    × IsHandled t books body a.handled

-- under what is agreed, each of these bodies was answered at the books after the earlier ones and all before it
abbrev pub AreAnsweredFrom : Agreed → Books → List (List ℕ) → List (List ℕ) → List Answered
    → Type 0
AreAnsweredFrom l books earlier [] [] = ⊤
AreAnsweredFrom l books earlier [] (a ∷ answers) = ⊥
AreAnsweredFrom l books earlier (body ∷ bodies) [] = ⊥
AreAnsweredFrom l books earlier (body ∷ bodies) (a ∷ answers) =
    IsAnswered l.table l.header (books_after_bodies l.table books earlier) body a
    × AreAnsweredFrom l books (earlier ++ body ∷ []) bodies answers

-- the bodies were answered so from these books on
unfoldable pub AreAnswered : Layout → Header → Books → List (List ℕ) → List Answered → Type 0
AreAnswered t h books bodies answers = AreAnsweredFrom (agreed t h) books [] bodies answers
