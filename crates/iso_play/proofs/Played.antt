-- The books of a host to which one body more came.
use Rattle.std.proofs.Common.{◌≡◌, ◌∙◌, ◌<◌, ◌+◌, ℕ, List, [], ◌∷◌, ◌++◌, ap, sym, subst, take, length, get_or, map, append_assoc}
use Rattle.std.proofs.lemmas.List.{append-nil, map-append, take_more}
use Rattle.iso_table.specs.Layout.{Layout}
use Rattle.iso_wire.specs.declared.header.Header.{Header}
use Rattle.iso_issuer.specs.Books.{Books}
use Rattle.iso_issuer.specs.Laws.{books_after}
use Rattle.iso_host.specs.Asking.{asked_of, message_in, orders_in}
use Rattle.iso_host.specs.Entering.{BodiesGoOn, books_after_bodies}
use Rattle.iso_host.specs.Handling.{entered_by}
use Rattle.iso_host.specs.Links.{Agreed, agreed}
use Rattle.iso_play.specs.Played.{AreAnswered, AreAnsweredFrom, IsAnswered}
use Rattle.iso_play.specs.declared.delivering.Answered.{Answered}

-- one body is entered as a list of one body

pub one_body : (t : Layout) (books : Books) (body : List ℕ) → entered_by books (message_in t body) ≡ books_after_bodies t books (body ∷ [])
unfolding books_after_bodies
one_body t books body = ap (books_after books) (sym (append-nil (orders_in (asked_of t body))))

-- the books of the bodies so far, and of the next one
pub one_more : BodiesGoOn → (t : Layout) (first now next : Books) (bodies : List (List ℕ)) (body : List ℕ)
    → now ≡ books_after_bodies t first bodies → next ≡ entered_by now (message_in t body)
    → next ≡ books_after_bodies t first (bodies ++ body ∷ [])
one_more goes_on t first now next bodies body is entered =
    entered ∙ one_body t now body
    ∙ ap (λ (b : Books). books_after_bodies t b (body ∷ [])) is
    ∙ goes_on t first bodies (body ∷ [])

-- the front of a list that is one item longer
pub next_items : {X : Type 0} (f : X → List ℕ) (xs : List X) (i : ℕ) (x : X) → i < length xs → x ≡ get_or xs i x
    → map f (take (i + 1) xs) ≡ map f (take i xs) ++ f x ∷ []
next_items f xs i x lt is =
    ap (map f) (take_more xs i x lt ∙ ap (λ y. take i xs ++ y ∷ []) (sym is)) ∙ map-append f (take i xs) (x ∷ [])

-- one body more is answered at the books after all before it
one_answer : (l : Agreed) (books : Books) (earlier bodies : List (List ℕ)) (answers : List Answered) (body : List ℕ) (a : Answered)
    → AreAnsweredFrom l books earlier bodies answers → IsAnswered l.table l.header (books_after_bodies l.table books (earlier ++ bodies)) body a
    → AreAnsweredFrom l books earlier (bodies ++ body ∷ []) (answers ++ a ∷ [])
one_answer l books earlier [] [] body a all last =
    (subst (λ bs. IsAnswered l.table l.header (books_after_bodies l.table books bs) body a) (append-nil earlier) last, tt)
one_answer l books earlier [] (x ∷ answers) body a all last = elim all [ ]
one_answer l books earlier (b ∷ bodies) [] body a all last = elim all [ ]
one_answer l books earlier (b ∷ bodies) (x ∷ answers) body a all last = (
  all.0,
  one_answer l books (earlier ++ b ∷ []) bodies answers body a all.1
      (subst (λ bs. IsAnswered l.table l.header (books_after_bodies l.table books bs) body a) (sym (append_assoc earlier (b ∷ []) bodies)) last),
)

pub more_answered : (t : Layout) (h : Header) (books now : Books) (bodies : List (List ℕ)) (answers : List Answered) (body : List ℕ) (a : Answered)
    → now ≡ books_after_bodies t books bodies → AreAnswered t h books bodies answers → IsAnswered t h now body a
    → AreAnswered t h books (bodies ++ body ∷ []) (answers ++ a ∷ [])
unfolding AreAnswered
more_answered t h books now bodies answers body a is all last =
    one_answer (agreed t h) books [] bodies answers body a all (subst (λ b. IsAnswered t h b body a) is last)

-- no body has no answer
pub none_answered : (t : Layout) (h : Header) (books : Books) (answers : List Answered) → answers ≡ [] → AreAnswered t h books [] answers
unfolding AreAnswered
none_answered t h books answers is = subst (AreAnsweredFrom (agreed t h) books [] []) (sym is) tt
