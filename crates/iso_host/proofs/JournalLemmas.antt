-- One more body in a journal that stops at a limit.
use Rattle.std.proofs.Common.{◌≡◌, refl, ℕ, List, [], ◌∷◌, ◌++◌, take, sym, ap, ◌∙◌, append_assoc, append-nil}
use Rattle.iso_table.specs.Layout.{Layout}
use Rattle.iso_order.specs.Order.{Instruction}
use Rattle.iso_issuer.specs.Books.{Books}
use Rattle.iso_issuer.specs.Journal.{firsts}
use Rattle.iso_issuer.specs.Laws.{FirstsGoOn, books_after}
use Rattle.iso_host.specs.Asking.{asked_of, orders_in, orders_of}
use Rattle.iso_host.specs.Entering.{books_after_bodies, BodiesGoOn, StaysWithout}
use Rattle.iso_host.specs.Handling.{books_after_body, BodyAlone}

orders_of_more : (t : Layout) (bodies : List (List ℕ)) (body : List ℕ) → orders_of t (bodies ++ body ∷ []) ≡ orders_of t bodies ++ orders_in (asked_of t body)
orders_of_more t [] body = append-nil (orders_in (asked_of t body))
orders_of_more t (x ∷ xs) body =
    ap (λ (l : List Instruction). orders_in (asked_of t x) ++ l) (orders_of_more t xs body)
    ∙ sym (append_assoc (orders_in (asked_of t x)) (orders_of t xs) (orders_in (asked_of t body)))

-- what was kept for the earlier bodies stands for all of them
pub books_more : FirstsGoOn → (t : Layout) (books : Books) (bodies : List (List ℕ)) (body : List ℕ) → books_after_bodies t books (bodies ++ body ∷ []) ≡ books_after_body t (books_after_bodies t books bodies) body
unfolding books_after_bodies
books_more go_on t books bodies body =
    ap (λ (l : List Instruction). record books { orders = l })
    (ap (λ (l : List Instruction). take books.limit (firsts (books.orders ++ l))) (orders_of_more t bodies body)
    ∙ ap (λ (l : List Instruction). take books.limit (firsts l)) (sym (append_assoc books.orders (orders_of t bodies) (orders_in (asked_of t body))))
    ∙ sym (go_on books.limit (books.orders ++ orders_of t bodies) (orders_in (asked_of t body))))

-- before any body the books are as they were
pub books_none : (t : Layout) (books : Books) → books_after books [] ≡ books → books_after_bodies t books [] ≡ books
unfolding books_after_bodies
books_none t books kept = kept

orders_of_append : (t : Layout) (earlier later : List (List ℕ)) → orders_of t (earlier ++ later) ≡ orders_of t earlier ++ orders_of t later
orders_of_append t [] later = refl
orders_of_append t (x ∷ xs) later =
    ap (λ (l : List Instruction). orders_in (asked_of t x) ++ l) (orders_of_append t xs later)
    ∙ sym (append_assoc (orders_in (asked_of t x)) (orders_of t xs) (orders_of t later))

-- bodies that follow others are handled as all of them
pub bodies_go_on : FirstsGoOn → BodiesGoOn
unfolding books_after_bodies
bodies_go_on go_on t books earlier later =
    ap (λ (l : List Instruction). record books { orders = l })
    (go_on books.limit (books.orders ++ orders_of t earlier) (orders_of t later)
    ∙ ap (λ (l : List Instruction). take books.limit (firsts l))
    (append_assoc books.orders (orders_of t earlier) (orders_of t later)
    ∙ ap (λ (l : List Instruction). books.orders ++ l) (sym (orders_of_append t earlier later))))

-- one body is a stream of it alone
pub body_alone : BodyAlone
unfolding books_after_bodies
body_alone t books body = ap (books_after books) (sym (append-nil (orders_in (asked_of t body))))

-- none leave the books as they are
pub stays_without : (books : Books) → books_after books [] ≡ books → StaysWithout books
stays_without books kept = λ t. books_none t books kept
