-- What a run of orders leaves.
use Rattle.std.proofs.Common.{◌≡◌, Bool, true, false, refl, ap, sym, ◌∙◌, subst, List, [], ◌∷◌, ◌++◌, append_assoc}
use Rattle.std.specs.Prelude.{Result, Ok, Err, IfOk, OnOk, OnErr, ◌↔◌}
use Rattle.std.proofs.lemmas.List.{append-nil}
use Rattle.iso_order.specs.Outcome.{Outcome}
use Rattle.iso_order.specs.Order.{Instruction}
use Rattle.iso_issuer.specs.declared.fault.Refused.{Refused}
use Rattle.iso_issuer.specs.declared.fault.Refused.TheVariants.{Full, Memory}
use Rattle.iso_issuer.specs.Journal.{firsts, is_entered}
use Rattle.iso_issuer.specs.Decision.{answer_for}
use Rattle.iso_issuer.specs.Books.{Books, IsFullFor, IsRoomFor, IsAnswerFor, IsRun, books_left_by, books_with, journal, answered_of}
use Rattle.iso_issuer.proofs.Firsts.{firsts-known, firsts-new, firsts-skip}

-- a run goes on by one order
pub run-push : (b mid : Books) (os : List Instruction) (rs : List (Result Outcome Refused)) (o : Instruction) (r : Result Outcome Refused) →
    IsRun b os rs mid → IsAnswerFor mid o r → IsRun b (os ++ o ∷ []) (rs ++ r ∷ []) (books_left_by mid o r)
run-push b mid [] [] o r run fits = (subst (λ x. IsAnswerFor x o r) run fits, ap (λ x. books_left_by x o r) run)
run-push b mid (p ∷ ps) (q ∷ qs) o r run fits = (run.0, run-push (books_left_by b p q) mid ps qs o r run.1 fits)
run-push b mid [] (q ∷ qs) o r run fits = elim run [ ]
run-push b mid (p ∷ ps) [] o r run fits = elim run [ ]

-- what the clauses of `handle` say, as one fact
pub handled : (old new : Books) (o : Instruction) (r : Result Outcome Refused) →
    ((r ≡ Err Full) ↔ IsFullFor old o.key) → (r ≡ Err Memory → IsRoomFor old o.key) →
    IfOk r (λ a. a ≡ answer_for old.accounts (journal old) o) → OnOk r (new ≡ books_with old o) → OnErr r (new ≡ old) →
    IsAnswerFor old o r × (new ≡ books_left_by old o r)
handled old new o (Ok a) full memory answer entered refused = ((answer, λ h. apart a (full.1 h)), entered)
  where
    apart : (a : Outcome) → ◌≡◌ {A = Result Outcome Refused} (Ok a) (Err Full) → ⊥
    apart a h = cc
handled old new o (Err Full) full memory answer entered refused = (full.0 refl, refused)
handled old new o (Err Memory) full memory answer entered refused = (memory refl, refused)

-- the orders after a run are the first ones of those before it and those that were answered
pub run-after : (b new : Books) (os : List Instruction) (rs : List (Result Outcome Refused)) → firsts b.orders ≡ b.orders → IsRun b os rs new →
    new.orders ≡ firsts (b.orders ++ answered_of os rs)
run-after b new [] [] distinct run = ap (λ x. x.orders) run ∙ sym (ap firsts (append-nil b.orders) ∙ distinct)
run-after b new [] (r ∷ rs) distinct run = elim run [ ]
run-after b new (o ∷ os) [] distinct run = elim run [ ]
run-after b new (o ∷ os) (Err e ∷ rs) distinct run = run-after b new os rs distinct run.1
run-after b new (o ∷ os) (Ok a ∷ rs) distinct run = by_key (is_entered b.orders o.key) refl (λ d. run-after (books_with b o) new os rs d run.1)
  where
    by_key : (t : Bool) → is_entered b.orders o.key ≡ t → (firsts (books_with b o).orders ≡ (books_with b o).orders → new.orders ≡ firsts ((books_with b o).orders ++ answered_of os rs)) →
        new.orders ≡ firsts (b.orders ++ o ∷ answered_of os rs)
    by_key true e rest =
        let same : firsts (b.orders ++ o ∷ []) ≡ b.orders = firsts-known b.orders o e ∙ distinct in
        rest (ap firsts same ∙ distinct ∙ sym same) ∙ ap (λ xs. firsts (xs ++ answered_of os rs)) same ∙ sym (firsts-skip b.orders o (answered_of os rs) e)
    by_key false e rest =
        let same : firsts (b.orders ++ o ∷ []) ≡ b.orders ++ o ∷ [] = firsts-new b.orders o e ∙ ap (λ xs. xs ++ o ∷ []) distinct in
        rest (ap firsts same) ∙ ap (λ xs. firsts (xs ++ answered_of os rs)) same ∙ ap firsts (append_assoc b.orders (o ∷ []) (answered_of os rs))
