-- Messages of which none asks an order that may not be spoken for, and what enters of bodies.
use Rattle.std.proofs.Common.{◌≡◌, ◌∙◌, ◌++◌, ℕ, refl, sym, ap, inl, inr, List, [], ◌∷◌, length, drop, append_assoc, append-nil}
use Rattle.std.specs.Prelude.{◌⊎◌, Option, Some, None, Bool, true, false, if◌then◌else◌, nat_lt}
use Rattle.std.specs.List.{AllByRecursion}
use Rattle.iso_table.specs.Layout.{Layout}
use Rattle.iso_wire.specs.declared.header.Header.{Header}
use Rattle.iso_order.specs.Order.{Instruction}
use Rattle.iso_order.specs.declared.key.TxKey.{TxKey}
use Rattle.iso_issuer.specs.Books.{Books}
use Rattle.iso_issuer.specs.Laws.{books_after}
use Rattle.iso_host.specs.Asking.{message_in, orders_of}
use Rattle.iso_host.specs.Entering.{books_after_bodies, BodiesGoOn}
use Rattle.iso_host.specs.Handling.{BodyAlone, EntersOrKeeps}
use Rattle.iso_guard.specs.Guarding.{Guard, IsAllowed, EntersAllowed}
use Rattle.iso_guard.specs.Entering.{entering_unless, foreign_to, entering_of, entering_all, books_after_guarded, EntersOrNot}

-- ---- what enters of bodies

pub entering_more : (g : Guard) (bodies : List (List ℕ)) (body : List ℕ) → entering_all g (bodies ++ body ∷ []) ≡ entering_all g bodies ++ entering_of g body
entering_more g [] body = append-nil (entering_of g body)
entering_more g (x ∷ xs) body = ap (λ (l : List (List ℕ)). entering_of g x ++ l) (entering_more g xs body) ∙ sym (append_assoc (entering_of g x) (entering_all g xs) (entering_of g body))

-- the books after one body more
pub books_more : (g : Guard) (before : Books) (bodies : List (List ℕ)) (body : List ℕ) → BodiesGoOn
    → books_after_bodies g.table (books_after_guarded g before bodies) (entering_of g body) ≡ books_after_guarded g before (bodies ++ body ∷ [])
books_more g before bodies body law =
    law g.table before (entering_all g bodies) (entering_of g body) ∙ ap (books_after_bodies g.table before) (sym (entering_more g bodies body))

-- ---- each is allowed

module _ (acquirers : List ℕ) (t : Layout) where
  pub both : (xs ys : List (List ℕ)) → AllByRecursion (IsAllowed acquirers t) xs → AllByRecursion (IsAllowed acquirers t) ys → AllByRecursion (IsAllowed acquirers t) (xs ++ ys)
  both [] ys fx fy = fy
  both (x ∷ xs) ys fx fy = (fx.0, both xs ys fx.1 fy)

module _ (g : Guard) where
  unless_allowed : (foreign : Option TxKey) (message : List ℕ) → foreign_to g message ≡ foreign → AllByRecursion (IsAllowed g.acquirers g.table) (entering_unless foreign message)
  unless_allowed None message is = (is, tt)
  unless_allowed (Some key) message is = tt

  if_allowed : (short : Bool) (xs : List (List ℕ)) → AllByRecursion (IsAllowed g.acquirers g.table) xs → AllByRecursion (IsAllowed g.acquirers g.table) (if short then [] else xs)
  if_allowed true xs all = tt
  if_allowed false xs all = all

  of_allowed : (body : List ℕ) → AllByRecursion (IsAllowed g.acquirers g.table) (entering_of g body)
  unfolding entering_of
  of_allowed body =
      if_allowed (nat_lt (length body) g.skip) (entering_unless (foreign_to g (drop g.skip body)) (drop g.skip body))
      (unless_allowed (foreign_to g (drop g.skip body)) (drop g.skip body) refl)

  pub all_allowed : (bodies : List (List ℕ)) → AllByRecursion (IsAllowed g.acquirers g.table) (entering_all g bodies)
  all_allowed [] = tt
  all_allowed (x ∷ xs) = both g.acquirers g.table (entering_of g x) (entering_all g xs) (of_allowed x) (all_allowed xs)

  -- bodies enter
  pub allowed_enter : (before after : Books) (bodies : List (List ℕ)) → after ≡ books_after_guarded g before bodies → EntersAllowed g.acquirers g.table before after
  allowed_enter before after bodies is = record { bodies = entering_all g bodies; allowed = all_allowed bodies; entered = is }

  -- bodies enter, and one more or not
  pub one_more_or_not : (before after : Books) (bodies : List (List ℕ)) (body : List ℕ) → BodiesGoOn → EntersOrNot g (books_after_guarded g before bodies) after body
      → EntersAllowed g.acquirers g.table before after
  one_more_or_not before after bodies body law (inl same) = allowed_enter before after bodies same
  one_more_or_not before after bodies body law (inr is) = allowed_enter before after (bodies ++ body ∷ []) (is ∙ books_more g before bodies body law)

-- they enter by the orders that they ask
pub enter_by_orders : (acquirers : List ℕ) (t : Layout) (old new : Books) → EntersAllowed acquirers t old new → (orders : List Instruction) × (new ≡ books_after old orders)
unfolding books_after_bodies
enter_by_orders acquirers t old new enters = (orders_of t enters.bodies, enters.entered)

-- a message that may have been entered
pub entered_or_kept : BodyAlone → (t : Layout) (h : Header) (message : List ℕ) (old new : Books) → EntersOrKeeps t h old new (message_in t message)
    → (new ≡ old) ⊎ (new ≡ books_after_bodies t old (message ∷ []))
entered_or_kept alone t h message old new (inl same) = inl same
entered_or_kept alone t h message old new (inr is) = inr (is.0 ∙ alone t old message)
