-- Orders that come are entered as orders that are handled.
use Rattle.std.proofs.Common.{◌≡◌, ◌≤◌, Bool, true, false, refl, arith, ap, sym, ◌∙◌, subst, List, [], ◌∷◌, ◌++◌, length, take, append_assoc, append-nil, length-append}
use Rattle.std.proofs.lemmas.List.{take_all, take-append-le}
use Rattle.std.specs.Prelude.{nat_le, if◌then◌else◌}
use Rattle.iso_order.specs.Order.{Instruction}
use Rattle.iso_issuer.specs.Books.{Books}
use Rattle.iso_issuer.specs.Journal.{is_entered, firsts, HasDistinctKeys}
use Rattle.iso_issuer.specs.Laws.{FirstsGoOn, FirstsStay, NewComesLast, KnownChangesNothing, KeysStayDistinct}
use Rattle.iso_durable.specs.Durable.{Durable, entered, books_of, comes}
use Rattle.iso_durable.specs.World.{IsStart, OrdersEnter}

-- what the laws of the issuer say
pub record EnterLaws : Type 0 where
  pub go_on : FirstsGoOn
  pub stay : FirstsStay
  pub known : KnownChangesNothing
  pub last : NewComesLast
  pub distinct : KeysStayDistinct

-- these books, with other orders
abbrev with_orders : Durable → List Instruction → Books
with_orders d orders = record { accounts = d.accounts; limit = d.limit; orders = orders }

module _ (laws : EnterLaws) where
  -- an order that comes, by whether its key is known, and whether there is room
  one_by : (d : Durable) (o : Instruction) (known full : Bool) → is_entered (entered d) o.key ≡ known → nat_le d.limit (length (entered d)) ≡ full → IsStart d.limit (entered d)
      → d.synced ++ (if known then d.pending else (if full then d.pending else d.pending ++ o ∷ [])) ≡ take d.limit (firsts (entered d ++ o ∷ []))
  one_by d o true full k f start =
      let same : firsts (entered d ++ o ∷ []) ≡ entered d = ap (λ (b : Books). b.orders) (laws.known (books_of d) o start.once k) in
      sym (ap (take d.limit) same ∙ take_all d.limit (entered d) start.few)
  one_by d o false true k f start =
      let last : firsts (entered d ++ o ∷ []) ≡ entered d ++ o ∷ [] = ap (λ (b : Books). b.orders) (laws.last (books_of d) o start.once k) in
      let le : d.limit ≤ length (entered d) = grind (arith, f) in
      sym (ap (take d.limit) last ∙ take-append-le d.limit (entered d) (o ∷ []) le ∙ take_all d.limit (entered d) start.few)
  one_by d o false false k f start =
      let last : firsts (entered d ++ o ∷ []) ≡ entered d ++ o ∷ [] = ap (λ (b : Books). b.orders) (laws.last (books_of d) o start.once k) in
      let fits : length (entered d ++ o ∷ []) ≤ d.limit = grind (arith, f, length-append (entered d) (o ∷ [])) in
      sym (append_assoc d.synced d.pending (o ∷ [])) ∙ sym (ap (take d.limit) last ∙ take_all d.limit (entered d ++ o ∷ []) fits)

  one : (d : Durable) (o : Instruction) → IsStart d.limit (entered d) → entered (comes d o) ≡ take d.limit (firsts (entered d ++ o ∷ []))
  one d o start = one_by d o (is_entered (entered d) o.key) (nat_le d.limit (length (entered d))) refl refl start

  -- a host goes on from orders that a host can start on
  start_by : (d : Durable) (o : Instruction) (known full : Bool) → is_entered (entered d) o.key ≡ known → nat_le d.limit (length (entered d)) ≡ full → IsStart d.limit (entered d)
      → IsStart d.limit (d.synced ++ (if known then d.pending else (if full then d.pending else d.pending ++ o ∷ [])))
  start_by d o true full k f start = start
  start_by d o false true k f start = start
  start_by d o false false k f start =
      let last : firsts (entered d ++ o ∷ []) ≡ entered d ++ o ∷ [] = ap (λ (b : Books). b.orders) (laws.last (books_of d) o start.once k) in
      let fits : length (entered d ++ o ∷ []) ≤ d.limit = grind (arith, f, length-append (entered d) (o ∷ [])) in
      subst (IsStart d.limit) (append_assoc d.synced d.pending (o ∷ [])) (record { once = subst HasDistinctKeys last (laws.distinct (books_of d) o start.once); few = fits })

  pub start_after : (d : Durable) (o : Instruction) → IsStart d.limit (entered d) → IsStart d.limit (entered (comes d o))
  start_after d o start = start_by d o (is_entered (entered d) o.key) (nat_le d.limit (length (entered d))) refl refl start

  pub enter : OrdersEnter
  enter d [] start = ap (with_orders d) (sym (ap (λ (l : List Instruction). take d.limit (firsts l)) (append-nil (entered d)) ∙ laws.stay d.limit (entered d) start.once start.few))
  enter d (o ∷ os) start =
      enter (comes d o) os (start_after d o start)
      ∙ ap (with_orders d) (ap (λ (l : List Instruction). take d.limit (firsts (l ++ os))) (one d o start) ∙ laws.go_on d.limit (entered d ++ o ∷ []) os
      ∙ ap (λ (l : List Instruction). take d.limit (firsts l)) (append_assoc (entered d) (o ∷ []) os))
