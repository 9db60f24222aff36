-- The orders and who waits, where a hold, an inquiry or what follows a hold begins.
use Rattle.std.proofs.Common.{◌≡◌, ℕ, Bool, true, false, refl, arith, ap, sym, ◌∙◌, subst, List, [], ◌∷◌, ◌++◌, length, ◌<◌, ◌≤◌, ◌+◌, ◌-◌, ◌*◌, cond}
use Rattle.std.specs.Prelude.{◌==◌, ◌&&◌, nat_lt, IfSome, Option, Some, None}
use Rattle.std.proofs.lemmas.Bool.{and_parts}
use Rattle.std.proofs.lemmas.Option.{cond_some}
use Rattle.iso_order.specs.declared.act.Act.{Act}
use Rattle.iso_order.specs.declared.key.TxKey.{TxKey}
use Rattle.iso_order.specs.Order.{Instruction, is_valid}
use Rattle.iso_mix.specs.declared.asked.Side.{Side}
use Rattle.iso_mix.specs.declared.draft.Draft.{Draft}
use Rattle.iso_mix.specs.declared.mix.Kind.{Kind}
use Rattle.iso_waits.specs.declared.due.Due.{Due}
use Rattle.iso_waits.specs.WaitLaws.{WhoWaits, StayInTime}
use Rattle.iso_mix.specs.Asked.{asked_at, is_free, is_hold, is_granted, is_nothing, unanswered, sides_followed}
use Rattle.iso_mix.specs.Begun.{opened, Follows}
use Rattle.iso_mix.specs.Book.{IsBook}
use Rattle.iso_mix.specs.Orders.{next_stan, opening_act, opening_key, opening_by, opening_order, valid_order, follower_act, follower_base, follower_stan, follower_key, IsFollower}
use Rattle.iso_mix.proofs.Kept.{OneIs, kept-begun}
use Rattle.iso_mix.proofs.Placed.{at-pushed, at-followed, none-behind, none-followed, is-lt}

-- ---- the trace numbers

valid-key : (key : TxKey) (a : Act) (o : Instruction) → valid_order key a ≡ Some o → o.key ≡ key
valid-key key a o h =
    let made : Instruction = record { key = key; act = a } in
    ap (λ (x : Instruction). x.key) (sym (cond_some (is_valid made) made o h).1)

-- the number of a test that holds
numbered : (test : ℕ → Bool) (number n : ℕ) (highest : ℕ) (stan : ℕ) → cond (test highest) (Some number) None ≡ Some stan → (test highest ≡ true) × (stan ≡ number)
numbered test number n highest stan h =
    let p = cond_some (test highest) number stan h in
    (p.0, sym p.1)

pub next-number : (count highest stan : ℕ) → next_stan count highest ≡ Some stan → (highest + 2 * count + 1 < 999999) × (stan ≡ 999999 - 2 * count)
next-number count highest stan h =
    let p = numbered (λ high. nat_lt (high + 2 * count + 1) 999999) (999999 - 2 * count) count highest stan h in
    (is-lt (highest + 2 * count + 1) 999999 p.0, p.1)

pub follower-number : (place highest stan : ℕ) → follower_stan place highest ≡ Some stan → (highest + 2 * place + 1 < 999999) × (stan ≡ 999998 - 2 * place)
follower-number place highest stan h =
    let p = numbered (λ high. nat_lt (high + 2 * place + 1) 999999) (999998 - 2 * place) place highest stan h in
    (is-lt (highest + 2 * place + 1) 999999 p.0, p.1)

pub opened-number : (kind : Kind) (d : Draft) (count : ℕ) (o : Instruction) → opening_order kind d count ≡ Some o → (2 * count + 1 < 999999) × (o.key.stan ≡ 999999 - 2 * count)
opened-number kind d count o h = go (next_stan count d.highest) refl h
  where
    go : (x : Option ℕ) → next_stan count d.highest ≡ x → opening_by kind d x ≡ Some o → (2 * count + 1 < 999999) × (o.key.stan ≡ 999999 - 2 * count)
    go None e k = cc
    go (Some stan) e k =
        let n = next-number count d.highest stan e in
        (omega (arith, n.0), ap (λ (x : TxKey). x.stan) (valid-key (opening_key d stan) (opening_act kind d.money) o k) ∙ n.1)

-- ---- a hold or an inquiry begins

pub new-opened : (old : List Side) (kind : Kind) (d : Draft) (o : Instruction) → opening_order kind d (length old) ≡ Some o → asked_at old o.key.stan ≡ None
new-opened old kind d o h =
    let n = opened-number kind d (length old) o h in
    none-behind old o.key.stan (omega (arith, n.1)) (omega (arith, n.0, n.1))

pub kept-opened : (who : WhoWaits) (time : StayInTime) (old : List Side) (waiting : List Due) (last at : ℕ) (kind : Kind) (d : Draft) (o : Instruction) → IsBook old waiting last → last ≤ at →
    opening_order kind d (length old) ≡ Some o → IsBook (old ++ opened d.place o ∷ []) (waiting ++ record { stan = o.key.stan; at = at } ∷ []) at
kept-opened who time old waiting last at kind d o b later h =
    let n = opened-number kind d (length old) o h in
    let one : OneIs old (old ++ opened d.place o ∷ []) o.key.stan (unanswered o) = λ k.
    at-pushed old (opened d.place o) k refl (omega (arith, n.0))
    ∙ ap (λ m. cond (k == m) (Some (unanswered o)) (asked_at old k)) (sym n.1) in
    kept-begun who time old (old ++ opened d.place o ∷ []) waiting o.key.stan at last (unanswered o) b later (new-opened old kind d o h) refl refl one

-- ---- what follows a hold begins

free-nothing : (s : Side) → is_free s ≡ true → is_nothing s.follower ≡ true
free-nothing s h = (and_parts (is_hold s.first.order.act && is_granted s.first.code) (is_nothing s.follower) h).1

pub followed-number : (kind : Kind) (d : Draft) (sides : List Side) (place : ℕ) (o : Instruction) → Follows kind d sides place o → (2 * place + 1 < 999999) × (o.key.stan ≡ 999998 - 2 * place)
followed-number kind d sides place o f =
    let n = follower-number place d.highest f.stan f.number in
    (omega (arith, n.0), ap (λ (x : TxKey). x.stan) f.follows.key ∙ n.1)

pub new-followed : (sides : List Side) (kind : Kind) (d : Draft) (place : ℕ) (o : Instruction) → Follows kind d sides place o → asked_at sides o.key.stan ≡ None
new-followed sides kind d place o f =
    let n = followed-number kind d sides place o f in
    ap (asked_at sides) n.1 ∙ none-followed sides place f.hold f.there (free-nothing f.hold f.free) n.0

pub kept-followed : (who : WhoWaits) (time : StayInTime) (old : List Side) (waiting : List Due) (last at : ℕ) (kind : Kind) (d : Draft) (place : ℕ) (o : Instruction) → IsBook old waiting last → last ≤ at →
    Follows kind d old place o → IsBook (sides_followed place o old) (waiting ++ record { stan = o.key.stan; at = at } ∷ []) at
kept-followed who time old waiting last at kind d place o b later f =
    let n = followed-number kind d old place o f in
    let one : OneIs old (sides_followed place o old) o.key.stan (unanswered o) = λ k.
    at-followed old place f.hold o f.there n.0 k
    ∙ ap (λ m. cond (k == m) (Some (unanswered o)) (asked_at old k)) (sym n.1) in
    kept-begun who time old (sides_followed place o old) waiting o.key.stan at last (unanswered o) b later (new-followed old kind d place o f) refl refl one

-- what is made of it is an order that follows the hold
pub follower-made : (kind : Kind) (d : Draft) (hold : Instruction) (stan base : ℕ) (a : Act) (r : Option Instruction) → follower_act kind hold d.share ≡ Some a → base ≡ follower_base kind →
    r ≡ valid_order (record { base = base; stan = stan; sent = d.sent; acquirer = d.acquirer }) a → IfSome r (λ o. IsFollower kind d hold stan o)
follower-made kind d hold stan base a r asks is made =
    let to : r ≡ valid_order (follower_key kind d stan) a = made ∙ ap (λ (n : ℕ). valid_order (record { base = n; stan = stan; sent = d.sent; acquirer = d.acquirer }) a) is in
    subst (λ (x : Option Instruction). IfSome x (λ o. IsFollower kind d hold stan o)) (sym to) (go (is_valid (record { key = follower_key kind d stan; act = a })))
  where
    go : (b : Bool) → IfSome (cond b (Some (record { key = follower_key kind d stan; act = a })) None) (λ o. IsFollower kind d hold stan o)
    go true = record { key = refl; asks = asks }
    go false = tt
