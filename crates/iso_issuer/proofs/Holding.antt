-- The holds that are open on an account hold what is held on it.
use Rattle.std.proofs.Common.{◌≡◌, ℕ, Bool, true, false, cond, refl, arith, ap, sym, ◌∙◌, List, [], ◌∷◌, ◌++◌, ◌+◌, ◌<◌, take, length, get_or}
use Rattle.std.specs.Prelude.{map, filter, sum_by, slice_get, ◌&&◌, Some, None}
use Rattle.std.proofs.lemmas.List.{map-append, append-nil}
use Rattle.std.proofs.lemmas.Option.{cond_some, slice_get_within, get_or_from_slice_get}
use Rattle.std.proofs.lemmas.List.Elements.{filter_more}
use Rattle.std.proofs.lemmas.List.Sums.{sum_by-cons}
use Rattle.iso_order.specs.Pan.{AccountNumber}
use Rattle.iso_issuer.specs.declared.effect.Side.TheVariants.{Held}
use Rattle.iso_issuer.specs.declared.holds.OpenHold.{OpenHold}
use Rattle.iso_issuer.specs.declared.journal.Entry.{Entry}
use Rattle.iso_issuer.specs.Balance.{share, total}
use Rattle.iso_issuer.specs.Effect.{effect_of, effect_amount, is_on}
use Rattle.iso_issuer.specs.Holds.{is_open, hold_now, open_holds}
use Rattle.iso_issuer.specs.Journal.{is_standing, left_at, smaller_of, weight}

-- the holds among the first entries, and among one more
abbrev pub open_among : List Entry → AccountNumber → List Entry → List OpenHold
open_among journal pan es = map (hold_now journal) (filter (is_open journal pan) es)

pub open-more : (journal : List Entry) (pan : AccountNumber) (i : ℕ) (d : Entry) → i < length journal →
    open_among journal pan (take (i + 1) journal) ≡ open_among journal pan (take i journal)
    ++ cond (is_open journal pan (get_or journal i d)) (hold_now journal (get_or journal i d) ∷ []) []
open-more journal pan i d below =
    ap (map (hold_now journal)) (filter_more (is_open journal pan) journal i d below)
    ∙ map-append (hold_now journal) (filter (is_open journal pan) (take i journal)) (cond (is_open journal pan (get_or journal i d)) (get_or journal i d ∷ []) [])
    ∙ ap (λ l. open_among journal pan (take i journal) ++ l) (either (is_open journal pan (get_or journal i d)))
  where
    either : (b : Bool) → map (hold_now journal) (cond b (get_or journal i d ∷ []) []) ≡ cond b (hold_now journal (get_or journal i d) ∷ []) []
    either true = refl
    either false = refl

-- with the next entry an open hold, or none
pub open-some : (journal : List Entry) (pan : AccountNumber) (i : ℕ) (e : Entry) (hold : OpenHold) → slice_get journal i ≡ Some e →
    Some hold ≡ cond (is_open journal pan e) (Some (hold_now journal e)) None → open_among journal pan (take (i + 1) journal) ≡ open_among journal pan (take i journal) ++ hold ∷ []
open-some journal pan i e hold there is =
    let told = cond_some (is_open journal pan e) (hold_now journal e) hold (sym is) in
    open-more journal pan i e (slice_get_within journal i e there)
    ∙ ap (λ d. open_among journal pan (take i journal) ++ cond (is_open journal pan d) (hold_now journal d ∷ []) []) (get_or_from_slice_get journal i e e there)
    ∙ ap (λ b. open_among journal pan (take i journal) ++ cond b (hold_now journal e ∷ []) []) told.0
    ∙ ap (λ h. open_among journal pan (take i journal) ++ h ∷ []) told.1

pub open-none : (journal : List Entry) (pan : AccountNumber) (i : ℕ) (e : Entry) → slice_get journal i ≡ Some e →
    None ≡ cond (is_open journal pan e) (Some (hold_now journal e)) None → open_among journal pan (take (i + 1) journal) ≡ open_among journal pan (take i journal)
open-none journal pan i e there is =
    open-more journal pan i e (slice_get_within journal i e there)
    ∙ ap (λ d. open_among journal pan (take i journal) ++ cond (is_open journal pan d) (hold_now journal d ∷ []) []) (get_or_from_slice_get journal i e e there)
    ∙ by_test (is_open journal pan e) is
  where
    by_test : (b : Bool) → None ≡ cond b (Some (hold_now journal e)) None →
        open_among journal pan (take i journal) ++ cond b (hold_now journal e ∷ []) [] ≡ open_among journal pan (take i journal)
    by_test true h = cc
    by_test false h = append-nil (open_among journal pan (take i journal))

-- an entry that isn't an open hold on the account counts nothing there
shared : (standing on : Bool) (n : ℕ) → cond on (cond standing n 0) 0 ≡ cond (standing && on) (cond standing n 0) 0
shared true true n = refl
shared true false n = refl
shared false true n = refl
shared false false n = refl

held_among : (journal : List Entry) (pan : AccountNumber) (es : List Entry) →
    sum_by (λ (h : OpenHold). h.amount) (open_among journal pan es) ≡ sum_by (λ (e : Entry). share Held pan (effect_of e.order) (weight journal e)) es
held_among journal pan [] = refl
held_among journal pan (e ∷ es) =
    by_test (is_open journal pan e) refl (held_among journal pan es)
    ∙ sym (sum_by-cons (λ (e : Entry). share Held pan (effect_of e.order) (weight journal e)) e es)
  where
    counted : share Held pan (effect_of e.order) (weight journal e) ≡ cond (is_open journal pan e) (weight journal e) 0
    counted = shared (is_standing journal e) (is_on Held pan (effect_of e.order)) (smaller_of (effect_amount (effect_of e.order)) (left_at journal e.order.key))

    by_test : (b : Bool) → is_open journal pan e ≡ b →
        sum_by (λ (h : OpenHold). h.amount) (open_among journal pan es) ≡ sum_by (λ (e : Entry). share Held pan (effect_of e.order) (weight journal e)) es →
        sum_by (λ (h : OpenHold). h.amount) (map (hold_now journal) (cond b (e ∷ filter (is_open journal pan) es) (filter (is_open journal pan) es)))
        ≡ share Held pan (effect_of e.order) (weight journal e) + sum_by (λ (e : Entry). share Held pan (effect_of e.order) (weight journal e)) es
    by_test true h rest =
        sum_by-cons (λ (h : OpenHold). h.amount) (hold_now journal e) (open_among journal pan es)
        ∙ omega (arith, rest, counted ∙ ap (λ b. cond b (weight journal e) 0) h)
    by_test false h rest = omega (arith, rest, counted ∙ ap (λ b. cond b (weight journal e) 0) h)

-- together they hold what is held
pub held-open : (journal : List Entry) (pan : AccountNumber) → sum_by (λ (h : OpenHold). h.amount) (open_holds journal pan) ≡ total Held pan journal
held-open journal pan = held_among journal pan journal
