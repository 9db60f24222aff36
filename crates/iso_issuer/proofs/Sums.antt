-- The sums over a journal, after one entry more.
use Rattle.std.proofs.Common.{◌≡◌, ℕ, Bool, true, false, not, refl, arith, ap, sym, ◌∙◌, List, [], ◌∷◌, ◌++◌, ◌+◌, cond}
use Rattle.std.specs.Prelude.{◌&&◌, Option, Some, None, map, ℤ, pos, ◌+ℤ◌, ◌-ℤ◌}
use Rattle.std.proofs.lemmas.Int.{ints}
use Rattle.iso_order.specs.declared.key.TxKey.{TxKey}
use Rattle.iso_order.specs.Pan.{AccountNumber}
use Rattle.iso_order.specs.Order.{Instruction}
use Rattle.iso_issuer.specs.declared.account.Account.{Account}
use Rattle.iso_issuer.specs.declared.effect.Effect.{Effect}
use Rattle.iso_issuer.specs.declared.effect.Side.{Side}
use Rattle.iso_issuer.specs.declared.effect.Side.TheVariants.{Credited, Debited, Held}
use Rattle.iso_issuer.specs.declared.journal.Entry.{Entry}
use Rattle.iso_issuer.specs.Effect.{effect_of, effect_amount, is_on, is_key, same_side}
use Rattle.iso_issuer.specs.Journal.{left_at, smaller_of, undone_key, is_counted_with, is_ended, weight, HasDistinctKeys}
use Rattle.iso_issuer.specs.Found.{weight_at, effect_at, reversed_by, released_by, ended_key}
use Rattle.iso_issuer.specs.Balance.{share, total, ledger, available}
use Rattle.iso_issuer.specs.Posting.{ledger_share, available_share}
use Rattle.iso_issuer.proofs.ByKey.{left-kept}
use Rattle.iso_issuer.proofs.Touched.{at, sum-entered-two}
use Rattle.iso_issuer.proofs.Completions.{completed-kept}

-- ---- weights, after one entry more

-- a hold that an order doesn't touch is ended as before
ended-kept : (es : List Entry) (e : Entry) (key : TxKey) (f : Option Effect) → HasDistinctKeys (map (λ e. e.order) es) →
    is_key (ended_key es e.order) key ≡ false → is_ended (es ++ e ∷ []) key f ≡ is_ended es key f
ended-kept es e key None distinct other = refl
ended-kept es e key (Some f) distinct other = ap (λ b. same_side f.side Held && b) (completed-kept es e key f.pan distinct other)

-- an entry that an order doesn't touch keeps its weight
pub weight-kept : (es : List Entry) (e x : Entry) → HasDistinctKeys (map (λ e. e.order) es) →
    is_key (undone_key e.order.act) x.order.key ≡ false → is_key (ended_key es e.order) x.order.key ≡ false → weight (es ++ e ∷ []) x ≡ weight es x
weight-kept es e x distinct other apart =
    ap (λ o. cond (is_counted_with o x && not (is_ended (es ++ e ∷ []) x.order.key (effect_of x.order))) (smaller_of (effect_amount (effect_of x.order)) o) 0)
    (left-kept es e x.order.key other)
    ∙ ap (λ b. cond (is_counted_with (left_at es x.order.key) x && not b) (smaller_of (effect_amount (effect_of x.order)) (left_at es x.order.key)) 0)
    (ended-kept es e x.order.key (effect_of x.order) distinct apart)

-- the keys that an order touches are two
abbrev pub AreApart : List Entry → Instruction → Type 0
AreApart es o = (q : TxKey) → is_key (ended_key es o) q ≡ true → is_key (undone_key o.act) q ≡ false

-- the law: a sum grows by the weight of the new entry, and by the weight after less the weight before of the one that it reverses
-- and of the hold that it ends or gives back
pub total-entered : (side : Side) (pan : AccountNumber) (es : List Entry) (e : Entry) → HasDistinctKeys (map (λ e. e.order) es) → AreApart es e.order →
    total side pan (es ++ e ∷ [])
    + share side pan (effect_at (reversed_by es e.order)) (weight_at es (reversed_by es e.order))
    + share side pan (effect_at (released_by es e.order)) (weight_at es (released_by es e.order))
    ≡ total side pan es + share side pan (effect_of e.order) (weight (es ++ e ∷ []) e)
    + share side pan (effect_at (reversed_by es e.order)) (weight_at (es ++ e ∷ []) (reversed_by es e.order))
    + share side pan (effect_at (released_by es e.order)) (weight_at (es ++ e ∷ []) (released_by es e.order))
total-entered side pan es e distinct apart =
    let both = sum-entered-two (λ x. share side pan (effect_of x.order) (weight es x)) (λ x. share side pan (effect_of x.order) (weight (es ++ e ∷ []) x))
    (undone_key e.order.act) (ended_key es e.order) es e distinct apart
    (λ x other away. ap (share side pan (effect_of x.order)) (sym (weight-kept es e x distinct other away))) in
    let r = each es (reversed_by es e.order) in
    let s = each (es ++ e ∷ []) (reversed_by es e.order) in
    let l = each es (released_by es e.order) in
    let m = each (es ++ e ∷ []) (released_by es e.order) in
    omega (arith, both, r, s, l, m)
  where
    each : (j : List Entry) (o : Option Entry) → share side pan (effect_at o) (weight_at j o) ≡ at (λ x. share side pan (effect_of x.order) (weight j x)) o
    each j None = refl
    each j (Some x) = refl

nothing : (side : Side) (pan : AccountNumber) (f : Option Effect) → share side pan f 0 ≡ 0
nothing side pan f = none_if (is_on side pan f)
  where
    none_if : (b : Bool) → ◌≡◌ {A = ℕ} (cond b 0 0) 0
    none_if true = refl
    none_if false = refl

-- ---- the law for balances: after an entry, the balance before and the weight after less the weight before of each entry that is touched

pub ledger-entered : (es : List Entry) (e : Entry) (a : Account) → HasDistinctKeys (map (λ e. e.order) es) → AreApart es e.order →
    ledger (es ++ e ∷ []) a ≡ ledger es a
    +ℤ (ledger_share a.pan (effect_of e.order) (weight (es ++ e ∷ []) e) -ℤ ledger_share a.pan (effect_of e.order) 0)
    +ℤ (ledger_share a.pan (effect_at (reversed_by es e.order)) (weight_at (es ++ e ∷ []) (reversed_by es e.order))
    -ℤ ledger_share a.pan (effect_at (reversed_by es e.order)) (weight_at es (reversed_by es e.order)))
    +ℤ (ledger_share a.pan (effect_at (released_by es e.order)) (weight_at (es ++ e ∷ []) (released_by es e.order))
    -ℤ ledger_share a.pan (effect_at (released_by es e.order)) (weight_at es (released_by es e.order)))
ledger-entered es e a distinct apart =
    regroup a.opening _ _ _ _ _ _ _ _ _ _ _ _ _ _ _ _
    (total-entered Credited a.pan es e distinct apart) (total-entered Debited a.pan es e distinct apart)
    (nothing Credited a.pan (effect_of e.order)) (nothing Debited a.pan (effect_of e.order))
  where
    regroup : (z : ℤ) (c' d' c d ce de c0 d0 cb db ca da cx dx cy dy : ℕ) → c' + cb + cx ≡ c + ce + ca + cy → d' + db + dx ≡ d + de + da + dy → c0 ≡ 0 → d0 ≡ 0 →
        z +ℤ pos c' -ℤ pos d' ≡ z +ℤ pos c -ℤ pos d +ℤ (pos ce -ℤ pos de -ℤ (pos c0 -ℤ pos d0)) +ℤ (pos ca -ℤ pos da -ℤ (pos cb -ℤ pos db)) +ℤ (pos cy -ℤ pos dy -ℤ (pos cx -ℤ pos dx))
    regroup z c' d' c d ce de c0 d0 cb db ca da cx dx cy dy p q r s = omega (arith, ints)

pub available-entered : (es : List Entry) (e : Entry) (a : Account) → HasDistinctKeys (map (λ e. e.order) es) → AreApart es e.order →
    available (es ++ e ∷ []) a ≡ available es a
    +ℤ (available_share a.pan (effect_of e.order) (weight (es ++ e ∷ []) e) -ℤ available_share a.pan (effect_of e.order) 0)
    +ℤ (available_share a.pan (effect_at (reversed_by es e.order)) (weight_at (es ++ e ∷ []) (reversed_by es e.order))
    -ℤ available_share a.pan (effect_at (reversed_by es e.order)) (weight_at es (reversed_by es e.order)))
    +ℤ (available_share a.pan (effect_at (released_by es e.order)) (weight_at (es ++ e ∷ []) (released_by es e.order))
    -ℤ available_share a.pan (effect_at (released_by es e.order)) (weight_at es (released_by es e.order)))
available-entered es e a distinct apart =
    regroup (ledger (es ++ e ∷ []) a) (ledger es a) _ _ _ _ _ _ _ _ _ _ _ _ _ _
    (ledger-entered es e a distinct apart) (total-entered Held a.pan es e distinct apart)
    (nothing Held a.pan (effect_of e.order))
  where
    regroup : (z' z le l0 la lb ly lx : ℤ) (h' h he h0 hb ha hx hy : ℕ) → z' ≡ z +ℤ (le -ℤ l0) +ℤ (la -ℤ lb) +ℤ (ly -ℤ lx) → h' + hb + hx ≡ h + he + ha + hy → h0 ≡ 0 →
        z' -ℤ pos h' ≡ z -ℤ pos h +ℤ (le -ℤ pos he -ℤ (l0 -ℤ pos h0)) +ℤ (la -ℤ pos ha -ℤ (lb -ℤ pos hb)) +ℤ (ly -ℤ pos hy -ℤ (lx -ℤ pos hx))
    regroup z' z le l0 la lb ly lx h' h he h0 hb ha hx hy p q r = omega (arith, ints)
