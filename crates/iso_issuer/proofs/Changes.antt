-- A change of the balances, and the balance that it is of.
use Rattle.std.proofs.Common.{◌≡◌, ℕ, suc, ◌+◌, Bool, true, false, cond, refl, arith, ap, sym, ◌∙◌, subst, List, [], ◌∷◌, get_or}
use Rattle.std.proofs.Math.ListN.{set}
use Rattle.std.specs.Prelude.{map, Some, None}
use Rattle.std.specs.List.{position_from}
use Rattle.iso_order.specs.Order.{same_pan}
use Rattle.iso_issuer.specs.declared.account.Account.{Account}
use Rattle.iso_issuer.specs.declared.balances.Balance.{Balance}
use Rattle.iso_issuer.specs.declared.change.Change.{Change}
use Rattle.iso_issuer.specs.Account.{account_of}
use Rattle.iso_issuer.specs.Balances.{HasDistinctNumbers, accounts_of, balance_with, balance_after}
use Rattle.iso_issuer.specs.Index.{account_place}
use Rattle.iso_issuer.proofs.Keys.{same_pan_is, same_pan_sym}
use Rattle.iso_issuer.proofs.Places.{place-map}

posted_if : (c : Change) (b : Balance) (t : Bool) → same_pan c.pan b.account.pan ≡ t → balance_after c b ≡ cond t (balance_with c b) b
posted_if c b t e = ap (λ t. cond t (balance_with c b) b) e

-- a change keeps the accounts
pub accounts-posted : (c : Change) (balances : List Balance) → accounts_of (map (balance_after c) balances) ≡ accounts_of balances
accounts-posted c [] = refl
accounts-posted c (b ∷ bs) = by_test (same_pan c.pan b.account.pan) refl (accounts-posted c bs)
  where
    by_test : (t : Bool) → same_pan c.pan b.account.pan ≡ t → accounts_of (map (balance_after c) bs) ≡ accounts_of bs → (balance_after c b).account ∷ accounts_of (map (balance_after c) bs) ≡ b.account ∷ accounts_of bs
    by_test true e rest =
        let same : (balance_after c b).account ≡ b.account = ap (λ (x : Balance). x.account) (posted_if c b true e) in
        cc
    by_test false e rest =
        let same : (balance_after c b).account ≡ b.account = ap (λ (x : Balance). x.account) (posted_if c b false e) in
        cc

-- a change of a number without account changes nothing
pub posted-none : (c : Change) (balances : List Balance) → account_of (accounts_of balances) c.pan ≡ None → map (balance_after c) balances ≡ balances
posted-none c [] none = refl
posted-none c (b ∷ bs) none = by_test (same_pan b.account.pan c.pan) (same_pan_sym c.pan b.account.pan) none (posted-none c bs)
  where
    by_test : (t : Bool) → same_pan c.pan b.account.pan ≡ t → cond t (Some b.account) (account_of (accounts_of bs) c.pan) ≡ None
        → (account_of (accounts_of bs) c.pan ≡ None → map (balance_after c) bs ≡ bs) → balance_after c b ∷ map (balance_after c) bs ≡ b ∷ bs
    by_test true e h rest = cc
    by_test false e h rest =
        let same : balance_after c b ≡ b = posted_if c b false e in
        let tail : map (balance_after c) bs ≡ bs = rest h in
        cc

posted_from : (c : Change) (i : ℕ) (balances : List Balance) (d : Balance) (p : ℕ) → HasDistinctNumbers (accounts_of balances)
    → position_from (λ b. same_pan b.account.pan c.pan) i balances ≡ Some p
    → (k : ℕ) × (p ≡ i + k) × (set balances k (balance_with c (get_or balances k d)) ≡ map (balance_after c) balances)
posted_from c i [] d p distinct h = cc
posted_from c i (b ∷ bs) d p distinct h =
    by_test (same_pan b.account.pan c.pan) refl h (posted_from c (i + 1) bs d p distinct.1)
  where
    by_test : (t : Bool) → same_pan b.account.pan c.pan ≡ t → cond t (Some i) (position_from (λ x. same_pan x.account.pan c.pan) (i + 1) bs) ≡ Some p
        → (position_from (λ x. same_pan x.account.pan c.pan) (i + 1) bs ≡ Some p → (k : ℕ) × (p ≡ i + 1 + k) × (set bs k (balance_with c (get_or bs k d)) ≡ map (balance_after c) bs))
        → (k : ℕ) × (p ≡ i + k) × (set (b ∷ bs) k (balance_with c (get_or (b ∷ bs) k d)) ≡ balance_after c b ∷ map (balance_after c) bs)
    by_test true e h rest =
        let start : p ≡ i + 0 =
        let same : i ≡ p = cc in
        omega arith in
        let here : balance_after c b ≡ balance_with c b = posted_if c b true (same_pan_sym c.pan b.account.pan ∙ e) in
        let none : account_of (accounts_of bs) c.pan ≡ None = subst (λ n. account_of (accounts_of bs) n ≡ None) (same_pan_is b.account.pan c.pan e) distinct.0 in
        let tail : map (balance_after c) bs ≡ bs = posted-none c bs none in
        let whole : balance_with c b ∷ bs ≡ balance_after c b ∷ map (balance_after c) bs = cc in
        (0, start, whole)
    by_test false e h rest =
        let r = rest h in
        let next : p ≡ i + suc r.0 = omega (arith, r.1) in
        let here : balance_after c b ≡ b = posted_if c b false (same_pan_sym c.pan b.account.pan ∙ e) in
        let whole : b ∷ set bs r.0 (balance_with c (get_or bs r.0 d)) ≡ balance_after c b ∷ map (balance_after c) bs = cc (r.2) in
        (suc r.0, next, whole)

-- a change of the balance at its place is a change of all
pub posted-at : (c : Change) (balances : List Balance) (d : Balance) (p : ℕ) → HasDistinctNumbers (accounts_of balances) → account_place (accounts_of balances) c.pan ≡ Some p
    → set balances p (balance_with c (get_or balances p d)) ≡ map (balance_after c) balances
posted-at c balances d p distinct h =
    let r = posted_from c 0 balances d p distinct (sym (place-map (λ (a : Account). same_pan a.pan c.pan) (λ (b : Balance). b.account) 0 balances) ∙ h) in
    let same : r.0 ≡ p = omega (arith, r.1) in
    subst (λ k. set balances k (balance_with c (get_or balances k d)) ≡ map (balance_after c) balances) same r.2
