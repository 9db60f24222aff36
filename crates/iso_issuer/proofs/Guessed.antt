-- A balance that stands at a place is the one that is found there.
use Rattle.std.proofs.Common.{◌≡◌, ℕ, zero, suc, ◌+◌, Bool, true, false, cond, refl, arith, ap, ◌∙◌, subst, List, [], ◌∷◌}
use Rattle.std.specs.Prelude.{Some, None, slice_get}
use Rattle.std.specs.List.{position_from}
use Rattle.iso_order.specs.Pan.{AccountNumber}
use Rattle.iso_order.specs.Order.{same_pan}
use Rattle.iso_issuer.specs.declared.balances.Balance.{Balance}
use Rattle.iso_issuer.specs.Account.{account_of}
use Rattle.iso_issuer.specs.Balances.{HasDistinctNumbers, accounts_of}
use Rattle.iso_issuer.specs.Index.{account_place}
use Rattle.iso_issuer.proofs.Keys.{same_pan_sym, same_pan_self}

-- a number without account is not that of any balance
other_number : (balances : List Balance) (p : ℕ) (b : Balance) (pan : AccountNumber) → account_of (accounts_of balances) pan ≡ None → slice_get balances p ≡ Some b
    → same_pan b.account.pan pan ≡ false
other_number [] p b pan none at = cc
other_number (x ∷ xs) zero b pan none at = by_test (same_pan x.account.pan pan) refl none
  where
    by_test : (t : Bool) → same_pan x.account.pan pan ≡ t → cond t (Some x.account) (account_of (accounts_of xs) pan) ≡ None → same_pan b.account.pan pan ≡ false
    by_test true e h = cc
    by_test false e h =
        let same : x ≡ b = cc in
        subst (λ (y : Balance). same_pan y.account.pan pan ≡ false) same e
other_number (x ∷ xs) (suc p) b pan none at = by_test (same_pan x.account.pan pan) none (λ h. other_number xs p b pan h at)
  where
    by_test : (t : Bool) → cond t (Some x.account) (account_of (accounts_of xs) pan) ≡ None → (account_of (accounts_of xs) pan ≡ None → same_pan b.account.pan pan ≡ false)
        → same_pan b.account.pan pan ≡ false
    by_test true h rest = cc
    by_test false h rest = rest h

guessed_from : (balances : List Balance) (i p : ℕ) (b : Balance) → HasDistinctNumbers (accounts_of balances) → slice_get balances p ≡ Some b
    → position_from (λ a. same_pan a.pan b.account.pan) i (accounts_of balances) ≡ Some (i + p)
guessed_from [] i p b distinct at = cc
guessed_from (x ∷ xs) i zero b distinct at =
    let same : b ≡ x = cc in
    let own : same_pan x.account.pan b.account.pan ≡ true = subst (λ (y : Balance). same_pan y.account.pan b.account.pan ≡ true) same (same_pan_self b.account.pan) in
    ap (λ (t : Bool). cond t (Some i) (position_from (λ a. same_pan a.pan b.account.pan) (i + 1) (accounts_of xs))) own ∙ ap Some (omega arith)
guessed_from (x ∷ xs) i (suc p) b distinct at =
    let other : same_pan x.account.pan b.account.pan ≡ false = same_pan_sym x.account.pan b.account.pan ∙ other_number xs p b x.account.pan distinct.0 at in
    ap (λ (t : Bool). cond t (Some i) (position_from (λ a. same_pan a.pan b.account.pan) (i + 1) (accounts_of xs))) other
    ∙ guessed_from xs (i + 1) p b distinct.1 at ∙ ap Some (omega arith)

-- a balance of this number stands at its account's place
pub guessed-at : (balances : List Balance) (p : ℕ) (b : Balance) (pan : AccountNumber) → HasDistinctNumbers (accounts_of balances) → slice_get balances p ≡ Some b
    → b.account.pan ≡ pan → account_place (accounts_of balances) pan ≡ Some p
guessed-at balances p b pan distinct at same =
    subst (λ (n : AccountNumber). account_place (accounts_of balances) n ≡ Some p) same (guessed_from balances 0 p b distinct at ∙ ap Some (omega arith))
