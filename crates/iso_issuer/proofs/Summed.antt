-- Balances that are sums over the journal.
use Rattle.std.proofs.Common.{◌≡◌, ℕ, Bool, true, false, cond, arith, refl, ap, sym, ◌∙◌, List, [], ◌∷◌, ◌++◌}
use Rattle.std.specs.Prelude.{map, Option, Some, None, option_map, ◌&&◌, ℤ, pos, unsigned_abs, ◌+ℤ◌, ◌-ℤ◌}
use Rattle.std.proofs.lemmas.Int.{ints}
use Rattle.iso_order.specs.Pan.{AccountNumber}
use Rattle.iso_order.specs.Order.{same_pan}
use Rattle.iso_issuer.specs.declared.account.Account.{Account}
use Rattle.iso_issuer.specs.declared.balances.Balance.{Balance}
use Rattle.iso_issuer.specs.declared.journal.Entry.{Entry}
use Rattle.iso_issuer.specs.Account.{account_of}
use Rattle.iso_issuer.specs.declared.effect.Effect.{Effect}
use Rattle.iso_issuer.specs.declared.effect.Side.{Side}
use Rattle.iso_issuer.specs.declared.effect.Side.TheVariants.{Credited, Debited, Held}
use Rattle.iso_issuer.specs.Effect.{effect_of, same_side}
use Rattle.iso_issuer.specs.Journal.{weight, HasDistinctKeys}
use Rattle.iso_issuer.specs.Found.{weight_at, effect_at, reversed_by, released_by}
use Rattle.iso_issuer.specs.Balance.{total, ledger, available, balance_on}
use Rattle.iso_issuer.specs.Posting.{ledger_share, available_share, balance_by_weights, ledger_grown, available_grown, on_ledger, on_available}
use Rattle.iso_issuer.specs.Balances.{accounts_of, balance_with, balance_at, opening_balance, balance_after}
use Rattle.iso_issuer.specs.Index.{AreSums, IsSummed}
use Rattle.iso_issuer.specs.declared.change.Change.{Change}
use Rattle.iso_issuer.proofs.Places.{found-map}
use Rattle.iso_issuer.proofs.Room.{near-opened}
use Rattle.iso_issuer.proofs.Sums.{AreApart, ledger-entered, available-entered}

-- the balance of a number is that of its account
pub balance-of : (entries : List Entry) (balances : List Balance) (pan : AccountNumber) → AreSums entries balances →
    balance_at balances pan ≡ option_map (balance_on entries) (account_of (accounts_of balances) pan)
balance-of entries balances pan sums =
    ap (λ bs. balance_at bs pan) sums
    ∙ found-map (λ (b : Balance). same_pan b.account.pan pan) (balance_on entries) (accounts_of balances)

-- the ledger of a number
pub ledger-of : (entries : List Entry) (balances : List Balance) (pan : AccountNumber) → AreSums entries balances →
    option_map (λ b. b.ledger) (balance_at balances pan) ≡ option_map (ledger entries) (account_of (accounts_of balances) pan)
ledger-of entries balances pan sums =
    ap (option_map (λ (b : Balance). b.ledger)) (balance-of entries balances pan sums) ∙ each (account_of (accounts_of balances) pan)
  where
    each : (o : Option Account) → option_map (λ (b : Balance). b.ledger) (option_map (balance_on entries) o) ≡ option_map (ledger entries) o
    each None = refl
    each (Some a) = refl

-- what is available on a number
pub available-of : (entries : List Entry) (balances : List Balance) (pan : AccountNumber) → AreSums entries balances →
    option_map (λ b. b.available) (balance_at balances pan) ≡ option_map (available entries) (account_of (accounts_of balances) pan)
available-of entries balances pan sums =
    ap (option_map (λ (b : Balance). b.available)) (balance-of entries balances pan sums) ∙ each (account_of (accounts_of balances) pan)
  where
    each : (o : Option Account) → option_map (λ (b : Balance). b.available) (option_map (balance_on entries) o) ≡ option_map (available entries) o
    each None = refl
    each (Some a) = refl

-- ---- at first, and after one entry more

-- what is held on a number: its ledger less what is available
pub held-of : (entries : List Entry) (balances : List Balance) (pan : AccountNumber) → AreSums entries balances →
    option_map (λ b. unsigned_abs (b.ledger -ℤ b.available)) (balance_at balances pan) ≡ option_map (λ a. total Held a.pan entries) (account_of (accounts_of balances) pan)
held-of entries balances pan sums =
    ap (option_map (λ (b : Balance). unsigned_abs (b.ledger -ℤ b.available))) (balance-of entries balances pan sums) ∙ each (account_of (accounts_of balances) pan)
  where
    less : (z : ℤ) (n : ℕ) → z -ℤ (z -ℤ pos n) ≡ pos n
    less z n = omega (arith, ints)

    each : (o : Option Account) → option_map (λ (b : Balance). unsigned_abs (b.ledger -ℤ b.available)) (option_map (balance_on entries) o) ≡ option_map (λ (a : Account). total Held a.pan entries) o
    each None = refl
    each (Some a) = ap (λ z. Some (unsigned_abs z)) (less (ledger entries a) (total Held a.pan entries))

opened_is : (a : Account) → balance_on [] a ≡ opening_balance a
opened_is a =
    let on : ledger [] a ≡ a.opening = omega (arith, ints) in
    let free : available [] a ≡ a.opening = omega (arith, ints) in
    cc

opened_are : (accounts : List Account) → map (balance_on []) accounts ≡ map opening_balance accounts
opened_are [] = refl
opened_are (a ∷ later) =
    let head = opened_is a in
    let tail = opened_are later in
    cc

-- before any order each balance is the opening amount
pub summed-first : (accounts : List Account) (balances : List Balance) → accounts_of balances ≡ accounts → balances ≡ map opening_balance accounts → IsSummed [] balances
summed-first accounts balances of is = record {
  sums = is ∙ sym (opened_are accounts) ∙ ap (map (balance_on [])) (sym of);
  near = rw is (near-opened accounts);
}

rebuilt : (a : Account) (l v l' v' : ℤ) → l' ≡ l → v' ≡ v →
    ◌≡◌ {A = Balance} (record { account = a; ledger = l; available = v }) (record { account = a; ledger = l'; available = v' })
rebuilt a l v l' v' on free = cc

moved_is : (t : Bool) (c : Change) (b : Balance) (dl dv : ℤ) → cond t c.ledger (pos 0) ≡ dl → cond t c.available (pos 0) ≡ dv →
    cond t (balance_with c b) b ≡ record { account = b.account; ledger = b.ledger +ℤ dl; available = b.available +ℤ dv }
moved_is true c b dl dv on free = cc
moved_is false c b dl dv on free =
    let same : b.ledger +ℤ dl ≡ b.ledger = omega (arith, ints, on) in
    let left : b.available +ℤ dv ≡ b.available = omega (arith, ints, free) in
    rebuilt b.account _ _ _ _ same left

-- what a change of weight adds, on each account
pub grown-ledger : (f : Effect) (pan : AccountNumber) (before after : ℕ) →
    cond (same_pan f.pan pan) (ledger_grown f.side (pos after -ℤ pos before)) (pos 0) ≡ ledger_share pan (Some f) after -ℤ ledger_share pan (Some f) before
grown-ledger f pan before after = by_test f.side (same_pan f.pan pan)
  where
    by_test : (s : Side) (t : Bool) → cond t (ledger_grown s (pos after -ℤ pos before)) (pos 0)
        ≡ pos (cond (same_side s Credited && t) after 0) -ℤ pos (cond (same_side s Debited && t) after 0)
        -ℤ (pos (cond (same_side s Credited && t) before 0) -ℤ pos (cond (same_side s Debited && t) before 0))
    by_test Credited true = omega (arith, ints)
    by_test Credited false = omega (arith, ints)
    by_test Debited true = omega (arith, ints)
    by_test Debited false = omega (arith, ints)
    by_test Held true = omega (arith, ints)
    by_test Held false = omega (arith, ints)

pub grown-available : (f : Effect) (pan : AccountNumber) (before after : ℕ) →
    cond (same_pan f.pan pan) (available_grown f.side (pos after -ℤ pos before)) (pos 0) ≡ available_share pan (Some f) after -ℤ available_share pan (Some f) before
grown-available f pan before after = by_test f.side (same_pan f.pan pan)
  where
    by_test : (s : Side) (t : Bool) → cond t (available_grown s (pos after -ℤ pos before)) (pos 0)
        ≡ pos (cond (same_side s Credited && t) after 0) -ℤ pos (cond (same_side s Debited && t) after 0) -ℤ pos (cond (same_side s Held && t) after 0)
        -ℤ (pos (cond (same_side s Credited && t) before 0) -ℤ pos (cond (same_side s Debited && t) before 0) -ℤ pos (cond (same_side s Held && t) before 0))
    by_test Credited true = omega (arith, ints)
    by_test Credited false = omega (arith, ints)
    by_test Debited true = omega (arith, ints)
    by_test Debited false = omega (arith, ints)
    by_test Held true = omega (arith, ints)
    by_test Held false = omega (arith, ints)

-- the change of an entry's weight, posted
pub posted-moved : (c : Change) (f : Option Effect) (before after : ℕ) →
    ((pan : AccountNumber) → on_ledger (Some c) pan ≡ ledger_share pan f after -ℤ ledger_share pan f before) →
    ((pan : AccountNumber) → on_available (Some c) pan ≡ available_share pan f after -ℤ available_share pan f before) →
    (balances : List Balance) → map (balance_after c) balances ≡ map (balance_by_weights f before after) balances
posted-moved c f before after on free [] = refl
posted-moved c f before after on free (b ∷ later) =
    let head : balance_after c b ≡ balance_by_weights f before after b =
    moved_is (same_pan c.pan b.account.pan) c b _ _ (on b.account.pan) (free b.account.pan) in
    let tail = posted-moved c f before after on free later in
    cc

-- nothing to post
pub kept-moved : (f : Option Effect) (before after : ℕ) →
    ((pan : AccountNumber) → pos 0 ≡ ledger_share pan f after -ℤ ledger_share pan f before) →
    ((pan : AccountNumber) → pos 0 ≡ available_share pan f after -ℤ available_share pan f before) →
    (balances : List Balance) → balances ≡ map (balance_by_weights f before after) balances
kept-moved f before after on free [] = refl
kept-moved f before after on free (b ∷ later) =
    let same : b.ledger +ℤ (ledger_share b.account.pan f after -ℤ ledger_share b.account.pan f before) ≡ b.ledger =
    ap (λ z. b.ledger +ℤ z) (sym (on b.account.pan)) ∙ zero_more b.ledger in
    let left : b.available +ℤ (available_share b.account.pan f after -ℤ available_share b.account.pan f before) ≡ b.available =
    ap (λ z. b.available +ℤ z) (sym (free b.account.pan)) ∙ zero_more b.available in
    ap (λ x. x ∷ later) (rebuilt b.account _ _ _ _ same left) ∙ ap (λ bs. balance_by_weights f before after b ∷ bs) (kept-moved f before after on free later)
  where
    zero_more : (z : ℤ) → z +ℤ pos 0 ≡ z
    zero_more z = omega (arith, ints)

-- the balances, after an entry, the one that it reverses, and the hold that it ends or gives back
abbrev pub settled : List Entry → Entry → Balance → Balance
settled es e b =
    balance_by_weights (effect_at (released_by es e.order)) (weight_at es (released_by es e.order)) (weight_at (es ++ e ∷ []) (released_by es e.order))
    (balance_by_weights (effect_at (reversed_by es e.order)) (weight_at es (reversed_by es e.order)) (weight_at (es ++ e ∷ []) (reversed_by es e.order))
    (balance_by_weights (effect_of e.order) 0 (weight (es ++ e ∷ []) e) b))

settled_are : (es : List Entry) (e : Entry) → HasDistinctKeys (map (λ e. e.order) es) → AreApart es e.order → (accounts : List Account) →
    map (settled es e) (map (balance_on es) accounts) ≡ map (balance_on (es ++ e ∷ [])) accounts
settled_are es e distinct apart [] = refl
settled_are es e distinct apart (a ∷ later) =
    let head : settled es e (balance_on es a) ≡ balance_on (es ++ e ∷ []) a =
    rebuilt a _ _ _ _ (ledger-entered es e a distinct apart) (available-entered es e a distinct apart) in
    ap (λ b. b ∷ map (settled es e) (map (balance_on es) later)) head ∙ ap (λ bs. balance_on (es ++ e ∷ []) a ∷ bs) (settled_are es e distinct apart later)

-- what weights change leaves the accounts
pub accounts-settled : (es : List Entry) (e : Entry) (balances : List Balance) → accounts_of (map (settled es e) balances) ≡ accounts_of balances
accounts-settled es e [] = refl
accounts-settled es e (b ∷ later) = ap (λ xs. b.account ∷ xs) (accounts-settled es e later)

pub settled-thrice : (es : List Entry) (e : Entry) (balances : List Balance) →
    map (balance_by_weights (effect_at (released_by es e.order)) (weight_at es (released_by es e.order)) (weight_at (es ++ e ∷ []) (released_by es e.order)))
    (map (balance_by_weights (effect_at (reversed_by es e.order)) (weight_at es (reversed_by es e.order)) (weight_at (es ++ e ∷ []) (reversed_by es e.order)))
    (map (balance_by_weights (effect_of e.order) 0 (weight (es ++ e ∷ []) e)) balances)) ≡ map (settled es e) balances
settled-thrice es e [] = refl
settled-thrice es e (b ∷ later) = ap (λ bs. settled es e b ∷ bs) (settled-thrice es e later)

-- the balances stay sums
pub sums-settled : (es : List Entry) (e : Entry) (balances : List Balance) → HasDistinctKeys (map (λ e. e.order) es) → AreApart es e.order → AreSums es balances →
    AreSums (es ++ e ∷ []) (map (settled es e) balances)
sums-settled es e balances distinct apart sums =
    ap (map (settled es e)) sums ∙ settled_are es e distinct apart (accounts_of balances)
    ∙ ap (map (balance_on (es ++ e ∷ []))) (sym (accounts-settled es e balances))
