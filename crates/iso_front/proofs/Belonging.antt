-- To which shard an account number belongs.
use Rattle.std.proofs.Common.{◌≡◌, ◌∙◌, ℕ, ◌<◌, Bool, true, false, List, [], ◌∷◌, ◌++◌, slice_get, Option, Some, None, IfSome, zero, suc, subst, sym, refl, ap, if◌then◌else◌}
use Rattle.std.specs.List.{AllByRecursion}
use Rattle.std.proofs.lemmas.Option.{same_Some}
use Rattle.std.proofs.lemmas.List.Elements.{All-push, All-from_recursion, recursion_from_All}
use Rattle.iso_order.specs.Pan.{AccountNumber}
use Rattle.iso_front.specs.declared.prefixes.Given.{Given}
use Rattle.iso_front.specs.Prefixes.{covers, AreApart}
use Rattle.iso_front.specs.Shards.{NoneMeet, Belongs, shard_in}

-- ---- the shard that is told has the account number

found-by : (t : Bool) (count : ℕ) (g : Given) (gs : List Given) (pan : AccountNumber) (n : ℕ) → covers g.prefixes pan ≡ t
    → (shard_in gs pan ≡ Some n → Belongs (record { count = count; given = gs }) pan n)
    → (if t then Some g.shard else shard_in gs pan) ≡ Some n → Belongs (record { count = count; given = g ∷ gs }) pan n
found-by true count g gs pan n is later told =
    let same : g.shard ≡ n = cc in
    record { place = zero; prefixes = g.prefixes; given = ap (λ (m : ℕ). Some (with-shard g m)) same; covered = is }
  where
    with-shard : Given → ℕ → Given
    with-shard g m = record { prefixes = g.prefixes; shard = m }
found-by false count g gs pan n is later told =
    let b = later told in
    record { place = suc b.place; prefixes = b.prefixes; given = b.given; covered = b.covered }

found : (count : ℕ) (gs : List Given) (pan : AccountNumber) (n : ℕ) → shard_in gs pan ≡ Some n
    → Belongs (record { count = count; given = gs }) pan n
found count [] pan n told = absurd (cc)
found count (g ∷ gs) pan n told = found-by (covers g.prefixes pan) count g gs pan n refl (found count gs pan n) told

pub found-some : (count : ℕ) (gs : List Given) (pan : AccountNumber) (r : Option ℕ) → r ≡ shard_in gs pan
    → IfSome r (Belongs (record { count = count; given = gs }) pan)
found-some count gs pan None is = tt
found-some count gs pan (Some n) is = found count gs pan n (sym is)

-- ---- the shard that has the account number is told

-- what holds of each holds of the one at a place
all-at : {X : Type 0} (P : X → Type 0) (xs : List X) (i : ℕ) (x : X) → AllByRecursion P xs → slice_get xs i ≡ Some x → P x
all-at P [] i x all there = absurd (cc)
all-at P (y ∷ ys) zero x all there = subst P (same_Some y x there) all.0
all-at P (y ∷ ys) (suc i) x all there = all-at P ys i x all.1 there

only-by : (t : Bool) (g : Given) (gs : List Given) (pan : AccountNumber) (h : Given) → covers g.prefixes pan ≡ t
    → AllByRecursion (λ p. AreApart g.prefixes p.prefixes) gs
    → ((i : ℕ) → slice_get gs i ≡ Some h → shard_in gs pan ≡ Some h.shard) → covers h.prefixes pan ≡ true
    → (i : ℕ) → slice_get (g ∷ gs) i ≡ Some h → (if t then Some g.shard else shard_in gs pan) ≡ Some h.shard
only-by true g gs pan h is first later covered zero there =
    let same : g ≡ h = cc in ap (λ (x : Given). Some x.shard) same
only-by true g gs pan h is first later covered (suc i) there =
    absurd (all-at (λ p. AreApart g.prefixes p.prefixes) gs i h first there pan is covered)
only-by false g gs pan h is first later covered zero there =
    let same : g ≡ h = cc in
    let begun : covers g.prefixes pan ≡ true = ap (λ (x : Given). covers x.prefixes pan) same ∙ covered in
    absurd (cc)
only-by false g gs pan h is first later covered (suc i) there = later i there

only-at : (gs : List Given) (pan : AccountNumber) (h : Given) → NoneMeet gs → covers h.prefixes pan ≡ true
    → (i : ℕ) → slice_get gs i ≡ Some h → shard_in gs pan ≡ Some h.shard
only-at [] pan h none covered i there = absurd (cc)
only-at (g ∷ gs) pan h (first, rest) covered i there =
    only-by (covers g.prefixes pan) g gs pan h refl first (only-at gs pan h rest covered) covered i there

pub only : (count : ℕ) (gs : List Given) (pan : AccountNumber) (n : ℕ) → NoneMeet gs
    → Belongs (record { count = count; given = gs }) pan n → shard_in gs pan ≡ Some n
only count gs pan n apart b = only-at gs pan (record { prefixes = b.prefixes; shard = n }) apart b.covered b.place b.given

-- ---- the shard that is told is there

pub there-some : (count : ℕ) (gs : List Given) (pan : AccountNumber) (r : Option ℕ) → r ≡ shard_in gs pan
    → AllByRecursion (λ g. g.shard < count) gs → IfSome r (λ n. n < count)
there-some count gs pan None is all = tt
there-some count gs pan (Some n) is all =
    let b = found count gs pan n (sym is) in
    all-at (λ (g : Given). g.shard < count) gs b.place (record { prefixes = b.prefixes; shard = n }) all b.given

-- ---- one more

pub all-push : {X : Type 0} (P : X → Type 0) (xs : List X) (x : X) → AllByRecursion P xs → P x → AllByRecursion P (xs ++ x ∷ [])
all-push P xs x all here = recursion_from_All P (xs ++ x ∷ []) (All-push P xs x (All-from_recursion P xs all) here)

-- what is apart from all of them stands behind them
pub none-meet-push : (gs : List Given) (h : Given) → NoneMeet gs → AllByRecursion (λ g. AreApart g.prefixes h.prefixes) gs
    → NoneMeet (gs ++ h ∷ [])
none-meet-push [] h none all = (tt, tt)
none-meet-push (g ∷ gs) h (first, rest) (here, later) =
    (all-push (λ p. AreApart g.prefixes p.prefixes) gs h first here, none-meet-push gs h rest later)
