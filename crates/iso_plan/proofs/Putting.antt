-- What waits, by a map of moments and numbers.
use Rattle.std.proofs.Common.{◌≡◌, ◌≤◌, ◌<◌, ℕ, Bool, true, false, refl, ap, arith, List, [], ◌∷◌, nat_lt}
use Rattle.std.specs.Prelude.{◌==◌, map}
use Rattle.std.specs.List.{AllByRecursion}
use Rattle.std.specs.Ordering.{nat_cmp, ordering_then, is_gt}
use Rattle.std.specs.BTreeMap.{insert_entry}
use Rattle.std.proofs.lemmas.Grind.{common_steps}
use Rattle.std.specs.declared.cmp.Ordering.{Ordering}
use Rattle.std.specs.declared.cmp.Ordering.TheVariants.{Less, Equal, Greater}
use Rattle.iso_plan.specs.declared.late.Held.{Held}
use Rattle.iso_plan.specs.Late.{put, waits_of}

-- moments first, and then numbers
abbrev pub by_moment : ℕ × ℕ → ℕ × ℕ → Ordering
by_moment x y = ordering_then (nat_cmp x.0 y.0) (nat_cmp x.1 y.1)

-- an entry of a new number is put behind those of its moment
pub put-insert : (at n : ℕ) (held : Held) (es : List ((ℕ × ℕ) × Held)) → AllByRecursion (λ e. e.0.1 < n) es → waits_of (insert_entry by_moment es (at, n) held) ≡ put at held (waits_of es)
put-insert at n held [] all = refl
put-insert at n held (e ∷ es) all = go (nat_lt at e.0.0) refl (at == e.0.0) refl (ap (λ ws. (e.0.0, e.1) ∷ ws) (put-insert at n held es all.1))
  where
    go : (a : Bool) → nat_lt at e.0.0 ≡ a → (b : Bool) → (at == e.0.0) ≡ b
        → (e.0.0, e.1) ∷ waits_of (insert_entry by_moment es (at, n) held) ≡ (e.0.0, e.1) ∷ put at held (waits_of es)
        → waits_of (insert_entry by_moment (e ∷ es) (at, n) held) ≡ put at held (waits_of (e ∷ es))
    go true p b q rest = rw p refl
    go false p true q rest =
        let lower : nat_lt n e.0.1 ≡ false = grind (arith, common_steps, all.0) in
        let other : (n == e.0.1) ≡ false = grind (arith, common_steps, all.0) in
        rw (p, q, lower, other) rest
    go false p false q rest = rw (p, q) rest

-- what holds of the keys before and of the new one holds of all
pub all-insert : (P : ℕ × ℕ → Type 0) (k : ℕ × ℕ) (held : Held) (es : List ((ℕ × ℕ) × Held)) → P k → AllByRecursion (λ e. P e.0) es → AllByRecursion (λ e. P e.0) (insert_entry by_moment es k held)
all-insert P k held [] p all = (p, tt)
all-insert P k held (e ∷ es) p all = go (by_moment k e.0) refl (all-insert P k held es p all.1)
  where
    go : (o : Ordering) → by_moment k e.0 ≡ o → AllByRecursion (λ f. P f.0) (insert_entry by_moment es k held)
        → AllByRecursion (λ f. P f.0) (insert_entry by_moment (e ∷ es) k held)
    go Less q rest = rw q (p, all)
    go Equal q rest = rw q all
    go Greater q rest = rw q (all.0, rest)

-- a key that isn't greater has no later moment
pub earlier-moment : (x y : ℕ × ℕ) → is_gt (by_moment x y) ≡ false → x.0 ≤ y.0
earlier-moment x y h = go (nat_lt x.0 y.0) refl (x.0 == y.0) refl
  where
    go : (a : Bool) → nat_lt x.0 y.0 ≡ a → (b : Bool) → (x.0 == y.0) ≡ b → x.0 ≤ y.0
    go true p b q = grind (arith, common_steps, p)
    go false p true q = grind (arith, common_steps, q)
    go false p false q = let k : true ≡ false = rw (p, q) at h in cc

-- the moments of what waits, by the keys of the entries
pub all-waits : (at : ℕ) (es : List ((ℕ × ℕ) × Held)) → AllByRecursion (λ k. at ≤ k.0) (map (λ e. e.0) es) → AllByRecursion (λ w. at ≤ w.0) (waits_of es)
all-waits at [] all = tt
all-waits at (e ∷ es) all = (all.0, all-waits at es all.1)
