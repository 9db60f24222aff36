-- The request under a key, by its place.
use Rattle.std.proofs.Common.{◌≡◌, ◌<◌, ◌+◌, ℕ, zero, suc, Bool, true, false, List, [], ◌∷◌, ◌++◌, length, get_or, set, refl, ap, subst, arith}
use Rattle.std.specs.Prelude.{Option, Some, None, option_map, if◌then◌else◌}
use Rattle.std.specs.List.{remove}
use Rattle.iso_order.specs.declared.key.TxKey.{TxKey}
use Rattle.iso_order.specs.Key.{same_key}
use Rattle.iso_front.specs.declared.gathering.Gathering.{Gathering}
use Rattle.iso_relay.specs.declared.entry.Entry.{Entry}
use Rattle.iso_relay.specs.Entries.{place_of, heard_under, NoneUnder, put, without}

abbrev pub under : TxKey → Gathering → Entry
under key g = record { key = key; gathering = g }

-- ---- where one waits

pub record Placed (key : TxKey) (es : List Entry) (n : ℕ) : Type 0 where
  pub there : n < length es
  pub heard : (d : Entry) → heard_under key es ≡ Some (get_or es n d).gathering.heard
  pub replaced : (g : Gathering) → set es n (under key g) ≡ put (under key g) es
  pub taken : remove es n ≡ without key es

first-placed : (key : TxKey) (e : Entry) (es : List Entry) → same_key e.key key ≡ true → Placed key (e ∷ es) zero
first-placed key e es is = record {
  there = omega arith;
  heard = λ d. rw is refl;
  replaced = λ g. rw is refl;
  taken = rw is refl;
}

later-placed : (key : TxKey) (e : Entry) (es : List Entry) (n : ℕ) → same_key e.key key ≡ false → Placed key es n
    → Placed key (e ∷ es) (suc n)
later-placed key e es n is p = record {
  there = omega (arith, p.there);
  heard = λ d. rw is (p.heard d);
  replaced = λ g. rw is (ap (λ (r : List Entry). e ∷ r) (p.replaced g));
  taken = rw is (ap (λ (r : List Entry). e ∷ r) p.taken);
}

placed-by : (t : Bool) (o : Option ℕ) (key : TxKey) (e : Entry) (es : List Entry) (n : ℕ) → same_key e.key key ≡ t
    → place_of key es ≡ o → ((m : ℕ) → place_of key es ≡ Some m → Placed key es m)
    → (if t then Some 0 else option_map (λ m. suc m) o) ≡ Some n → Placed key (e ∷ es) n
placed-by true o key e es n is at later told =
    let same : 0 ≡ n = cc in subst (λ k. Placed key (e ∷ es) k) same (first-placed key e es is)
placed-by false None key e es n is at later told = absurd (cc)
placed-by false (Some m) key e es n is at later told =
    let same : suc m ≡ n = cc in
    subst (λ k. Placed key (e ∷ es) k) same (later-placed key e es m is (later m at))

pub placed : (key : TxKey) (es : List Entry) (n : ℕ) → place_of key es ≡ Some n → Placed key es n
placed key [] n told = absurd (cc)
placed key (e ∷ es) n told =
    placed-by (same_key e.key key) (place_of key es) key e es n refl refl (placed key es) told

-- ---- where none waits

pub record Unplaced (key : TxKey) (es : List Entry) : Type 0 where
  pub heard : heard_under key es ≡ None
  pub pushed : (g : Gathering) → es ++ under key g ∷ [] ≡ put (under key g) es
  pub none : NoneUnder key es

later-unplaced : (key : TxKey) (e : Entry) (es : List Entry) → same_key e.key key ≡ false → Unplaced key es
    → Unplaced key (e ∷ es)
later-unplaced key e es is u = record {
  heard = rw is u.heard;
  pushed = λ g. rw is (ap (λ (r : List Entry). e ∷ r) (u.pushed g));
  none = (is, u.none);
}

unplaced-by : (t : Bool) (o : Option ℕ) (key : TxKey) (e : Entry) (es : List Entry) → same_key e.key key ≡ t
    → place_of key es ≡ o → (place_of key es ≡ None → Unplaced key es)
    → (if t then Some 0 else option_map (λ m. suc m) o) ≡ None → Unplaced key (e ∷ es)
unplaced-by true o key e es is at later told = absurd (cc)
unplaced-by false None key e es is at later told = later-unplaced key e es is (later at)
unplaced-by false (Some m) key e es is at later told = absurd (cc)

pub unplaced : (key : TxKey) (es : List Entry) → place_of key es ≡ None → Unplaced key es
unplaced key [] told = record { heard = refl; pushed = λ g. refl; none = tt }
unplaced key (e ∷ es) told =
    unplaced-by (same_key e.key key) (place_of key es) key e es refl refl (unplaced key es) told

-- ---- the place, sought one after the other
