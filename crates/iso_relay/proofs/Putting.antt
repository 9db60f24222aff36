-- What waits under which key, after one is put or taken out.
use Rattle.std.proofs.Common.{◌≡◌, ◌≤◌, ◌+◌, ℕ, zero, suc, Bool, true, false, List, [], ◌∷◌, length, drop, refl, sym, subst, arith}
use Rattle.std.specs.Prelude.{Some, None, if◌then◌else◌}
use Rattle.std.specs.List.{AllByRecursion}
use Rattle.iso_order.specs.declared.key.TxKey.{TxKey}
use Rattle.iso_order.specs.Key.{same_key}
use Rattle.iso_front.specs.declared.gathering.Heard.{Heard}
use Rattle.iso_relay.specs.declared.entry.Entry.{Entry}
use Rattle.iso_relay.specs.Entries.{heard_under, NoneUnder, AreApart, put, without}
use Rattle.iso_relay.proofs.Keys.{same_key_is, other_way}

-- ---- what holds of all

pub all-put-by : (t : Bool) (P Q : Entry → Type 0) (x e : Entry) (es : List Entry) → same_key e.key x.key ≡ t
    → NoneUnder e.key es → ((y : Entry) → same_key y.key x.key ≡ false → P y → Q y) → Q x → P e
    → AllByRecursion P es → AllByRecursion Q (put x es)
    → ((k : TxKey) → k ≡ x.key → NoneUnder k es → AllByRecursion P es → AllByRecursion Q es)
    → AllByRecursion Q (if t then x ∷ es else e ∷ put x es)
all-put-by true P Q x e es is none step here one all later rest =
    (here, rest e.key (same_key_is e.key x.key is) none all)
all-put-by false P Q x e es is none step here one all later rest = (step e is one, later)

-- those of other keys
pub all-others : (P Q : Entry → Type 0) (key k : TxKey) (es : List Entry) → k ≡ key → NoneUnder k es
    → ((y : Entry) → same_key y.key key ≡ false → P y → Q y) → AllByRecursion P es → AllByRecursion Q es
all-others P Q key k [] same none step all = tt
all-others P Q key k (e ∷ es) same none step all =
    (step e (subst (λ j. same_key e.key j ≡ false) same none.0) all.0, all-others P Q key k es same none.1 step all.1)

pub all-put : (P Q : Entry → Type 0) (x : Entry) (es : List Entry) → AreApart es
    → ((y : Entry) → same_key y.key x.key ≡ false → P y → Q y) → Q x
    → AllByRecursion P es → AllByRecursion Q (put x es)
all-put P Q x [] apart step here all = (here, tt)
all-put P Q x (e ∷ es) apart step here all =
    all-put-by (same_key e.key x.key) P Q x e es refl apart.0 step here all.0 all.1
    (all-put P Q x es apart.1 step here all.1)
    (λ k same none rest. all-others P Q x.key k es same none step rest)

all-without-by : (t : Bool) (P Q : Entry → Type 0) (key : TxKey) (e : Entry) (es : List Entry) → same_key e.key key ≡ t
    → NoneUnder e.key es → ((y : Entry) → same_key y.key key ≡ false → P y → Q y) → P e
    → AllByRecursion P es → AllByRecursion Q (without key es)
    → AllByRecursion Q (if t then es else e ∷ without key es)
all-without-by true P Q key e es is none step one all later =
    all-others P Q key e.key es (same_key_is e.key key is) none step all
all-without-by false P Q key e es is none step one all later = (step e is one, later)

pub all-without : (P Q : Entry → Type 0) (key : TxKey) (es : List Entry) → AreApart es
    → ((y : Entry) → same_key y.key key ≡ false → P y → Q y)
    → AllByRecursion P es → AllByRecursion Q (without key es)
all-without P Q key [] apart step all = tt
all-without P Q key (e ∷ es) apart step all =
    all-without-by (same_key e.key key) P Q key e es refl apart.0 step all.0 all.1
    (all-without P Q key es apart.1 step all.1)

pub all-drop : (P : Entry → Type 0) (n : ℕ) (es : List Entry) → AllByRecursion P es → AllByRecursion P (drop n es)
all-drop P zero es all = all
all-drop P (suc n) [] all = tt
all-drop P (suc n) (e ∷ es) all = all-drop P n es all.1

-- ---- no two under one key

none-put-by : (t : Bool) (k : TxKey) (x e : Entry) (es : List Entry) → same_key x.key k ≡ false
    → NoneUnder k (e ∷ es) → NoneUnder k (put x es) → NoneUnder k (if t then x ∷ es else e ∷ put x es)
none-put-by true k x e es other none later = (other, none.1)
none-put-by false k x e es other none later = (none.0, later)

none-put : (k : TxKey) (x : Entry) (es : List Entry) → same_key x.key k ≡ false → NoneUnder k es → NoneUnder k (put x es)
none-put k x [] other none = (other, tt)
none-put k x (e ∷ es) other none =
    none-put-by (same_key e.key x.key) k x e es other none (none-put k x es other none.1)

apart-put-by : (t : Bool) (x e : Entry) (es : List Entry) → same_key e.key x.key ≡ t → NoneUnder e.key es → AreApart es
    → AreApart (put x es) → AreApart (if t then x ∷ es else e ∷ put x es)
apart-put-by true x e es is none apart later = (subst (λ k. NoneUnder k es) (same_key_is e.key x.key is) none, apart)
apart-put-by false x e es is none apart later = (none-put e.key x es (other_way e.key x.key is) none, later)

pub apart-put : (x : Entry) (es : List Entry) → AreApart es → AreApart (put x es)
apart-put x [] apart = (tt, tt)
apart-put x (e ∷ es) apart = apart-put-by (same_key e.key x.key) x e es refl apart.0 apart.1 (apart-put x es apart.1)

none-without-by : (t : Bool) (k key : TxKey) (e : Entry) (es : List Entry) → NoneUnder k (e ∷ es)
    → NoneUnder k (without key es) → NoneUnder k (if t then es else e ∷ without key es)
none-without-by true k key e es none later = none.1
none-without-by false k key e es none later = (none.0, later)

none-without : (k key : TxKey) (es : List Entry) → NoneUnder k es → NoneUnder k (without key es)
none-without k key [] none = tt
none-without k key (e ∷ es) none =
    none-without-by (same_key e.key key) k key e es none (none-without k key es none.1)

apart-without-by : (t : Bool) (key : TxKey) (e : Entry) (es : List Entry) → AreApart (e ∷ es)
    → AreApart (without key es) → AreApart (if t then es else e ∷ without key es)
apart-without-by true key e es apart later = apart.1
apart-without-by false key e es apart later = (none-without e.key key es apart.0, later)

pub apart-without : (key : TxKey) (es : List Entry) → AreApart es → AreApart (without key es)
apart-without key [] apart = tt
apart-without key (e ∷ es) apart =
    apart-without-by (same_key e.key key) key e es apart (apart-without key es apart.1)

pub apart-drop : (n : ℕ) (es : List Entry) → AreApart es → AreApart (drop n es)
apart-drop zero es apart = apart
apart-drop (suc n) [] apart = tt
apart-drop (suc n) (e ∷ es) apart = apart-drop n es apart.1

-- ---- how many

length-put-by : (t : Bool) (x e : Entry) (es : List Entry) → length (put x es) ≤ length es + 1
    → length (if t then x ∷ es else e ∷ put x es) ≤ length (e ∷ es) + 1
length-put-by true x e es later = omega arith
length-put-by false x e es later = omega (arith, later)

pub length-put : (x : Entry) (es : List Entry) → length (put x es) ≤ length es + 1
length-put x [] = omega arith
length-put x (e ∷ es) = length-put-by (same_key e.key x.key) x e es (length-put x es)

length-there-by : (t : Bool) (x e : Entry) (es : List Entry) (h : List Heard)
    → (heard_under x.key es ≡ Some h → length (put x es) ≡ length es)
    → (if t then Some e.gathering.heard else heard_under x.key es) ≡ Some h
    → length (if t then x ∷ es else e ∷ put x es) ≡ length (e ∷ es)
length-there-by true x e es h later told = omega arith
length-there-by false x e es h later told = let more = later told in omega (arith, more)

pub length-there : (x : Entry) (es : List Entry) (h : List Heard) → heard_under x.key es ≡ Some h
    → length (put x es) ≡ length es
length-there x [] h told = absurd (cc)
length-there x (e ∷ es) h told = length-there-by (same_key e.key x.key) x e es h (length-there x es h) told

length-without-by : (t : Bool) (key : TxKey) (e : Entry) (es : List Entry) → length (without key es) ≤ length es
    → length (if t then es else e ∷ without key es) ≤ length (e ∷ es)
length-without-by true key e es later = omega arith
length-without-by false key e es later = omega (arith, later)

pub length-without : (key : TxKey) (es : List Entry) → length (without key es) ≤ length es
length-without key [] = omega arith
length-without key (e ∷ es) = length-without-by (same_key e.key key) key e es (length-without key es)

-- ---- what is heard under a key

pub none-heard : (key : TxKey) (es : List Entry) → NoneUnder key es → heard_under key es ≡ None
none-heard key [] none = refl
none-heard key (e ∷ es) none = rw none.0 (none-heard key es none.1)

put-others-by : (t : Bool) (k : TxKey) (x e : Entry) (es : List Entry) → same_key e.key x.key ≡ t → same_key x.key k ≡ false
    → heard_under k (put x es) ≡ heard_under k es
    → heard_under k (if t then x ∷ es else e ∷ put x es) ≡ heard_under k (e ∷ es)
put-others-by true k x e es is other later =
    let here : same_key e.key k ≡ false = subst (λ j. same_key j k ≡ false) (sym (same_key_is e.key x.key is)) other in
    rw (other, here) refl
put-others-by false k x e es is other later = rw later refl

pub put-others : (k : TxKey) (x : Entry) (es : List Entry) → same_key x.key k ≡ false
    → heard_under k (put x es) ≡ heard_under k es
put-others k x [] other = rw other refl
put-others k x (e ∷ es) other = put-others-by (same_key e.key x.key) k x e es refl other (put-others k x es other)

without-others-by : (t : Bool) (k key : TxKey) (e : Entry) (es : List Entry) → same_key e.key key ≡ t
    → same_key key k ≡ false → heard_under k (without key es) ≡ heard_under k es
    → heard_under k (if t then es else e ∷ without key es) ≡ heard_under k (e ∷ es)
without-others-by true k key e es is other later =
    let here : same_key e.key k ≡ false = subst (λ j. same_key j k ≡ false) (sym (same_key_is e.key key is)) other in
    rw here refl
without-others-by false k key e es is other later = rw later refl

pub without-others : (k key : TxKey) (es : List Entry) → same_key key k ≡ false
    → heard_under k (without key es) ≡ heard_under k es
without-others k key [] other = refl
without-others k key (e ∷ es) other =
    without-others-by (same_key e.key key) k key e es refl other (without-others k key es other)

without-self-by : (t : Bool) (key : TxKey) (e : Entry) (es : List Entry) → same_key e.key key ≡ t → NoneUnder e.key es
    → heard_under key (without key es) ≡ None → heard_under key (if t then es else e ∷ without key es) ≡ None
without-self-by true key e es is none later =
    none-heard key es (subst (λ k. NoneUnder k es) (same_key_is e.key key is) none)
without-self-by false key e es is none later = rw is later

pub without-self : (key : TxKey) (es : List Entry) → AreApart es → heard_under key (without key es) ≡ None
without-self key [] apart = refl
without-self key (e ∷ es) apart =
    without-self-by (same_key e.key key) key e es refl apart.0 (without-self key es apart.1)
