-- What the call computes by the place is what is defined by the key.
use Rattle.std.proofs.Common.{◌≡◌, ◌∙◌, ◌≤◌, ◌<◌, ◌+◌, ◌-◌, ℕ, Bool, true, false, List, [], ◌∷◌, ◌++◌, length, get_or, set, refl, sym, ap, subst, arith, length-set}
use Rattle.std.specs.Prelude.{Option, Some, None, IfSome, if◌then◌else◌, Result, Ok, Err, is_ok, is_err, OnOk, OnErr}
use Rattle.iso_order.specs.Key.{same_key}
use Rattle.std.specs.List.{remove}
use Rattle.iso_order.specs.declared.key.TxKey.{TxKey}
use Rattle.iso_front.specs.declared.gathering.Gathering.{Gathering}
use Rattle.iso_front.specs.declared.gathering.Heard.{Heard}
use Rattle.iso_front.specs.declared.gathering.Joint.{Joint}
use Rattle.iso_front.specs.Gathering.{is_asked, heard_from, joint}
use Rattle.iso_relay.specs.declared.entry.Entry.{Entry}
use Rattle.iso_relay.specs.declared.decision.Decision.{Decision}
use Rattle.iso_relay.specs.declared.decision.Decision.TheVariants.{Drop}
use Rattle.iso_relay.specs.Entries.{most_pending, IsTable, place_of, heard_under, put, without, newest, decided, decided_by, left, left_by, answered}
use Rattle.iso_relay.proofs.Places.{placed, unplaced}
use Rattle.iso_relay.proofs.Putting.{length-put, put-others}
use Rattle.iso_relay.proofs.Tables.{table, all-newest, put-newest}

-- both at once
pub record Is (shard : ℕ) (key : TxKey) (code : ℕ) (es new : List Entry) (d : Decision) : Type 0 where
  pub decided : d ≡ decided shard code (heard_under key es)
  pub left : new ≡ answered shard key code es

pub none-placed : (shard : ℕ) (key : TxKey) (code : ℕ) (es : List Entry) → place_of key es ≡ None
    → Is shard key code es es Drop
none-placed shard key code es told =
    let none : heard_under key es ≡ None = (unplaced key es told).heard in
    record { decided = rw none refl; left = rw none refl }

unasked-by : (b : Bool) (shard : ℕ) (key : TxKey) (code : ℕ) (es : List Entry) (h : List Heard) → b ≡ false
    → (Drop ≡ (if b then decided_by (joint code (heard_from shard code h)) else Drop))
    × (es ≡ (if b then left_by (joint code (heard_from shard code h)) key (heard_from shard code h) es else es))
unasked-by true shard key code es h is = absurd (cc)
unasked-by false shard key code es h is = (refl, refl)

pub not-asked : (shard : ℕ) (key : TxKey) (code : ℕ) (es : List Entry) (n : ℕ) (e : Entry) → place_of key es ≡ Some n
    → e ≡ get_or es n e → is_asked shard e.gathering.heard ≡ false → Is shard key code es es Drop
not-asked shard key code es n e told is silent =
    let there : heard_under key es ≡ Some e.gathering.heard =
    (placed key es n told).heard e ∙ ap (λ (x : Entry). Some x.gathering.heard) (sym is) in
    let both = unasked-by (is_asked shard e.gathering.heard) shard key code es e.gathering.heard silent in
    record { decided = rw there both.0; left = rw there both.1 }

asked-by : (b : Bool) (j i : Joint) (key : TxKey) (es new : List Entry) (h : List Heard) → b ≡ true → i ≡ j
    → new ≡ left_by j key h es
    → (decided_by j ≡ (if b then decided_by i else Drop)) × (new ≡ (if b then left_by i key h es else es))
asked-by true j i key es new h is same left = (ap decided_by (sym same), left ∙ ap (λ k. left_by k key h es) (sym same))
asked-by false j i key es new h is same left = absurd (cc)

pub was-asked : (j : Joint) (shard : ℕ) (key : TxKey) (code : ℕ) (es new : List Entry) (n : ℕ) (e : Entry) → place_of key es ≡ Some n
    → e ≡ get_or es n e → is_asked shard e.gathering.heard ≡ true → joint code (heard_from shard code e.gathering.heard) ≡ j
    → new ≡ left_by j key (heard_from shard code e.gathering.heard) es → Is shard key code es new (decided_by j)
was-asked j shard key code es new n e told is was same left =
    let h : List Heard = e.gathering.heard in
    let there : heard_under key es ≡ Some h =
    (placed key es n told).heard e ∙ ap (λ (x : Entry). Some x.gathering.heard) (sym is) in
    let both = asked-by (is_asked shard h) j (joint code (heard_from shard code h)) key es new (heard_from shard code h) was same left in
    record { decided = rw there both.0; left = rw there both.1 }

-- one in the place of the earlier
pub set-is : (key : TxKey) (es : List Entry) (n : ℕ) (g : Gathering) → place_of key es ≡ Some n
    → set es n (record { key = key; gathering = g }) ≡ put (record { key = key; gathering = g }) es
set-is key es n g told = (placed key es n told).replaced g

pub taken-is : (key : TxKey) (es : List Entry) (n : ℕ) → place_of key es ≡ Some n → remove es n ≡ without key es
taken-is key es n told = (placed key es n told).taken

-- ---- one that is put

pub put-there : (x : Entry) (es : List Entry) (n : ℕ) → length es ≤ most_pending → place_of x.key es ≡ Some n
    → set es n x ≡ newest (put x es)
put-there x es n few told =
    let p = placed x.key es n told in
    let same : set es n x ≡ put x es = p.replaced x.gathering in
    same ∙ sym (all-newest (put x es) (rw (← same, set-long es n x) few))
  where
    set-long : (es : List Entry) (n : ℕ) (x : Entry) → length (set es n x) ≡ length es
    set-long es n x = length-set es n x

pub push-is : (x : Entry) (es : List Entry) → place_of x.key es ≡ None → es ++ x ∷ [] ≡ put x es
push-is x es told = (unplaced x.key es told).pushed x.gathering

first-ends : (es : List Entry) → length es ≡ most_pending + 1 → remove es 0 ≡ newest es
first-ends es long =
    let one : length es - most_pending ≡ 1 = omega (arith, long) in rw one refl

-- behind the others, with one too many
pub push-ends : (x : Entry) (es new rest : List Entry) → place_of x.key es ≡ None → length es ≤ most_pending
    → new ≡ es ++ x ∷ [] → most_pending < length new → rest ≡ remove new 0 → rest ≡ newest (put x es)
push-ends x es new rest told few pushed many taken =
    let same : new ≡ put x es = pushed ∙ push-is x es told in
    let long : most_pending < length (put x es) = rw same at many in
    taken ∙ ap (λ (r : List Entry). remove r 0) same ∙ first-ends (put x es) (omega (arith, long, length-put x es, few))

-- behind the others, with room
pub push-stays : (x : Entry) (es new : List Entry) → place_of x.key es ≡ None → new ≡ es ++ x ∷ []
    → length new ≤ most_pending → new ≡ newest (put x es)
push-stays x es new told pushed few =
    let same : new ≡ put x es = pushed ∙ push-is x es told in
    same ∙ sym (all-newest (put x es) (rw same at few))

pub pushed : {A B : Type 0} (r : Result A B) (x : Entry) (es new : List Entry) → false ≡ is_err r
    → new ≡ (if is_ok r then es ++ x ∷ [] else es) → new ≡ es ++ x ∷ []
pushed (Ok a) x es new is told = told
pushed (Err b) x es new is told = absurd (cc)

-- ---- asking, by what it answers

pub asked-table : {A B : Type 0} (r : Result A B) (count : ℕ) (x : Entry) (es new : List Entry)
    → OnOk r (new ≡ newest (put x es)) → OnErr r (new ≡ es) → IsTable (table count es) → IsTable (table count new)
asked-table (Ok a) count x es new put same t = rw put (put-newest count x es t)
asked-table (Err b) count x es new put same t = rw same t

asked-some : (o : Option TxKey) (key : TxKey) (x : Entry) (es new : List Entry) → o ≡ Some key → x.key ≡ key
    → new ≡ newest (put x es)
    → IfSome o (λ k. (other : TxKey) → same_key k other ≡ false → length es < most_pending
    → heard_under other new ≡ heard_under other es)
asked-some None key x es new is own told = tt
asked-some (Some k) key x es new is own told =
    λ other apart few.
    let same : k ≡ x.key = some-is k key is ∙ sym own in
    let room : length (put x es) ≤ most_pending = omega (arith, few, length-put x es) in
    ap (λ r. heard_under other r) (told ∙ all-newest (put x es) room)
    ∙ put-others other x es (subst (λ j. same_key j other ≡ false) same apart)
  where
    some-is : (a b : TxKey) → Some a ≡ Some b → a ≡ b
    some-is a b h = cc

pub asked-others : {A B : Type 0} (r : Result A B) (o : Option TxKey) (key : TxKey) (x : Entry) (es new : List Entry)
    → o ≡ Some key → x.key ≡ key → OnOk r (new ≡ newest (put x es))
    → OnOk r (IfSome o (λ k. (other : TxKey) → same_key k other ≡ false → length es < most_pending
    → heard_under other new ≡ heard_under other es))
asked-others (Ok a) o key x es new is own told = asked-some o key x es new is own told
asked-others (Err b) o key x es new is own told = tt
