-- Whatever happened, what waits is tracked, and what is passed on was said by all.
use Rattle.std.proofs.Common.{◌≡◌, ◌∙◌, ◌≤◌, ◌<◌, ◌-◌, ◌⊎◌, inl, inr, ℕ, zero, suc, Bool, true, false, List, [], ◌∷◌, length, get_or, refl, sym, ap, subst, arith}
use Rattle.std.specs.Prelude.{Option, Some, None, ◌&&◌, nat_lt, if◌then◌else◌}
use Rattle.std.specs.List.{AllByRecursion, list_any, list_all}
use Rattle.std.proofs.lemmas.Grind.{common_steps}
use Rattle.std.proofs.lemmas.Bool.{cases_lt, and_parts}
use Rattle.iso_order.specs.declared.key.TxKey.{TxKey}
use Rattle.iso_order.specs.Key.{same_key}
use Rattle.iso_front.specs.declared.gathering.Heard.{Heard}
use Rattle.iso_front.specs.declared.gathering.Heard.TheVariants.{Unasked, Nothing}
use Rattle.iso_front.specs.declared.gathering.Joint.{Joint}
use Rattle.iso_front.specs.declared.gathering.Joint.TheVariants.{Waits, Same, Differ}
use Rattle.iso_front.specs.declared.route.Route.{Route}
use Rattle.iso_front.specs.Gathering.{at_first, was_asked, is_asked, agrees, is_nothing, heard_from, joint}
use Rattle.iso_front.specs.Routing.{goes_to}
use Rattle.iso_relay.specs.declared.entry.Entry.{Entry}
use Rattle.iso_relay.specs.declared.decision.Decision.TheVariants.{PassOn}
use Rattle.iso_relay.specs.Entries.{most_pending, key_of, entry, first_heard, heard_under, AreApart, put, without, asked, asked_under, decided, left, left_by}
use Rattle.iso_relay.specs.History.{Event, entries_after, last_said, IsSaidByAll}
use Rattle.iso_relay.specs.History.Event.{Asks, Says}
use Rattle.iso_relay.proofs.Keys.{same_key_is, other_way}
use Rattle.iso_relay.proofs.Putting.{all-put, all-without, all-drop, apart-put, apart-without, apart-drop}
use Rattle.iso_relay.proofs.Tables.{passed}
use Rattle.iso_relay.proofs.Saying.{IsTracked, heard_since, was-since, just-asked, still-tracked, other-said, said-tracked, said-heard, said-long, number-is}

pub record IsSound (count : ℕ) (events : List Event) (es : List Entry) : Type 0 where
  pub tracked : AllByRecursion (IsTracked count events) es
  pub apart : AreApart es

-- ---- the one under a key

under-by : (t : Bool) (P : Entry → Type 0) (key : TxKey) (e : Entry) (es : List Entry) (h : List Heard) → same_key e.key key ≡ t
    → P e → (heard_under key es ≡ Some h → P (entry key h))
    → (if t then Some e.gathering.heard else heard_under key es) ≡ Some h → P (entry key h)
under-by true P key e es h is here later told =
    let same : e.gathering.heard ≡ h = cc in
    subst (λ x. P (entry key x)) same (subst (λ k. P (entry k e.gathering.heard)) (same_key_is e.key key is) here)
under-by false P key e es h is here later told = later told

all-under : (P : Entry → Type 0) (key : TxKey) (es : List Entry) (h : List Heard) → heard_under key es ≡ Some h
    → AllByRecursion P es → P (entry key h)
all-under P key [] h told all = absurd (cc)
all-under P key (e ∷ es) h told all =
    under-by (same_key e.key key) P key e es h refl all.0 (λ t. all-under P key es h t all.1) told

put-same-by : (t : Bool) (key : TxKey) (e : Entry) (es : List Entry) (h : List Heard) → same_key e.key key ≡ t
    → (heard_under key es ≡ Some h → put (entry key h) es ≡ es)
    → (if t then Some e.gathering.heard else heard_under key es) ≡ Some h
    → (if t then entry key h ∷ es else e ∷ put (entry key h) es) ≡ e ∷ es
put-same-by true key e es h is later told =
    let same : e.gathering.heard ≡ h = cc in
    sym (ap (λ k. entry k e.gathering.heard ∷ es) (same_key_is e.key key is) ∙ ap (λ x. entry key x ∷ es) same)
put-same-by false key e es h is later told = ap (λ (r : List Entry). e ∷ r) (later told)

put-same : (key : TxKey) (es : List Entry) (h : List Heard) → heard_under key es ≡ Some h → put (entry key h) es ≡ es
put-same key [] h told = absurd (cc)
put-same key (e ∷ es) h told =
    put-same-by (same_key e.key key) key e es h refl (put-same key es h) told

none-by : (t : Bool) (P Q : Entry → Type 0) (key : TxKey) (e : Entry) (es : List Entry) → same_key e.key key ≡ t
    → ((y : Entry) → same_key y.key key ≡ false → P y → Q y) → P e
    → (heard_under key es ≡ None → AllByRecursion Q es)
    → (if t then Some e.gathering.heard else heard_under key es) ≡ None → AllByRecursion Q (e ∷ es)
none-by true P Q key e es is step here later told = absurd (cc)
none-by false P Q key e es is step here later told = (step e is here, later told)

all-none : (P Q : Entry → Type 0) (key : TxKey) (es : List Entry) → heard_under key es ≡ None
    → ((y : Entry) → same_key y.key key ≡ false → P y → Q y) → AllByRecursion P es → AllByRecursion Q es
all-none P Q key [] told step all = tt
all-none P Q key (e ∷ es) told step all =
    none-by (same_key e.key key) P Q key e es refl step all.0 (λ t. all-none P Q key es t step all.1) told

all-step : (P Q : Entry → Type 0) (es : List Entry) → ((y : Entry) → P y → Q y) → AllByRecursion P es → AllByRecursion Q es
all-step P Q [] step all = tt
all-step P Q (e ∷ es) step all = (step e all.0, all-step P Q es step all.1)

-- ---- shards are asked

sound-asked : (k : Option TxKey) (count : ℕ) (events : List Event) (route : Route) (es : List Entry) → key_of route ≡ k
    → IsSound count events es → IsSound count (Asks route ∷ events) (asked_under route count es k)
sound-asked None count events route es is s = record {
  tracked = all-step (IsTracked count events) (IsTracked count (Asks route ∷ events)) es
      (λ y t. still-tracked count events y (Asks route) (rw is refl) (λ n later. refl) t) s.tracked;
  apart = s.apart;
}
sound-asked (Some key) count events route es is s =
    let x : Entry = entry key (first_heard route count) in
    record {
      tracked = all-drop (IsTracked count (Asks route ∷ events)) (length (put x es) - most_pending) (put x es)
          (all-put (IsTracked count events) (IsTracked count (Asks route ∷ events)) x es s.apart
          (λ y other t. still-tracked count events y (Asks route) (rw is (other_way y.key key other)) (λ n later. refl) t)
          (just-asked count events route key is) s.tracked);
      apart = apart-drop (length (put x es) - most_pending) (put x es) (apart-put x es s.apart);
    }

-- ---- a shard answers

other-tracked : (count shard : ℕ) (key : TxKey) (code : ℕ) (events : List Event) (y : Entry) → same_key y.key key ≡ false
    → IsTracked count events y → IsTracked count (Says shard key code ∷ events) y
other-tracked count shard key code events y other t =
    still-tracked count events y (Says shard key code) refl
    (λ n later. other-said shard key y.key code n later (other_way y.key key other)) t

tracked-put : (count shard : ℕ) (key : TxKey) (code : ℕ) (events : List Event) (es : List Entry) (h : List Heard)
    → heard_under key es ≡ Some h → IsSound count events es
    → AllByRecursion (IsTracked count (Says shard key code ∷ events)) (put (entry key (heard_from shard code h)) es)
tracked-put count shard key code events es h told s =
    all-put (IsTracked count events) (IsTracked count (Says shard key code ∷ events)) (entry key (heard_from shard code h)) es s.apart
    (other-tracked count shard key code events)
    (said-tracked count shard key code events h (all-under (IsTracked count events) key es h told s.tracked)) s.tracked

tracked-without : (count shard : ℕ) (key : TxKey) (code : ℕ) (events : List Event) (es : List Entry) → IsSound count events es
    → IsSound count (Says shard key code ∷ events) (without key es)
tracked-without count shard key code events es s = record {
  tracked = all-without (IsTracked count events) (IsTracked count (Says shard key code ∷ events)) key es s.apart
      (other-tracked count shard key code events) s.tracked;
  apart = apart-without key es s.apart;
}

sound-joint : (j : Joint) (count shard : ℕ) (key : TxKey) (code : ℕ) (events : List Event) (es : List Entry) (h : List Heard)
    → heard_under key es ≡ Some h → IsSound count events es
    → IsSound count (Says shard key code ∷ events) (left_by j key (heard_from shard code h) es)
sound-joint Waits count shard key code events es h told s = record {
  tracked = tracked-put count shard key code events es h told s;
  apart = apart-put (entry key (heard_from shard code h)) es s.apart;
}
sound-joint Same count shard key code events es h told s = tracked-without count shard key code events es s
sound-joint Differ count shard key code events es h told s = tracked-without count shard key code events es s

sound-heard : (b : Bool) (count shard : ℕ) (key : TxKey) (code : ℕ) (events : List Event) (es : List Entry) (h : List Heard)
    → is_asked shard h ≡ b → heard_under key es ≡ Some h → IsSound count events es
    → IsSound count (Says shard key code ∷ events)
    (if b then left_by (joint code (heard_from shard code h)) key (heard_from shard code h) es else es)
sound-heard true count shard key code events es h is told s =
    sound-joint (joint code (heard_from shard code h)) count shard key code events es h told s
sound-heard false count shard key code events es h is told s =
    let unheard : heard_from shard code h ≡ h = rw is refl in
    let all = tracked-put count shard key code events es h told s in
    record {
      tracked =
          subst (AllByRecursion (IsTracked count (Says shard key code ∷ events)))
          (ap (λ x. put (entry key x) es) unheard ∙ put-same key es h told) all;
      apart = s.apart;
    }

sound-said : (o : Option (List Heard)) (count shard : ℕ) (key : TxKey) (code : ℕ) (events : List Event) (es : List Entry)
    → heard_under key es ≡ o → IsSound count events es
    → IsSound count (Says shard key code ∷ events) (left shard key code es o)
sound-said None count shard key code events es told s = record {
  tracked = all-none (IsTracked count events) (IsTracked count (Says shard key code ∷ events)) key es told
      (other-tracked count shard key code events) s.tracked;
  apart = s.apart;
}
sound-said (Some h) count shard key code events es told s =
    sound-heard (is_asked shard h) count shard key code events es h refl told s

sound : (count : ℕ) (events : List Event) → IsSound count events (entries_after count events)
sound count [] = record { tracked = tt; apart = tt }
sound count (Asks route ∷ events) =
    sound-asked (key_of route) count events route (entries_after count events) refl (sound count events)
sound count (Says shard key code ∷ events) =
    let es : List Entry = entries_after count events in
    sound-said (heard_under key es) count shard key code events es refl (sound count events)

-- ---- what is passed on

joint-same : (a b : Bool) → (if a then Waits else if b then Same else Differ) ≡ Same → b ≡ true
joint-same true b told = absurd (cc)
joint-same false true told = refl
joint-same false false told = absurd (cc)

all-at : (test : Heard → Bool) (xs : List Heard) (n : ℕ) (d : Heard) → list_all test xs ≡ true → n < length xs
    → test (get_or xs n d) ≡ true
all-at test [] n d all below = absurd (omega (arith, below))
all-at test (x ∷ xs) zero d all below = (and_parts (test x) (list_all test xs) all).0
all-at test (x ∷ xs) (suc n) d all below =
    all-at test xs n d (and_parts (test x) (list_all test xs) all).1 (omega (arith, below))

code-said : (o : Option ℕ) (code : ℕ) → agrees code (heard_since Nothing o) ≡ true → o ≡ Some code
code-said None code told = absurd (cc)
code-said (Some c) code told = ap (λ n. Some n) (number-is c code told)

lt-true : (a b : ℕ) → a < b → nat_lt a b ≡ true
lt-true a b below = grind (arith, common_steps)

true-lt : (a b : ℕ) → nat_lt a b ≡ true → a < b
true-lt a b is = grind (arith, common_steps)

is-first : (b c : Bool) → b ≡ true → c ≡ true → (if b && c then Nothing else Unasked) ≡ Nothing
is-first b c p q = rw (p, q) refl

first-asked : (b : Bool) → was_asked (if b then Nothing else Unasked) ≡ true → b ≡ true
first-asked true told = refl
first-asked false told = absurd (cc)

past-end : (xs : List Heard) (n : ℕ) → length xs ≤ n → get_or xs n Unasked ≡ Unasked
past-end [] n past = refl
past-end (x ∷ xs) zero past = absurd (omega (arith, past))
past-end (x ∷ xs) (suc n) past = past-end xs n (omega (arith, past))

within : (h : List Heard) (shard : ℕ) → is_asked shard h ≡ true → (shard < length h) ⊎ (length h ≤ shard) → shard < length h
within h shard asked (inl below) = below
within h shard asked (inr past) =
    let none : was_asked (get_or h shard Unasked) ≡ false = rw (past-end h shard past) refl in absurd (cc)

-- a shard that was asked is one of the route's
was-asked : (count shard : ℕ) (key : TxKey) (events : List Event) (h : List Heard) (t : IsTracked count events (entry key h))
    → is_asked shard h ≡ true → (shard < count) × (goes_to t.route shard ≡ true)
was-asked count shard key events h t asked =
    let below : shard < length h = within h shard asked (cases_lt shard (length h)) in
    let since : was_asked (at_first t.route count shard) ≡ true =
    sym (was-since (at_first t.route count shard) (last_said shard key t.later))
    ∙ ap was_asked (sym (t.heard shard (rw (← t.long) below))) ∙ asked in
    let both = and_parts (nat_lt shard count) (goes_to t.route shard) (first-asked (nat_lt shard count && goes_to t.route shard) since) in
    (true-lt shard count both.0, both.1)

-- by what a shard is heard to say that was asked at first
agreed-said : (start : Heard) (o : Option ℕ) (x : Heard) (code : ℕ) → start ≡ Nothing → x ≡ heard_since start o
    → agrees code x ≡ true → o ≡ Some code
agreed-said start o x code first was agreed =
    code-said o code (subst (λ s. agrees code (heard_since s o) ≡ true) first (subst (λ y. agrees code y ≡ true) was agreed))

said-of-all : (count shard : ℕ) (key : TxKey) (code : ℕ) (events : List Event) (h : List Heard) → count ≤ 64
    → IsTracked count events (entry key h) → is_asked shard h ≡ true → joint code (heard_from shard code h) ≡ Same
    → IsSaidByAll count shard key code (Says shard key code ∷ events)
said-of-all count shard key code events h few t was same =
    let new : List Heard = heard_from shard code h in
    let long : length new ≡ 64 = said-long count shard key code events h t in
    let all : list_all (agrees code) new ≡ true = joint-same (list_any is_nothing new) (list_all (agrees code) new) same in
    let own = was-asked count shard key events h t was in
    record {
      later = Says shard key code ∷ t.later;
      route = t.route;
      earlier = t.earlier;
      split = ap (λ (es : List Event). Says shard key code ∷ es) t.split;
      under = t.under;
      last = t.last;
      there = own.0;
      asked = own.1;
      said = λ n below goes.
          agreed-said (at_first t.route count n) (last_said n key (Says shard key code ∷ t.later)) (get_or new n Unasked) code
          (is-first (nat_lt n count) (goes_to t.route n) (lt-true n count below) goes)
          (said-heard count shard key code events h t n (omega (arith, below, few)))
          (all-at (agrees code) new n Unasked all (omega (arith, long, below, few)));
    }

pub said-by-all : (count shard : ℕ) (key : TxKey) (code : ℕ) (events : List Event) (es : List Entry) → count ≤ 64
    → es ≡ entries_after count events → decided shard code (heard_under key es) ≡ PassOn
    → IsSaidByAll count shard key code (Says shard key code ∷ events)
said-by-all count shard key code events es few is told =
    let p = passed (heard_under key es) shard code told in
    let s : IsSound count events es = subst (IsSound count events) (sym is) (sound count events) in
    said-of-all count shard key code events p.heard few (all-under (IsTracked count events) key es p.heard p.there s.tracked)
    p.asked p.same
