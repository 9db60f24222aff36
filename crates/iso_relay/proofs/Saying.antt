-- What waits was asked, and what was heard was said.
use Rattle.std.proofs.Common.{◌≡◌, ◌≢◌, ◌∙◌, ◌<◌, ℕ, Bool, true, false, List, [], ◌∷◌, ◌++◌, length, get_or, set, refl, sym, ap, subst, arith}
use Rattle.std.specs.Prelude.{Option, Some, None, ◌==◌, ◌&&◌, if◌then◌else◌}
use Rattle.std.specs.List.{list_any}
use Rattle.std.proofs.lemmas.List.{get_or-set_same, get_or-set_other, length-set}
use Rattle.std.proofs.lemmas.List.FromFn.{get_or-map-range_with_len, length-map-range_with_len}
use Rattle.std.proofs.lemmas.Grind.{common_steps}
use Rattle.iso_order.specs.declared.key.TxKey.{TxKey}
use Rattle.iso_order.specs.Key.{same_key}
use Rattle.iso_front.specs.declared.gathering.Heard.{Heard}
use Rattle.iso_front.specs.declared.gathering.Heard.TheVariants.{Unasked, Nothing, Code}
use Rattle.iso_front.specs.declared.route.Route.{Route}
use Rattle.iso_front.specs.Gathering.{at_first, was_asked, is_asked, heard_from}
use Rattle.iso_relay.specs.declared.entry.Entry.{Entry}
use Rattle.iso_relay.specs.Entries.{key_of, entry, first_heard}
use Rattle.iso_relay.specs.History.{Event, asks_under, last_said}
use Rattle.iso_relay.specs.History.Event.{Asks, Says}
use Rattle.iso_relay.proofs.Keys.{same_key_self}

-- what was heard of a shard, by what it was at first and what the shard said last
abbrev pub heard_since : Heard → Option ℕ → Heard
heard_since start None = start
heard_since start (Some code) = if was_asked start then Code code else start

-- a request that waits: since shards were last asked under its key, what was heard is what they said last
pub record IsTracked (count : ℕ) (events : List Event) (e : Entry) : Type 0 where
  pub later : List Event
  pub route : Route
  pub earlier : List Event
  pub split : events ≡ later ++ Asks route ∷ earlier
  pub under : key_of route ≡ Some e.key
  pub last : list_any (asks_under e.key) later ≡ false
  pub long : length e.gathering.heard ≡ 64
  pub heard : (n : ℕ) → n < 64
      → get_or e.gathering.heard n Unasked ≡ heard_since (at_first route count n) (last_said n e.key later)

-- ---- one that was asked just now

pub just-asked : (count : ℕ) (events : List Event) (route : Route) (key : TxKey) → key_of route ≡ Some key
    → IsTracked count (Asks route ∷ events) (entry key (first_heard route count))
just-asked count events route key is = record {
  later = [];
  route = route;
  earlier = events;
  split = refl;
  under = is;
  last = refl;
  long = length-map-range_with_len (at_first route count) 0 64;
  heard = λ n below. get_or-map-range_with_len (at_first route count) 0 64 n n Unasked below (omega arith);
}

-- ---- what happens under another key

pub still-tracked : (count : ℕ) (events : List Event) (e : Entry) (event : Event) → asks_under e.key event ≡ false
    → ((n : ℕ) (es : List Event) → last_said n e.key (event ∷ es) ≡ last_said n e.key es)
    → IsTracked count events e → IsTracked count (event ∷ events) e
still-tracked count events e event other silent t = record {
  later = event ∷ t.later;
  route = t.route;
  earlier = t.earlier;
  split = ap (λ (es : List Event). event ∷ es) t.split;
  under = t.under;
  last = rw other t.last;
  long = t.long;
  heard = λ n below. t.heard n below ∙ ap (λ o. heard_since (at_first t.route count n) o) (sym (silent n t.later));
}

both-false : (p q : Bool) → q ≡ false → p && q ≡ false
both-false true q is = is
both-false false q is = refl

pub other-said : (shard : ℕ) (k key : TxKey) (code n : ℕ) (es : List Event) → same_key k key ≡ false
    → last_said n key (Says shard k code ∷ es) ≡ last_said n key es
other-said shard k key code n es other = rw (both-false (shard == n) (same_key k key) other) refl

-- ---- an answer under its key

pub was-since : (start : Heard) (o : Option ℕ) → was_asked (heard_since start o) ≡ was_asked start
was-since Unasked None = refl
was-since Nothing None = refl
was-since (Code c) None = refl
was-since Unasked (Some code) = refl
was-since Nothing (Some code) = refl
was-since (Code c) (Some code) = refl

unasked-since : (start : Heard) (o : Option ℕ) (code : ℕ) → was_asked start ≡ false
    → heard_since start o ≡ heard_since start (Some code)
unasked-since Unasked None code is = refl
unasked-since Unasked (Some c) code is = refl
unasked-since Nothing o code is = absurd (cc)
unasked-since (Code c) o code is = absurd (cc)

pub number-is : (a b : ℕ) → (a == b) ≡ true → a ≡ b
number-is a b h = grind (arith, common_steps)

number-is-not : (a b : ℕ) → (a == b) ≡ false → b ≢ a
number-is-not a b h = grind (arith, common_steps)

-- at the place of the shard that speaks
at-shard : (b : Bool) (shard code : ℕ) (heard : List Heard) (start : Heard) (o : Option ℕ) → is_asked shard heard ≡ b
    → shard < length heard → get_or heard shard Unasked ≡ heard_since start o
    → get_or (if b then set heard shard (Code code) else heard) shard Unasked ≡ heard_since start (Some code)
at-shard true shard code heard start o is below was =
    let asked : was_asked start ≡ true = sym (was-since start o) ∙ ap was_asked (sym was) ∙ is in
    get_or-set_same heard shard (Code code) Unasked below ∙ (rw asked refl)
at-shard false shard code heard start o is below was =
    let asked : was_asked start ≡ false = sym (was-since start o) ∙ ap was_asked (sym was) ∙ is in
    was ∙ unasked-since start o code asked

-- at another place
at-other : (b : Bool) (shard n code : ℕ) (heard : List Heard) → n ≢ shard
    → get_or (if b then set heard shard (Code code) else heard) n Unasked ≡ get_or heard n Unasked
at-other true shard n code heard other = get_or-set_other heard shard n (Code code) Unasked other
at-other false shard n code heard other = refl

heard-at : (b : Bool) (shard n code : ℕ) (key : TxKey) (heard : List Heard) (start : Heard) (es : List Event) → (shard == n) ≡ b
    → n < length heard → get_or heard n Unasked ≡ heard_since start (last_said n key es)
    → get_or (heard_from shard code heard) n Unasked
    ≡ heard_since start (if b && same_key key key then Some code else last_said n key es)
heard-at true shard n code key heard start es is below was =
    let same : n ≡ shard = sym (number-is shard n is) in
    rw (same_key_self key)
    (rw same
    (at-shard (is_asked shard heard) shard code heard start (last_said n key es) refl
    (subst (λ m. m < length heard) same below) (subst (λ m. get_or heard m Unasked ≡ heard_since start (last_said n key es)) same was)))
heard-at false shard n code key heard start es is below was =
    at-other (is_asked shard heard) shard n code heard (number-is-not shard n is) ∙ was

length-by : (b : Bool) (shard code : ℕ) (heard : List Heard)
    → length (if b then set heard shard (Code code) else heard) ≡ length heard
length-by true shard code heard = length-set heard shard (Code code)
length-by false shard code heard = refl

pub said-tracked : (count shard : ℕ) (key : TxKey) (code : ℕ) (events : List Event) (heard : List Heard)
    → IsTracked count events (entry key heard)
    → IsTracked count (Says shard key code ∷ events) (entry key (heard_from shard code heard))
said-tracked count shard key code events heard t = record {
  later = Says shard key code ∷ t.later;
  route = t.route;
  earlier = t.earlier;
  split = ap (λ (es : List Event). Says shard key code ∷ es) t.split;
  under = t.under;
  last = t.last;
  long = length-by (is_asked shard heard) shard code heard ∙ t.long;
  heard = λ n below.
      heard-at (shard == n) shard n code key heard (at_first t.route count n) t.later refl (rw t.long below) (t.heard n below);
}

-- the events behind the last asking are those of before and the answer
pub said-heard : (count shard : ℕ) (key : TxKey) (code : ℕ) (events : List Event) (heard : List Heard)
    (t : IsTracked count events (entry key heard)) (n : ℕ) → n < 64
    → get_or (heard_from shard code heard) n Unasked
    ≡ heard_since (at_first t.route count n) (last_said n key (Says shard key code ∷ t.later))
said-heard count shard key code events heard t n below =
    heard-at (shard == n) shard n code key heard (at_first t.route count n) t.later refl (rw t.long below) (t.heard n below)

pub said-long : (count shard : ℕ) (key : TxKey) (code : ℕ) (events : List Event) (heard : List Heard)
    → IsTracked count events (entry key heard) → length (heard_from shard code heard) ≡ 64
said-long count shard key code events heard t = length-by (is_asked shard heard) shard code heard ∙ t.long
