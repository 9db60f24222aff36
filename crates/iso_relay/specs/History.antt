-- What was asked of shards and what they said, and what may be passed on.
use Rattle.std.specs.Prelude.{◌≡◌, ◌<◌, ℕ, ◌==◌, ◌&&◌, Bool, true, false, List, [], ◌∷◌, ◌++◌}
use Rattle.std.specs.Prelude.{Option, Some, None, if◌then◌else◌}
use Rattle.std.specs.List.{list_any}
use Rattle.iso_order.specs.declared.key.TxKey.{TxKey}
use Rattle.iso_order.specs.Key.{same_key}
use Rattle.iso_front.specs.declared.route.Route.{Route}
use Rattle.iso_front.specs.Routing.{goes_to}
use Rattle.iso_relay.specs.declared.entry.Entry.{Entry}
use Rattle.iso_relay.specs.Entries.{key_of, asked, answered}

-- a request is sent to the shards of its route, or a shard answers one under a key by a code
pub data Event : Type 0 where
  Asks : (route : Route) → Event
  Says : (shard : ℕ) → (key : TxKey) → (code : ℕ) → Event

-- what waits after these events, of which the last one stands first
abbrev pub entries_after : ℕ → List Event → List Entry
entries_after count [] = []
entries_after count (Asks route ∷ es) = asked route count (entries_after count es)
entries_after count (Says shard key code ∷ es) = answered shard key code (entries_after count es)

-- ---- what is to be so, in words that know of no table

-- there is a key, and it is this one
abbrev pub is_key_of : TxKey → Option TxKey → Bool
is_key_of key None = false
is_key_of key (Some k) = same_key k key

-- shards are asked under the key
abbrev pub asks_under : TxKey → Event → Bool
asks_under key (Asks route) = is_key_of key (key_of route)
asks_under key (Says shard k code) = false

-- the last code that the shard said under the key, if it said one
abbrev pub last_said : ℕ → TxKey → List Event → Option ℕ
last_said n key [] = None
last_said n key (Asks route ∷ es) = last_said n key es
last_said n key (Says shard k code ∷ es) =
    if shard == n && same_key k key then Some code else last_said n key es

-- Since shards were last asked under the key, each one that was asked said this code, and nothing
-- else after it; the shard that says it now was asked
pub record IsSaidByAll (count shard : ℕ) (key : TxKey) (code : ℕ)
    (events : List Event) : Type 0 where
  pub later : List Event
  pub route : Route
  pub earlier : List Event
  pub split : events ≡ later ++ Asks route ∷ earlier
  pub under : key_of route ≡ Some key
  pub last : list_any (asks_under key) later ≡ false
  pub there : shard < count
  pub asked : goes_to route shard ≡ true
  pub said : (n : ℕ) → n < count → goes_to route n ≡ true → last_said n key later ≡ Some code
