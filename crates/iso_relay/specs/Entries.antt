-- Requests that were sent to several shards, and wait for what all of them say.
use Rattle.std.specs.Prelude.{◌≡◌, ◌≤◌, ℕ, ◌-◌, false, List, [], ◌∷◌, length, map, drop}
use Rattle.std.specs.Prelude.{Option, Some, None, option_map, suc, if◌then◌else◌}
use Rattle.std.specs.List.{AllByRecursion, range_with_len}
use Rattle.iso_order.specs.declared.key.TxKey.{TxKey}
use Rattle.iso_order.specs.Key.{same_key}
use Rattle.iso_front.specs.declared.gathering.Heard.{Heard}
use Rattle.iso_front.specs.declared.gathering.Joint.{Joint}
use Rattle.iso_front.specs.declared.gathering.Joint.TheVariants.{Waits, Same, Differ}
use Rattle.iso_front.specs.declared.route.Route.{Route}
use Rattle.iso_front.specs.declared.route.Route.TheVariants.{One, All, Nobody, Any, Unanswered, Unreadable}
use Rattle.iso_front.specs.Gathering.{at_first, is_asked, heard_from, joint}
use Rattle.iso_relay.specs.declared.entry.Entry.{Entry}
use Rattle.iso_relay.specs.declared.decision.Decision.{Decision}
use Rattle.iso_relay.specs.declared.decision.Decision.TheVariants.{PassOn, Hold, GiveUp, Drop}

-- so many of them wait at most
abbrev pub most_pending : ℕ
most_pending = 1024

-- how many shards there are, and the requests that wait: the one that was sent first stands before the others
pub record Table : Type 0 where
  pub count : ℕ
  pub entries : List Entry

-- the key under which shards are asked, if some are
abbrev pub key_of : Route → Option TxKey
key_of (One shard key) = Some key
key_of (All key) = Some key
key_of (Nobody key) = None
key_of (Any code) = None
key_of Unanswered = None
key_of Unreadable = None

-- what is heard at first of each shard
abbrev pub first_heard : Route → ℕ → List Heard
first_heard route count = map (at_first route count) (range_with_len 0 64)

-- a request under a key, with what was heard of each shard
abbrev pub entry : TxKey → List Heard → Entry
entry key heard = record { key = key; gathering = record { heard = heard } }

-- ---- the request under a key

-- its place
abbrev pub place_of : TxKey → List Entry → Option ℕ
place_of key [] = None
place_of key (e ∷ es) =
    if same_key e.key key then Some 0 else option_map (λ n. suc n) (place_of key es)

-- what was heard for it
abbrev pub heard_under : TxKey → List Entry → Option (List Heard)
heard_under key [] = None
heard_under key (e ∷ es) = if same_key e.key key then Some e.gathering.heard else heard_under key es

-- none waits under the key
abbrev pub NoneUnder : TxKey → List Entry → Type 0
NoneUnder key es = AllByRecursion (λ e. same_key e.key key ≡ false) es

-- no two wait under one key
abbrev pub AreApart : List Entry → Type 0
AreApart [] = Unit {0}
AreApart (e ∷ es) = NoneUnder e.key es × AreApart es

-- at most 64 shards, at most so many requests, and no two under one key
pub record IsTable (t : Table) : Type 0 where
  pub few : t.count ≤ 64
  pub short : length t.entries ≤ most_pending
  pub apart : AreApart t.entries

-- it takes the place of the one of its key, or stands behind all others
abbrev pub put : Entry → List Entry → List Entry
put x [] = x ∷ []
put x (e ∷ es) = if same_key e.key x.key then x ∷ es else e ∷ put x es

-- the others
abbrev pub without : TxKey → List Entry → List Entry
without key [] = []
without key (e ∷ es) = if same_key e.key key then es else e ∷ without key es

-- as many as may wait: the first ones don't
abbrev pub newest : List Entry → List Entry
newest es = drop (length es - most_pending) es

-- ---- what a call does

-- the shards are asked, if some are; what they said before doesn't count
abbrev pub asked_under : Route → ℕ → List Entry → Option TxKey → List Entry
asked_under route count es None = es
asked_under route count es (Some key) = newest (put (entry key (first_heard route count)) es)

-- what waits after a request was routed
abbrev pub asked : Route → ℕ → List Entry → List Entry
asked route count es = asked_under route count es (key_of route)

-- what comes of what all shards say together
abbrev pub decided_by : Joint → Decision
decided_by Waits = Hold
decided_by Same = PassOn
decided_by Differ = GiveUp

-- an answer of a shard is heard if it was asked under the key
abbrev pub decided : ℕ → ℕ → Option (List Heard) → Decision
decided shard code None = Drop
decided shard code (Some heard) =
    if is_asked shard heard then decided_by (joint code (heard_from shard code heard)) else Drop

-- one that waits is kept with what was heard; else nothing more is passed on under the key
abbrev pub left_by : Joint → TxKey → List Heard → List Entry → List Entry
left_by Waits key heard es = put (entry key heard) es
left_by Same key heard es = without key es
left_by Differ key heard es = without key es

-- what waits after an answer of a shard, by what was heard under its key
abbrev pub left : ℕ → TxKey → ℕ → List Entry → Option (List Heard) → List Entry
left shard key code es None = es
left shard key code es (Some heard) =
    if is_asked shard heard
    then left_by (joint code (heard_from shard code heard)) key (heard_from shard code heard) es
    else es

-- what waits after a shard answered
abbrev pub answered : ℕ → TxKey → ℕ → List Entry → List Entry
answered shard key code es = left shard key code es (heard_under key es)
