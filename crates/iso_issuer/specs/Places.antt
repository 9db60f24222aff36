-- The table that tells the place of each key: slots by the digest of keys, and a tree for the keys that find no free slot.
-- Inner: bodies and proofs cite it, and no public clause does.
use Rattle.std.specs.Prelude.{◌≡◌, ℕ, ◌+◌, ◌-◌, ◌*◌, ◌/◌, ◌%◌, ◌<◌, Bool, false, ◌&&◌, ◌==◌, nat_le, if◌then◌else◌, min, List, [], ◌∷◌, length, take, drop, Option, None, Some, slice_get}
use Rattle.std.specs.List.{position_from}
use Rattle.std.specs.Option.{option_or}
use Rattle.std.specs.BTreeMap as tree
use Rattle.std.specs.BTreeMap.{BTreeMap}
use Rattle.iso_order.specs.declared.key.TxKey.{TxKey}
use Rattle.iso_order.specs.Key.{same_key}
use Rattle.iso_order.specs.Order.{Instruction}
use Rattle.iso_issuer.specs.declared.key_places.Slot.{Slot}
use Rattle.iso_issuer.specs.Index.{key_cmp}

-- what 64 bits hold of a number
abbrev pub in_64_bits : ℕ → ℕ
in_64_bits n = n % 18446744073709551616

-- the digest of a key: its four numbers, each times a constant of its own, added up
unfoldable pub digest : TxKey → ℕ
digest key =
    in_64_bits (in_64_bits (in_64_bits (in_64_bits (key.sent * 11400714819323198485)
    + in_64_bits (key.stan * 14029467366897019727))
    + in_64_bits (key.acquirer * 1609587929392839161))
    + in_64_bits (key.base * 9650029242287828579))

-- the lower half of the digest
unfoldable pub tag_of : TxKey → ℕ
tag_of key = digest key % 4294967296

-- where the slots begin that a key may stand in, of a table of so many: by the upper half of the digest
unfoldable pub start_of : ℕ → TxKey → ℕ
start_of count key =
    min (in_64_bits (digest key / 4294967296 * (count - 16)) / 4294967296) (count - 16)

-- the 16 slots that a key may stand in
unfoldable pub window_of : List Slot → TxKey → List Slot
window_of slots key =
    if nat_le (length slots) 16 then [] else take 16 (drop (start_of (length slots) key) slots)

-- no key stands in the slot
abbrev pub is_free : Slot → Bool
is_free slot = slot.number == 0

-- the order is there, and has this key
abbrev pub is_of : Option Instruction → TxKey → Bool
is_of None key = false
is_of (Some order) key = same_key order.key key

-- the order at a place, from 0 on, has this key
abbrev pub has_key : List Instruction → ℕ → TxKey → Bool
has_key orders place key = is_of (slice_get orders place) key

-- the place that slots tell of a key with this tag: no key stands behind a free slot
abbrev pub sought : List Slot → ℕ → List Instruction → TxKey → Option ℕ
sought [] tag orders key = None
sought (slot ∷ slots) tag orders key =
    if is_free slot then None else if (slot.tag == tag) && has_key orders (slot.number - 1) key
    then Some (slot.number - 1) else sought slots tag orders key

-- a place, where the order there has this key
abbrev pub checked : Option ℕ → List Instruction → TxKey → Option ℕ
checked None orders key = None
checked (Some place) orders key = if has_key orders place key then Some place else None

-- the place that is found of a key
abbrev pub found : List Slot → BTreeMap TxKey ℕ → List Instruction → TxKey → Option ℕ
found slots others orders key = option_or (sought (window_of slots key) (tag_of key) orders key)
    (checked (tree.get key_cmp others key) orders key)

-- the place of the order of this key, where there is one
abbrev pub key_place : List Instruction → TxKey → Option ℕ
key_place orders key = position_from (λ o. same_key o.key key) 0 orders

-- of each key the place of its order is found, and of no other key one
abbrev pub TellsPlaces : List Slot → BTreeMap TxKey ℕ → List Instruction → Type 0
TellsPlaces slots others orders = (key : TxKey)
    → found slots others orders key ≡ key_place orders key

-- the slot at this place of the table is the first free one that the key may stand in
pub record IsFreeFor (slots : List Slot) (key : TxKey) (at : ℕ) : Type 0 where
  pub long : 16 < length slots
  pub behind : ℕ
  pub there : at ≡ start_of (length slots) key + behind
  pub first : position_from is_free 0 (window_of slots key) ≡ Some behind
  pub within : at < length slots

-- all is ready for a key to come to a place: a slot is free for it, or the tree has the place
abbrev pub IsReadyFor : List Slot → BTreeMap TxKey ℕ → ℕ → TxKey → Option ℕ → Type 0
IsReadyFor slots others place key None = tree.get key_cmp others key ≡ Some place
IsReadyFor slots others place key (Some at) = IsFreeFor slots key at
