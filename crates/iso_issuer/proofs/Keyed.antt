-- The entry of a key at its place.
use Rattle.std.proofs.Common.{◌≡◌, ℕ, ap, sym, ◌∙◌, List, length, get_or, ◌<◌, ◌≤◌, arith, inl, inr}
use Rattle.std.specs.Prelude.{ℤ, Some, None, slice_get, ◌⊎◌}
use Rattle.std.specs.List.{position_from}
use Rattle.std.specs.BTreeMap.{BTreeMap}
use Rattle.std.proofs.lemmas.Option.{slice_get-get_or, slice_get_cases}
use Rattle.iso_order.specs.declared.key.TxKey.{TxKey}
use Rattle.iso_order.specs.Key.{same_key}
use Rattle.iso_order.specs.Order.{Instruction}
use Rattle.iso_issuer.specs.declared.journal.Entry.{Entry}
use Rattle.iso_issuer.specs.Journal.{entry_at}
use Rattle.iso_issuer.specs.Index.{place_of, entries_from}
use Rattle.iso_issuer.specs.Places.{key_place}
use Rattle.iso_issuer.proofs.Places.{place-below, place-map, found-at, found-none}
use Rattle.iso_issuer.proofs.Stored.{orders-entries}

-- the place of a key among the entries is that among their orders
pub place-entries : (os : List Instruction) (cs : List ℕ) (s : BTreeMap ℕ ℤ) (k : TxKey) → length cs ≡ length os → place_of (entries_from 0 os cs s) k ≡ key_place os k
place-entries os cs s k coded =
    sym (place-map (λ (o : Instruction). same_key o.key k) (λ (e : Entry). e.order) 0 (entries_from 0 os cs s))
    ∙ ap (position_from (λ (o : Instruction). same_key o.key k) 0) (orders-entries 0 os cs s coded)

-- a key without a place has no entry
pub entry-none : (es : List Entry) (k : TxKey) → place_of es k ≡ None → entry_at es k ≡ None
entry-none es k none = found-none (λ (e : Entry). same_key e.order.key k) 0 es none

-- a key with a place has the entry there
pub entry-there : (es : List Entry) (k : TxKey) (p : ℕ) → place_of es k ≡ Some p → slice_get es p ≡ entry_at es k
entry-there es k p at = by_place (slice_get_cases es p).1
  where
    by_place : ((x : Entry) × (p < length es) × (slice_get es p ≡ Some x) × (get_or es p x ≡ x)) ⊎ ((length es ≤ p) × (slice_get es p ≡ None)) → slice_get es p ≡ entry_at es k
    by_place (inl h) = slice_get-get_or es p h.0 h.1 ∙ sym (found-at (λ (e : Entry). same_key e.order.key k) es h.0 p at)
    by_place (inr h) = absurd (omega (arith, h.0, place-below (λ (e : Entry). same_key e.order.key k) 0 es p at))
