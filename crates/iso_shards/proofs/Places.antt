-- Places don't count: what a journal gives without the places is what it gives.
use Rattle.std.proofs.Common.{◌≡◌, ℕ, Bool, true, false, cond, not, refl, arith, ap, ◌∙◌}
use Rattle.std.proofs.Common.{List, [], ◌∷◌}
use Rattle.std.specs.Prelude.{◌&&◌, ◌||◌, Option, Some, None, option_map, map, filter, find, sum_by}
use Rattle.std.specs.List.{list_any}
use Rattle.std.proofs.lemmas.List.Sums.{sum_by-cons}
use Rattle.iso_order.specs.declared.key.TxKey.{TxKey}
use Rattle.iso_order.specs.Key.{same_key}
use Rattle.iso_order.specs.Pan.{AccountNumber}
use Rattle.iso_issuer.specs.declared.effect.Effect.{Effect}
use Rattle.iso_issuer.specs.declared.effect.Side.{Side}
use Rattle.iso_issuer.specs.declared.effect.Side.TheVariants.{Held}
use Rattle.iso_issuer.specs.declared.holds.OpenHold.{OpenHold}
use Rattle.iso_issuer.specs.declared.journal.Entry.{Entry}
use Rattle.iso_issuer.specs.Effect.{effect_of, effect_amount, is_key, is_end_of, is_on, same_side}
use Rattle.iso_issuer.specs.Journal.{entry_at, undone_key, left_by, left_at, reversal_of}
use Rattle.iso_issuer.specs.Journal.{smaller_of}
use Rattle.iso_issuer.specs.Journal.{is_counted_with, is_counted, is_ended}
use Rattle.iso_issuer.specs.Journal.{is_standing, weight}
use Rattle.iso_issuer.specs.Balance.{share, total}
use Rattle.iso_issuer.specs.Holds.{is_open, hold_now, open_holds}
use Rattle.iso_shards.specs.Shards.{unplaced_entry, unplaced_hold}

-- what is found by a test that doesn't look at places
found : (q : Entry → Bool) → ((e : Entry) → q (unplaced_entry e) ≡ q e) → (es : List Entry)
    → find q (map unplaced_entry es) ≡ option_map unplaced_entry (find q es)
found q blind [] = refl
found q blind (e ∷ es) =
    ap (λ b. cond b (Some (unplaced_entry e)) (find q (map unplaced_entry es))) (blind e)
    ∙ by_test (q e) (found q blind es)
  where
    by_test : (b : Bool) → find q (map unplaced_entry es) ≡ option_map unplaced_entry (find q es)
        → cond b (Some (unplaced_entry e)) (find q (map unplaced_entry es))
        ≡ option_map unplaced_entry (cond b (Some e) (find q es))
    by_test true rest = refl
    by_test false rest = rest

-- the entry of a key
pub entry_unplaced : (es : List Entry) (key : TxKey)
    → entry_at (map unplaced_entry es) key ≡ option_map unplaced_entry (entry_at es key)
entry_unplaced es key = found (λ e. same_key e.order.key key) (λ e. refl) es

-- what is left of a key
pub left_unplaced : (es : List Entry) (key : TxKey)
    → left_at (map unplaced_entry es) key ≡ left_at es key
left_unplaced es key =
    ap (option_map (λ (r : Entry). left_by r.order.act))
    (found (λ r. is_key (undone_key r.order.act) key) (λ e. refl) es)
    ∙ either (reversal_of es key)
  where
    either : (f : Option Entry)
        → option_map (λ (r : Entry). left_by r.order.act) (option_map unplaced_entry f)
        ≡ option_map (λ (r : Entry). left_by r.order.act) f
    either None = refl
    either (Some r) = refl

-- an entry that counts completes the hold of this key on this account
abbrev pub completes : List Entry → TxKey → AccountNumber → Entry → Bool
completes j key pan c = is_counted j c && is_end_of key pan (effect_of c.order)

module _ (j : List Entry) where
  counted : (e : Entry) → is_counted (map unplaced_entry j) (unplaced_entry e) ≡ is_counted j e
  counted e = ap (λ l. is_counted_with l e) (left_unplaced j e.order.key)

  completed : (key : TxKey) (pan : AccountNumber) (es : List Entry)
      → list_any (completes (map unplaced_entry j) key pan) (map unplaced_entry es)
      ≡ list_any (completes j key pan) es
  completed key pan [] = refl
  completed key pan (e ∷ es) =
      ap (λ b. b && is_end_of key pan (effect_of e.order)
      || list_any (completes (map unplaced_entry j) key pan) (map unplaced_entry es)) (counted e)
      ∙ ap (λ b. completes j key pan e || b) (completed key pan es)

  ended : (key : TxKey) (f : Option Effect)
      → is_ended (map unplaced_entry j) key f ≡ is_ended j key f
  ended key None = refl
  ended key (Some f) = ap (λ b. same_side f.side Held && b) (completed key f.pan j)

  standing : (e : Entry) → is_standing (map unplaced_entry j) (unplaced_entry e) ≡ is_standing j e
  standing e =
      ap (λ b. b && not (is_ended (map unplaced_entry j) e.order.key (effect_of e.order)))
      (counted e)
      ∙ ap (λ b. is_counted j e && not b) (ended e.order.key (effect_of e.order))

  weighed : (e : Entry) → weight (map unplaced_entry j) (unplaced_entry e) ≡ weight j e
  weighed e =
      ap (λ b. cond b (smaller_of (effect_amount (effect_of e.order))
      (left_at (map unplaced_entry j) e.order.key)) 0) (standing e)
      ∙ ap (λ l. cond (is_standing j e) (smaller_of (effect_amount (effect_of e.order)) l) 0)
      (left_unplaced j e.order.key)

  summed : (side : Side) (pan : AccountNumber) (es : List Entry)
      → sum_by (λ e. share side pan (effect_of e.order) (weight (map unplaced_entry j) e))
      (map unplaced_entry es)
      ≡ sum_by (λ e. share side pan (effect_of e.order) (weight j e)) es
  summed side pan [] = refl
  summed side pan (e ∷ es) =
      let f : Entry → ℕ =
      λ e. share side pan (effect_of e.order) (weight (map unplaced_entry j) e) in
      let g : Entry → ℕ = λ e. share side pan (effect_of e.order) (weight j e) in
      let head : f (unplaced_entry e) ≡ g e = ap (share side pan (effect_of e.order)) (weighed e) in
      let tail : sum_by f (map unplaced_entry es) ≡ sum_by g es = summed side pan es in
      let one = sum_by-cons f (unplaced_entry e) (map unplaced_entry es) in
      let two = sum_by-cons g e es in
      omega arith

  opened : (pan : AccountNumber) (es : List Entry)
      → map (hold_now (map unplaced_entry j))
      (filter (is_open (map unplaced_entry j) pan) (map unplaced_entry es))
      ≡ map unplaced_hold (map (hold_now j) (filter (is_open j pan) es))
  opened pan [] = refl
  opened pan (e ∷ es) =
      let here : is_open (map unplaced_entry j) pan (unplaced_entry e) ≡ is_open j pan e =
      ap (λ b. b && is_on Held pan (effect_of e.order)) (standing e) in
      ap (λ b. map (hold_now (map unplaced_entry j))
      (cond b (unplaced_entry e ∷ filter (is_open (map unplaced_entry j) pan)
      (map unplaced_entry es))
      (filter (is_open (map unplaced_entry j) pan) (map unplaced_entry es)))) here
      ∙ by_test (is_open j pan e) (opened pan es)
    where
      by_test : (b : Bool)
          → map (hold_now (map unplaced_entry j))
          (filter (is_open (map unplaced_entry j) pan) (map unplaced_entry es))
          ≡ map unplaced_hold (map (hold_now j) (filter (is_open j pan) es))
          → map (hold_now (map unplaced_entry j))
          (cond b (unplaced_entry e ∷ filter (is_open (map unplaced_entry j) pan)
          (map unplaced_entry es))
          (filter (is_open (map unplaced_entry j) pan) (map unplaced_entry es)))
          ≡ map unplaced_hold (map (hold_now j)
          (cond b (e ∷ filter (is_open j pan) es) (filter (is_open j pan) es)))
      by_test true rest =
          ap (λ (w : ℕ). hold w ∷ map (hold_now (map unplaced_entry j))
          (filter (is_open (map unplaced_entry j) pan) (map unplaced_entry es))) (weighed e)
          ∙ ap (λ (hs : List OpenHold). hold (weight j e) ∷ hs) rest
        where
          hold : ℕ → OpenHold
          hold w = record { entry = unplaced_entry e; amount = w }
      by_test false rest = rest

-- what counts on an account
pub total_unplaced : (side : Side) (pan : AccountNumber) (j : List Entry)
    → total side pan (map unplaced_entry j) ≡ total side pan j
total_unplaced side pan j = summed j side pan j

-- the open holds
pub holds_unplaced : (pan : AccountNumber) (j : List Entry)
    → open_holds (map unplaced_entry j) pan ≡ map unplaced_hold (open_holds j pan)
holds_unplaced pan j = opened j pan j
