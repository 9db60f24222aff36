-- What etcd's answers tell. Members that are false, zero or empty are left out of them.
use Rattle.std.specs.Prelude.{◌≡◌, ℕ, Bool, false, IsTrue, List, [], ◌∷◌, Option, Some, None, unwrap_or, option_map, option_and_then, if◌then◌else◌, codes, ◌+◌}
use Rattle.std.specs.Result.{result_ok}
use Rattle.std.specs.Str.{IsUtf8, bytes_eq}
use Rattle.base64.specs.Engines.{standard}
use Rattle.base64.specs.GeneralPurpose.{decode_of}
use Rattle.serde_json.specs.Data.{Data, Items, no_items, item}
use Rattle.serde_json.specs.Read.{read}
use Rattle.serde_json.specs.Find.{get, at, as_bool, as_str, as_array}
use Rattle.iso_etcd.specs.Keys.{batch_key}
use Rattle.iso_etcd.specs.declared.answer.PutAnswer.{PutAnswer}
use Rattle.iso_etcd.specs.declared.answer.PutAnswer.TheVariants as answers

-- the bytes are text, and this JSON
abbrev pub IsJson : List ℕ → Data → Type 0
IsJson body answer = IsUtf8 body × (read body ≡ Some answer)

-- a member is true; one that is left out is false
abbrev pub is_true : List ℕ → Data → Bool
is_true name answer = unwrap_or (option_and_then as_bool (get name answer)) false

-- the bytes of a base64 text
abbrev pub decoded : List ℕ → Option (List ℕ)
decoded text = result_ok (decode_of standard text)

-- the bytes of a member; one that is left out has none
abbrev pub bytes_of : Option Data → Option (List ℕ)
bytes_of None = Some []
bytes_of (Some member) = option_and_then decoded (as_str member)

-- the bytes of the member of that name
abbrev pub bytes_in : List ℕ → Data → Option (List ℕ)
bytes_in name answer = bytes_of (get name answer)

-- the first item of a list
abbrev pub first_in : List ℕ → Data → Option Data
first_in name answer = option_and_then (at 0) (get name answer)

-- what stands at the key, of the answer to a transaction that put nothing
abbrev pub standing : Data → Option Data
standing answer =
    option_and_then (first_in (codes "kvs"))
    (option_and_then (get (codes "response_range")) (first_in (codes "responses") answer))

-- the value of a pair, if it is the pair at this key
abbrev pub is_key : List ℕ → Option (List ℕ) → Bool
is_key key None = false
is_key key (Some found) = bytes_eq found key

-- what a pair has, if it is the pair at this key
abbrev pub value_at : List ℕ → Data → Option (List ℕ)
value_at key pair =
    if is_key key (bytes_in (codes "key") pair) then bytes_in (codes "value") pair else None

-- what became of a value that was to be put at a key
pub data Outcome : Type 0 where
  -- it was put
  Put : Outcome
  -- nothing was put, as this stands there
  Stands : (value : List ℕ) → Outcome

-- what became of the value, as an answer that was read tells it
abbrev pub outcome_of : PutAnswer → Outcome
outcome_of answers.Put = Put
outcome_of (answers.Stands value) = Stands value.items

-- what a transaction's answer tells of it
abbrev pub Tells : List ℕ → Data → Outcome → Type 0
Tells key answer Put = IsTrue (is_true (codes "succeeded") answer)
Tells key answer (Stands value) =
    (is_true (codes "succeeded") answer ≡ false)
    × (option_and_then (value_at key) (standing answer) ≡ Some value)

-- what the body of its response tells of it
abbrev pub IsTold : List ℕ → List ℕ → Outcome → Type 0
IsTold key body outcome = (answer : Data) × IsJson body answer × Tells key answer outcome

-- the pairs that were found; where none are, they are left out
abbrev pub pairs_of : Option Data → Option Items
pairs_of None = Some no_items
pairs_of (Some pairs) = as_array pairs

-- the pairs that an answer tells
abbrev pub pairs_in : Data → Option Items
pairs_in answer = pairs_of (get (codes "kvs") answer)

-- the batches at the places from one on, if the pairs are those of these places, with none left out
abbrev pub batches_from : List ℕ → ℕ → Items → Option (List (List ℕ))
batches_from name place no_items = Some []
batches_from name place (item pair pairs) =
    option_and_then
    (λ batch. option_map (λ batches. batch ∷ batches) (batches_from name (place + 1) pairs))
    (value_at (batch_key name place) pair)

-- the batches of an answer, from a place on
abbrev pub batches_in : List ℕ → ℕ → Data → Option (List (List ℕ))
batches_in name first answer = option_and_then (batches_from name first) (pairs_in answer)

-- what stands at a key, or nothing
abbrev pub value_of : List ℕ → Items → Option (Option (List ℕ))
value_of key no_items = Some None
value_of key (item pair pairs) = option_map Some (value_at key pair)

-- what an answer tells of a key: what stands there, or nothing
abbrev pub value_in : List ℕ → Data → Option (Option (List ℕ))
value_in key answer = option_and_then (value_of key) (pairs_in answer)
