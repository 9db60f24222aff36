-- What an append came to, by what came of its request.
use Rattle.std.specs.Prelude.{◌≡◌, ◌≢◌, ◌⊎◌, ⊤, ℕ, Bool, true, false, List, Result, Ok, Err, Some, codes, option_and_then}
use Rattle.serde_json.specs.Data.{Data}
use Rattle.serde_json.specs.Find.{get, as_str}
use Rattle.iso_etcd.specs.Answers.{IsJson, IsTold, Put, Stands, Outcome}
use Rattle.iso_etcd.specs.declared.append.Append.{Append}
use Rattle.iso_etcd.specs.declared.append.Append.TheVariants.{Appended, Taken, Unknown, Unsent}
use Rattle.iso_etcd.specs.declared.append.Doubt.{Doubt}
use Rattle.iso_etcd.specs.declared.append.Doubt.TheVariants as doubts
use Rattle.iso_etcd.specs.declared.response.Response.{Response}
use Rattle.iso_etcd.specs.declared.response.Loss.{Loss}
use Rattle.iso_etcd.specs.declared.response.Loss.TheVariants as losses

-- the body is the JSON of an error with these words
abbrev pub HasMessage : List ℕ → List ℕ → Type 0
HasMessage words body = (answer : Data) × IsJson body answer
    × (option_and_then as_str (get (codes "message") answer) ≡ Some words)

-- what etcd says where it has no space left
abbrev pub no_space : List ℕ
no_space = codes "etcdserver: mvcc: database space exceeded"

-- 401 where a token isn't taken, 403 where the user may not do what was asked
abbrev pub IsDenied : ℕ → Type 0
IsDenied status = (status ≡ 401) ⊎ (status ≡ 403)

-- why an error doesn't tell whether the batch stands
abbrev pub IsDoubt : ℕ → List ℕ → Doubt → Type 0
IsDoubt status body doubts.NoSpace = HasMessage no_space body
IsDoubt status body doubts.Denied = IsDenied status
IsDoubt status body (doubts.Status told) =
    (told ≡ status) × ¬ (IsDenied status) × ¬ (HasMessage no_space body)
IsDoubt status body doubts.Memory = ⊤
IsDoubt status body doubts.Lost = ⊥
IsDoubt status body doubts.Unreadable = ⊥

-- an error tells nothing of the batch
abbrev pub IsRefused : ℕ → List ℕ → Append → Type 0
IsRefused status body (Unknown doubt) = IsDoubt status body doubt
IsRefused status body Appended = ⊥
IsRefused status body (Taken other) = ⊥
IsRefused status body (Unsent cause) = ⊥

-- why an answer doesn't tell whether the batch stands
abbrev pub IsUnread : List ℕ → List ℕ → Doubt → Type 0
IsUnread key body doubts.Unreadable = (outcome : Outcome) → IsTold key body outcome → ⊥
IsUnread key body doubts.Memory = ⊤
IsUnread key body doubts.NoSpace = ⊥
IsUnread key body doubts.Denied = ⊥
IsUnread key body (doubts.Status told) = ⊥
IsUnread key body doubts.Lost = ⊥

-- what an answer tells of the batch: it stands where it was put now, or where it is what stands there
abbrev pub IsAnswered : List ℕ → List ℕ → List ℕ → Append → Type 0
IsAnswered key batch body Appended = IsTold key body Put ⊎ IsTold key body (Stands batch)
IsAnswered key batch body (Taken other) = IsTold key body (Stands other.items)
    × (other.items ≢ batch)
IsAnswered key batch body (Unknown doubt) = IsUnread key body doubt
IsAnswered key batch body (Unsent cause) = ⊥

-- what a response tells of the batch; any status but 200 is an error
abbrev pub IsHeard : List ℕ → List ℕ → Response → Append → Type 0
IsHeard key batch response append =
    ((response.status ≡ 200) × IsAnswered key batch response.body.items append)
    ⊎ ((response.status ≢ 200) × IsRefused response.status response.body.items append)

-- what is known of the batch after its request
abbrev pub IsAppend : List ℕ → List ℕ → Result Response Loss → Append → Type 0
IsAppend key batch (Ok response) append = IsHeard key batch response append
IsAppend key batch (Err (losses.Unsent cause)) append = append ≡ Unsent cause
IsAppend key batch (Err losses.Lost) append = append ≡ Unknown doubts.Lost
IsAppend key batch (Err losses.Memory) append = append ≡ Unknown doubts.Memory

-- what is known after one more request for the same batch at the same place: where an earlier one is in doubt, that
-- nothing was sent now settles nothing
abbrev pub then_of : Append → Append → Append
then_of (Unknown doubt) (Unsent cause) = Unknown doubt
then_of Appended now = now
then_of (Taken other) now = now
then_of (Unsent cause) now = now
then_of (Unknown doubt) Appended = Appended
then_of (Unknown doubt) (Taken other) = Taken other
then_of (Unknown doubt) (Unknown later) = Unknown later

-- it is known what stands at the place
abbrev pub is_settled : Append → Bool
is_settled Appended = true
is_settled (Taken other) = true
is_settled (Unknown doubt) = false
is_settled (Unsent cause) = false
