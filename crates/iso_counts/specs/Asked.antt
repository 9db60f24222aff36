-- What a request asks for by its first line, and with which status it is answered.
use Rattle.std.specs.Prelude.{◌≡◌, ◌⊎◌, ℕ, Bool, ◌==◌, List, take, position, Option, Some, None, if◌then◌else◌, codes}
use Rattle.iso_counts.specs.declared.asked.Asked.{Asked}
use Rattle.iso_counts.specs.declared.asked.Asked.TheVariants.{Metrics, Health, NotFound, NotAllowed, Refused}

-- the target up to its query, which begins with a question mark
abbrev pub path_at : List ℕ → Option ℕ → List ℕ
path_at target None = target
path_at target (Some at) = take at target

-- the target without its query
abbrev pub path_of : List ℕ → List ℕ
path_of target = path_at target (position (λ byte. byte == 63) target)

-- a method that only reads
abbrev pub IsRead : List ℕ → Type 0
IsRead method = (method ≡ codes "GET") ⊎ (method ≡ codes "HEAD")

-- a path at which something is told
abbrev pub IsPage : List ℕ → Type 0
IsPage path = (path ≡ codes "/metrics") ⊎ (path ≡ codes "/health")

-- the status of an answer, where the journal can be written or can't
abbrev pub status_of : Asked → Bool → ℕ
status_of Metrics can_write = 200
status_of Health can_write = if can_write then 200 else 503
status_of NotFound can_write = 404
status_of NotAllowed can_write = 405
status_of (Refused status) can_write = status
