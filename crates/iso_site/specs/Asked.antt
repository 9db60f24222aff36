-- Which requests are let in, and what they ask for.
use Rattle.std.specs.Prelude.{◌≡◌, ◌≢◌, ◌⊎◌, ℕ, List, ◌++◌, Option, Some, None, ⊤, codes, option_map}
use Rattle.iso_site.specs.declared.asked.Asked.{Asked}
use Rattle.iso_site.specs.declared.asked.Asked.TheVariants as asked
use Rattle.iso_site.specs.declared.asked.Heads.{Heads}
use Rattle.iso_site.specs.declared.call.Call.{Call}
use Rattle.iso_site.specs.declared.call.Call.TheVariants as calls
use Rattle.iso_site.specs.declared.refusal.Refusal.TheVariants as refusals

-- ---- who is let in

-- this machine by one of its names, at this port
abbrev pub IsOwnHost : List ℕ → List ℕ → Type 0
IsOwnHost port host = (host ≡ codes "127.0.0.1:" ++ port) ⊎ (host ≡ codes "localhost:" ++ port)
    ⊎ (host ≡ codes "[::1]:" ++ port)

-- the page of this machine at this port
abbrev pub IsOwnOrigin : List ℕ → List ℕ → Type 0
IsOwnOrigin port origin = (origin ≡ codes "http://127.0.0.1:" ++ port)
    ⊎ (origin ≡ codes "http://localhost:" ++ port)
    ⊎ (origin ≡ codes "http://[::1]:" ++ port)

-- no page is told, or this one
abbrev pub IsNoOther : List ℕ → Option (List ℕ) → Type 0
IsNoOther port None = ⊤
IsNoOther port (Some origin) = IsOwnOrigin port origin

-- the page that makes a request, where one is told
abbrev pub origin_of : Heads → Option (List ℕ)
origin_of heads = option_map (λ o. o.now) heads.origin

-- the request names this address, and no other page makes it
abbrev pub IsLetIn : List ℕ → Heads → Type 0
IsLetIn port heads = IsOwnHost port heads.host.now × IsNoOther port (origin_of heads)

-- ---- what is asked for

-- a method that only reads
abbrev pub IsRead : List ℕ → Type 0
IsRead method = (method ≡ codes "GET") ⊎ (method ≡ codes "HEAD")

-- what a request brings is said to be JSON
abbrev pub IsJson : List ℕ → Type 0
IsJson content_type = content_type ≡ codes "application/json"

-- where a call is made
abbrev pub path_of : Call → List ℕ
path_of calls.Table = codes "/api/table"
path_of calls.Look = codes "/api/look"
path_of calls.Build = codes "/api/build"
path_of calls.Convert = codes "/api/convert"
path_of calls.Play = codes "/api/play"
path_of calls.Ends = codes "/api/ends"

-- some call is made there
abbrev pub IsCallPath : List ℕ → Type 0
IsCallPath path = (call : Call) × (path ≡ path_of call)

-- what each answer says of the path, the method and the type of what the request brings
abbrev pub IsAskedAt : List ℕ → List ℕ → List ℕ → Asked → Type 0
IsAskedAt path method content_type asked.Page = (path ≡ codes "/") × IsRead method
IsAskedAt path method content_type (asked.Call call) = (path ≡ path_of call)
    × (method ≡ codes "POST") × IsJson content_type
IsAskedAt path method content_type (asked.Refused refusals.NotFound) = (path ≢ codes "/")
    × (¬ (IsCallPath path))
IsAskedAt path method content_type (asked.Refused refusals.NotAllowed) =
    ((path ≡ codes "/") × (¬ (IsRead method)))
    ⊎ (IsCallPath path × (method ≢ codes "POST"))
IsAskedAt path method content_type (asked.Refused refusals.NotJson) = IsCallPath path
    × (method ≡ codes "POST")
    × (¬ (IsJson content_type))
IsAskedAt path method content_type (asked.Refused refusals.ForeignHost) = ⊥
IsAskedAt path method content_type (asked.Refused refusals.ForeignOrigin) = ⊥
