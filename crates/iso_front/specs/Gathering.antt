-- What shards answered to a request that went to several.
use Rattle.std.specs.Prelude.{ℕ, ◌==◌, ◌&&◌, nat_lt, Bool, true, false, List, slice_set}
use Rattle.std.specs.Prelude.{slice_index_or, if◌then◌else◌}
use Rattle.std.specs.List.{list_any, list_all}
use Rattle.iso_front.specs.declared.gathering.Heard.{Heard}
use Rattle.iso_front.specs.declared.gathering.Heard.TheVariants.{Unasked, Nothing, Code}
use Rattle.iso_front.specs.declared.gathering.Joint.{Joint}
use Rattle.iso_front.specs.declared.gathering.Joint.TheVariants.{Waits, Same, Differ}
use Rattle.iso_front.specs.declared.route.Route.{Route}
use Rattle.iso_front.specs.Routing.{goes_to}

-- at first: nothing of the shards to which the request goes, of those that are there
abbrev pub at_first : Route → ℕ → ℕ → Heard
at_first route count n = if nat_lt n count && goes_to route n then Nothing else Unasked

-- the shard was asked
abbrev pub was_asked : Heard → Bool
was_asked Unasked = false
was_asked Nothing = true
was_asked (Code c) = true

-- the shard at this place was asked
abbrev pub is_asked : ℕ → List Heard → Bool
is_asked shard heard = was_asked (slice_index_or heard shard Unasked)

-- the shard was asked, and is silent
abbrev pub is_nothing : Heard → Bool
is_nothing Unasked = false
is_nothing Nothing = true
is_nothing (Code c) = false

-- the shard, if it was asked, answered this code
abbrev pub agrees : ℕ → Heard → Bool
agrees code Unasked = true
agrees code Nothing = false
agrees code (Code c) = c == code

-- what the shard at a place answers, if it was asked; its last answer counts
abbrev pub heard_from : ℕ → ℕ → List Heard → List Heard
heard_from shard code heard =
    if is_asked shard heard then slice_set heard shard (Code code) else heard

-- what comes of an answer of this code: none is silent and all say the same, or not
abbrev pub joint : ℕ → List Heard → Joint
joint code heard =
    if list_any is_nothing heard then Waits
    else if list_all (agrees code) heard then Same else Differ
