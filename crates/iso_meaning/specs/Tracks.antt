-- Track 2 data (35).
use Rattle.std.specs.Prelude.{ℕ, ◌+◌, ◌-◌, ◌==◌, ◌||◌, Bool, List, [], ◌∷◌, ◌++◌, length, take, drop, replicate, Option, None, Some, option_map, if◌then◌else◌}
use Rattle.iso_wire.specs.Masking.{shown_front, shown_end}
use Rattle.iso_meaning.specs.declared.splits.Part.{Part}
use Rattle.iso_meaning.specs.declared.track.Track.{Track}

-- the parts of track 2 data, one behind the other
abbrev pub track_parts : Track → List Part
track_parts t = t.account ∷ t.separator ∷ t.expiry ∷ t.service ∷ t.discretionary ∷ []

-- the separator behind the account number
abbrev pub separates : ℕ → Bool
separates b = b == 61 || b == 68

-- where the first separator stands
abbrev pub separator_at : List ℕ → Option ℕ
separator_at [] = None
separator_at (b ∷ bs) = if separates b then Some 0 else option_map (λ n. n + 1) (separator_at bs)

-- an account number with its middle in stars
abbrev pub masked_account : List ℕ → List ℕ
masked_account account =
    take (shown_front 2 (length account)) account
    ++ (replicate (length account - shown_front 2 (length account) - shown_end 2 (length account))
    42
    ++ drop (length account - shown_end 2 (length account)) account)

-- the separator, and all behind it in stars
abbrev pub hidden : List ℕ → List ℕ
hidden behind = take 1 behind ++ replicate (length behind - 1) 42

-- the account number with its middle in stars, the separator, and all behind it in stars; without a separator stars alone
abbrev pub masked_by : List ℕ → Option ℕ → List ℕ
masked_by v None = replicate (length v) 42
masked_by v (Some at) = masked_account (take at v) ++ hidden (drop at v)

-- track 2 data as a bystander may read them
abbrev pub masked_track : List ℕ → List ℕ
masked_track v = masked_by v (separator_at v)

-- track 2 data, in clear or as a bystander may read them
abbrev pub track_text : Bool → List ℕ → List ℕ
track_text is_clear v = if is_clear then v else masked_track v
