-- What answers make of a user's token.
use Rattle.std.specs.Prelude.{◌≡◌, ◌≢◌, ◌⊎◌, ⊤, ℕ, ◌&&◌, nat_le, nat_lt, if◌then◌else◌, List, Result, Ok, Err, String, string_bytes}
use Rattle.std.specs.declared.alloc.Global.{Global}
use Rattle.iso_etcd.specs.Leases.{IsToken}
use Rattle.iso_etcd.specs.declared.append.Cause.{Cause}
use Rattle.iso_etcd.specs.declared.append.Cause.TheVariants as causes
use Rattle.iso_etcd.specs.declared.response.Response.{Response}
use Rattle.iso_etcd.specs.declared.response.Loss.{Loss}
use Rattle.iso_etcd.specs.declared.response.Loss.TheVariants as losses

-- a token isn't taken: 401
abbrev pub IsTokenRefused : Result Response Loss → Type 0
IsTokenRefused (Ok response) = response.status ≡ 401
IsTokenRefused (Err _) = ⊥

-- the token that the body tells; where it tells none, the user isn't let in
abbrev pub HasToken : List ℕ → Result (String Global) Cause → Type 0
HasToken body (Ok token) = IsToken body (string_bytes token)
HasToken body (Err causes.NotLetIn) = (token : List ℕ) → IsToken body token → ⊥
HasToken body (Err causes.Memory) = ⊤
HasToken body (Err causes.Away) = ⊥
HasToken body (Err causes.Unwritable) = ⊥
HasToken body (Err causes.TooLong) = ⊥

-- why a login failed: by a status from 400 to 499 the user isn't let in, by any other one the member can't tell now
abbrev pub refusal_of : ℕ → Cause
refusal_of status = if nat_le 400 status && nat_lt status 500 then causes.NotLetIn else causes.Away

-- the token of a login, or why there is none
abbrev pub IsLogin : Result Response Loss → Result (String Global) Cause → Type 0
IsLogin (Ok response) login =
    ((response.status ≡ 200) × HasToken response.body.items login)
    ⊎ ((response.status ≢ 200) × (login ≡ Err (refusal_of response.status)))
IsLogin (Err (losses.Unsent cause)) login = login ≡ Err cause
IsLogin (Err losses.Lost) login = login ≡ Err causes.Away
IsLogin (Err losses.Memory) login = login ≡ Err causes.Memory

-- of a request that was sent twice: where nothing was sent the second time, what came of the first
abbrev pub later_of : Result Response Loss → Result Response Loss → Result Response Loss
later_of first (Err (losses.Unsent cause)) = first
later_of first (Err losses.Lost) = Err losses.Lost
later_of first (Err losses.Memory) = Err losses.Memory
later_of first (Ok response) = Ok response
