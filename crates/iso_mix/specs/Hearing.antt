-- What an answer comes to.
use Rattle.std.specs.Prelude.{◌==◌, ◌||◌, ℕ, Bool, Option, Some, None, if◌then◌else◌}
use Rattle.iso_order.specs.Codes.{duplicate_transmission, system_malfunction}
use Rattle.iso_order.specs.declared.key.TxKey.{TxKey}
use Rattle.iso_order.specs.Key.{same_key}
use Rattle.iso_mix.specs.declared.asked.Asked.{Asked}
use Rattle.iso_mix.specs.declared.hearing.Hearing.{Hearing}
use Rattle.iso_mix.specs.declared.hearing.Hearing.TheVariants.{First, Known, Differs, Foreign}

-- nothing was done: the same key was used for another order, or the host failed
abbrev pub is_no_answer : ℕ → Bool
is_no_answer code = code == duplicate_transmission || code == system_malfunction

-- an answer of that code, where the first one had that code
abbrev pub hearing_by : Option ℕ → ℕ → Hearing
hearing_by None code = if is_no_answer code then Known else First
hearing_by (Some first) code =
    if is_no_answer code then Known else (if first == code then Known else Differs)

-- an answer to that key, where this order lies under its trace number
abbrev pub hearing_of : Option Asked → TxKey → ℕ → Hearing
hearing_of None key code = Foreign
hearing_of (Some a) key code = if same_key a.order.key key then hearing_by a.code code else Foreign
