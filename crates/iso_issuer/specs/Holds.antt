-- The holds that are open on an account.
use Rattle.std.specs.Prelude.{Bool, ◌&&◌, List, map, filter}
use Rattle.iso_order.specs.Pan.{AccountNumber}
use Rattle.iso_issuer.specs.declared.effect.Side.TheVariants.{Held}
use Rattle.iso_issuer.specs.declared.holds.OpenHold.{OpenHold}
use Rattle.iso_issuer.specs.declared.journal.Entry.{Entry}
use Rattle.iso_issuer.specs.Effect.{effect_of, is_on}
use Rattle.iso_issuer.specs.Journal.{is_standing, weight}

-- a hold on this account that stands: granted, not wholly reversed, and not ended
abbrev pub is_open : List Entry → AccountNumber → Entry → Bool
is_open journal pan e = is_standing journal e && is_on Held pan (effect_of e.order)

-- with what is left of it
abbrev pub hold_now : List Entry → Entry → OpenHold
hold_now journal e = record { entry = e; amount = weight journal e }

-- those of the journal, in its order
abbrev pub open_holds : List Entry → AccountNumber → List OpenHold
open_holds journal pan = map (hold_now journal) (filter (is_open journal pan) journal)
