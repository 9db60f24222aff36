-- Every response is well formed, and can be written under a table that is ready for a host.
use Rattle.std.specs.Prelude.{◌≡◌, ℕ, ◌≤◌, true, List, length, None}
use Rattle.iso_table.specs.HostReady.{IsHostReady}
use Rattle.iso_table.specs.Layout.{Layout}
use Rattle.iso_wire.specs.Contents.{Contents}
use Rattle.iso_wire.specs.OneSpelling.{WellFormed}
use Rattle.iso_wire.specs.Refusal.{message_refusal}
use Rattle.iso_wire.specs.Spelling.{Spelling, PlainSpelling}
use Rattle.iso_order.specs.Fields.{function}
use Rattle.iso_parts.specs.Mti.{is_answered}
use Rattle.iso_order.specs.Outcome.{Outcome}
use Rattle.iso_order.specs.Response.{response, is_showable}

-- a response to a request or an advice is well formed
abbrev pub ResponsesAreWellFormed : Type 0
ResponsesAreWellFormed = (m : Contents) (a : Outcome) → WellFormed m
    → is_answered (function m) ≡ true → WellFormed (response m a)

-- the message was read under a table that is ready for a host, and what is shown can be shown
pub record IsAskedUnder (t : Layout) (m : Contents) (a : Outcome) : Type 0 where
  pub ready : IsHostReady t
  pub bytes : List ℕ
  pub read : Spelling t m bytes
  pub shown : is_showable m a.shown ≡ true

-- the table refuses no response to a request or an advice
abbrev pub ResponsesFit : Type 0
ResponsesFit = (t : Layout) (m : Contents) (a : Outcome) → IsAskedUnder t m a
    → is_answered (function m) ≡ true → message_refusal t (response m a) ≡ None

-- a response that is written has at most 9,999 bytes: four digits tell its length
abbrev pub ResponsesAreShort : Type 0
ResponsesAreShort = (t : Layout) (m : Contents) (a : Outcome) (out : List ℕ) → IsAskedUnder t m a
    → PlainSpelling t (response m a) out → length out ≤ 9999
