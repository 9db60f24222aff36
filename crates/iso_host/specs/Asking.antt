-- What the body of a frame asks.
use Rattle.std.specs.Prelude.{◌≡◌, ◌↔◌, ℕ, ◌==◌, Bool, true, false, List, [], ◌∷◌, ◌++◌, length, Option, Some, None, option_map, Result, Ok, Err, count_by, if◌then◌else◌}
use Rattle.iso_table.specs.Layout.{Layout, AreGood}
use Rattle.iso_wire.specs.declared.fault.UnpackFault.{UnpackFault}
use Rattle.iso_wire.specs.Contents.{Contents}
use Rattle.iso_wire.specs.Reading.{message_at}
use Rattle.iso_wire.specs.Spelling.{AreBytes, Spelling}
use Rattle.iso_order.specs.declared.verdict.Verdict.{Verdict}
use Rattle.iso_order.specs.declared.verdict.Verdict.TheVariants.{Order, Reply, Silent}
use Rattle.iso_order.specs.Order.{Instruction}
use Rattle.iso_order.specs.Verdict.{verdict}

-- the message that was read, where it takes so many bytes
abbrev pub whole_by : ℕ → Result (Contents × ℕ) UnpackFault → Option Contents
whole_by size (Ok x) = if x.1 == size then Some x.0 else None
whole_by size (Err e) = None

-- the message that the whole body is
unfoldable pub message_in : Layout → List ℕ → Option Contents
message_in t body = whole_by (length body) (message_at t body)

-- the verdict on it, none where the body is unreadable
abbrev pub asked_of : Layout → List ℕ → Option Verdict
asked_of t body = option_map verdict (message_in t body)

-- the order, where one is asked
abbrev pub orders_in : Option Verdict → List Instruction
orders_in (Some (Order o)) = o ∷ []
orders_in (Some (Reply code)) = []
orders_in (Some Silent) = []
orders_in None = []

-- the orders that these bodies ask
abbrev pub orders_of : Layout → List (List ℕ) → List Instruction
orders_of t [] = []
orders_of t (body ∷ bodies) = orders_in (asked_of t body) ++ orders_of t bodies

-- ---- the kinds of bodies

-- it is no message
abbrev pub is_unreadable : Option Verdict → Bool
is_unreadable None = true
is_unreadable (Some v) = false

-- it is a message that gets no response
abbrev pub is_silent : Option Verdict → Bool
is_silent (Some Silent) = true
is_silent (Some (Reply code)) = false
is_silent (Some (Order o)) = false
is_silent None = false

-- it is a message that gets a response
abbrev pub has_answer : Option Verdict → Bool
has_answer (Some (Order o)) = true
has_answer (Some (Reply code)) = true
has_answer (Some Silent) = false
has_answer None = false

-- how many of these bodies are of this kind
abbrev pub count_asked : Layout → (Option Verdict → Bool) → List (List ℕ) → ℕ
count_asked t kind bodies = count_by (λ body. kind (asked_of t body)) bodies

-- ---- the grammar

-- a body is read as a message exactly where the whole body spells the message
abbrev pub BodiesAreSpellings : Type 0
BodiesAreSpellings = (t : Layout) (m : Contents) (body : List ℕ) → AreGood t.rows → AreBytes body
    → (message_in t body ≡ Some m) ↔ Spelling t m body
