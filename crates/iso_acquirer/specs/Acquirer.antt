-- What an acquirer keeps, by trace number, and what its calls do to it.
use Rattle.std.specs.Prelude.{◌≡◌, ◌≤◌, ℕ, true, List, [], ◌∷◌, ◌++◌, ◌==◌, ◌||◌, ◌+◌, length, nat_lt, find, map, Option, Some, None, option_map, option_and_then, Result, Ok, Err, if◌then◌else◌}
use Rattle.std.specs.Result.{result_err}
use Rattle.iso_order.specs.Codes.{approved, duplicate_transmission, system_malfunction}
use Rattle.iso_order.specs.declared.key.TxKey.{TxKey}
use Rattle.iso_order.specs.declared.act.Act.TheVariants.{Debit, Undo}
use Rattle.iso_order.specs.Pan.{AccountNumber}
use Rattle.iso_order.specs.Key.{same_key}
use Rattle.iso_order.specs.Order.{most_amount, Instruction, is_currency}
use Rattle.iso_acquirer.specs.declared.fault.AcqFault.{AcqFault}
use Rattle.iso_acquirer.specs.declared.fault.AcqFault.TheVariants.{NoMoreTrace, NoSuch, Closed}
use Rattle.iso_acquirer.specs.declared.slot.Slot.{Slot}
use Rattle.iso_acquirer.specs.declared.slot.Role.{Role}
use Rattle.iso_acquirer.specs.declared.slot.Role.TheVariants.{Transaction, Reversal}
use Rattle.iso_acquirer.specs.declared.slot.Stage.{Stage}
use Rattle.iso_acquirer.specs.declared.slot.Stage.TheVariants as stage
use Rattle.iso_acquirer.specs.declared.state.State.{State}
use Rattle.iso_acquirer.specs.declared.state.State.TheVariants.{Waiting, Reversing, Approved, Declined, Reversed}

-- an acquirer as contracts see it: its number (element 32), and each order that it made, by trace number (element 11) from 1 on
pub record Party : Type 0 where
  pub id : ℕ
  pub slots : List Slot

-- what is kept under a trace number
abbrev pub slot_at : List Slot → ℕ → Option Slot
slot_at slots stan = find (λ s. s.order.key.stan == stan) slots

-- the order made under a trace number, if one was
abbrev pub order_at : List Slot → ℕ → Option Instruction
order_at slots stan = option_map (λ s. s.order) (slot_at slots stan)

-- ---- states

-- the state of a transaction at a stage
abbrev pub state_at_stage : Stage → State
state_at_stage (stage.Waiting n) = Waiting n
state_at_stage (stage.Reversing n) = Reversing
state_at_stage stage.Approved = Approved
state_at_stage (stage.Declined c) = Declined c
state_at_stage (stage.Reversed n) = Reversed

-- a reversal is no transaction
abbrev pub state_in_role : Role → Option State
state_in_role (Transaction stage) = Some (state_at_stage stage)
state_in_role (Reversal stan) = None

-- the state of the transaction of that trace number, where there is one
abbrev pub state_of : List Slot → ℕ → Option State
state_of slots stan = option_and_then (λ s. state_in_role s.role) (slot_at slots stan)

-- the reversal of an order (message type 0420), under that trace number; it leaves nothing
abbrev pub reversal_under : ℕ → Instruction → Instruction
reversal_under stan o = record {
  key = record { base = 420; stan = stan; sent = o.key.sent; acquirer = o.key.acquirer };
  act = Undo o.key 0;
}

-- the reversal of a transaction's order, where there is one
abbrev pub undo_of : Instruction → Stage → Option Instruction
undo_of o (stage.Waiting n) = None
undo_of o (stage.Reversing n) = Some (reversal_under n o)
undo_of o stage.Approved = None
undo_of o (stage.Declined c) = None
undo_of o (stage.Reversed n) = Some (reversal_under n o)

-- ---- changes

-- a transaction comes to another stage; a reversal stays
abbrev pub on_stage : (Stage → Stage) → Role → Role
on_stage step (Transaction stage) = Transaction (step stage)
on_stage step (Reversal stan) = Reversal stan

-- a slot whose transaction comes to another stage; that of a reversal stays
abbrev pub slot_at_stage : (Stage → Stage) → Slot → Slot
slot_at_stage step s = record { order = s.order; role = on_stage step s.role }

-- the transaction of that trace number comes to another stage
abbrev pub slots_at_stage : (Stage → Stage) → ℕ → List Slot → List Slot
slots_at_stage step stan slots =
    map (λ s. if s.order.key.stan == stan then slot_at_stage step s else s) slots

-- an order that is made and sent for the first time
abbrev pub transaction_of : Instruction → Slot
transaction_of o = record { order = o; role = Transaction (stage.Waiting 1) }

-- the reversal of the transaction of that trace number
abbrev pub reversal_for : ℕ → Instruction → Slot
reversal_for stan undo = record { order = undo; role = Reversal stan }

-- ---- begin

-- a debit of a request (message type 0200), under the next trace number
abbrev pub debit_of : Party → AccountNumber → ℕ → List ℕ → ℕ → Instruction
debit_of p pan amount currency sent = record {
  key = record { base = 200; stan = length p.slots + 1; sent = sent; acquirer = p.id };
  act = Debit (record { pan = pan; amount = amount; currency = currency });
}

-- a transaction is begun
abbrev pub slots_with : List Slot → Instruction → List Slot
slots_with slots o = slots ++ transaction_of o ∷ []

-- what the caller gives: 1 to twelve nines (element 4), three letters or digits (element 49), ten digits (element 7)
pub record IsFair (amount : ℕ) (currency : List ℕ) (sent : ℕ) : Type 0 where
  pub least : 1 ≤ amount
  pub most : amount ≤ most_amount
  pub currency_fits : is_currency currency ≡ true
  pub sent_fits : sent ≤ 9999999999

-- ---- timeout

-- the reversal of an order, under the next trace number
abbrev pub next_reversal : List Slot → Instruction → Instruction
next_reversal slots o = reversal_under (length slots + 1) o

-- the transaction is reversed, by an order that is made
abbrev pub slots_with_reversal : List Slot → ℕ → Instruction → List Slot
slots_with_reversal slots stan undo =
    slots_at_stage (λ _. stage.Reversing undo.key.stan) stan slots ++ reversal_for stan undo ∷ []

-- the order that is sent, and what is kept: the order again, after the second time its reversal, and then that again
abbrev pub timeout_at_stage : List Slot → Instruction → Stage
    → Result (Instruction × List Slot) AcqFault
timeout_at_stage slots o (stage.Waiting n) =
    if n == 1 then Ok (o, slots_at_stage (λ _. stage.Waiting 2) o.key.stan slots)
    else if nat_lt (length slots) 999999
    then Ok (next_reversal slots o, slots_with_reversal slots o.key.stan (next_reversal slots o))
    else Err NoMoreTrace
timeout_at_stage slots o (stage.Reversing n) = Ok (reversal_under n o, slots)
timeout_at_stage slots o stage.Approved = Err Closed
timeout_at_stage slots o (stage.Declined c) = Err Closed
timeout_at_stage slots o (stage.Reversed n) = Err Closed

-- the same by what the order is for: a transaction is at a stage; a reversal doesn't wait by itself
abbrev pub timeout_in_role : List Slot → Instruction → Role
    → Result (Instruction × List Slot) AcqFault
timeout_in_role slots o (Transaction stage) = timeout_at_stage slots o stage
timeout_in_role slots o (Reversal stan) = Err NoSuch

-- the same of what is kept under a trace number, if anything is
abbrev pub timeout_of_slot : List Slot → Option Slot → Result (Instruction × List Slot) AcqFault
timeout_of_slot slots None = Err NoSuch
timeout_of_slot slots (Some s) = timeout_in_role slots s.order s.role

-- what is sent and kept where no answer to that trace number came in time
abbrev pub timeout : List Slot → ℕ → Result (Instruction × List Slot) AcqFault
timeout slots stan = timeout_of_slot slots (slot_at slots stan)

-- why a timeout of that trace number is refused, where it is
abbrev pub timeout_fault : List Slot → ℕ → Option AcqFault
timeout_fault slots stan = result_err (timeout slots stan)

-- ---- answer

-- the stage after an answer to the transaction's own order (element 39): a duplicate and a malfunction leave it open
abbrev pub stage_after : ℕ → Stage → Stage
stage_after code (stage.Waiting n) = if code == approved then stage.Approved
    else (if (code == duplicate_transmission) || (code == system_malfunction) then stage.Waiting n
    else stage.Declined code)
stage_after code (stage.Reversing n) = stage.Reversing n
stage_after code stage.Approved = stage.Approved
stage_after code (stage.Declined c) = stage.Declined c
stage_after code (stage.Reversed n) = stage.Reversed n

-- the stage after an answer to its reversal
abbrev pub stage_after_undo : ℕ → Stage → Stage
stage_after_undo code (stage.Waiting n) = stage.Waiting n
stage_after_undo code (stage.Reversing n) =
    if code == 0 then stage.Reversed n else stage.Reversing n
stage_after_undo code stage.Approved = stage.Approved
stage_after_undo code (stage.Declined c) = stage.Declined c
stage_after_undo code (stage.Reversed n) = stage.Reversed n

-- an answer comes: to a transaction's order, or to the reversal of a transaction
abbrev pub slots_after_answer_in_role : List Slot → ℕ → ℕ → Role → List Slot
slots_after_answer_in_role slots stan code (Transaction stage) =
    slots_at_stage (stage_after code) stan slots
slots_after_answer_in_role slots stan code (Reversal original) =
    slots_at_stage (stage_after_undo code) original slots

-- an answer counts only where the order of its trace number has its key
abbrev pub slots_after_answer_of_slot : List Slot → TxKey → ℕ → Option Slot → List Slot
slots_after_answer_of_slot slots key code None = slots
slots_after_answer_of_slot slots key code (Some s) =
    if same_key s.order.key key then slots_after_answer_in_role slots key.stan code s.role
    else slots

-- an answer to any other key changes nothing
abbrev pub slots_after_answer : List Slot → TxKey → ℕ → List Slot
slots_after_answer slots key code =
    slots_after_answer_of_slot slots key code (slot_at slots key.stan)
