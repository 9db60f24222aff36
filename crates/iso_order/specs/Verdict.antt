-- The verdict on a message: a table of cases, of which the first that holds decides.
use Rattle.std.specs.Prelude.{ℕ, Bool, not, ◌==◌, ◌&&◌, ◌||◌, nat_lt, if◌then◌else◌, List, [], ◌∷◌, ◌++◌, Option, Some, None}
use Rattle.iso_wire.specs.Contents.{Contents}
use Rattle.iso_order.specs.Codes.{approved, invalid_transaction, invalid_amount, format_error}
use Rattle.iso_order.specs.declared.act.Act.{Act}
use Rattle.iso_order.specs.declared.act.Act.TheVariants.{Debit, Credit, Inquiry, Undo, Complete}
use Rattle.iso_order.specs.declared.act.Money.{Money}
use Rattle.iso_order.specs.declared.key.TxKey.{TxKey}
use Rattle.iso_order.specs.declared.verdict.Verdict.{Verdict}
use Rattle.iso_order.specs.declared.verdict.Verdict.TheVariants.{Order, Reply, Silent}
use Rattle.iso_order.specs.Fields.{version, class, function, origin, text, has_key, key_of, message_money, original_mti, is_original, is_own, original_of, is_completion, is_hold, hold_of, is_replacement, left_of, kind, is_debit, is_credit, is_inquiry}
use Rattle.iso_parts.specs.Mti.{is_answered}
use Rattle.iso_order.specs.Order.{Instruction, is_currency}
use Rattle.iso_wire.specs.Decimal.{are_digits, number}

-- the verdict of the first case that holds, else the last one
abbrev pub first_of : List (Bool × Verdict) → Verdict → Verdict
first_of [] last = last
first_of (line ∷ lines) last = if line.0 then line.1 else first_of lines last

-- what is asked under the message's key
abbrev pub order_verdict : Contents → Act → Verdict
order_verdict m act = Order (record { key = key_of m; act = act })

-- ---- the lines of the table

-- who is answered at all
abbrev pub answered_lines : Contents → List (Bool × Verdict)
answered_lines m =
    (not (version m == 0 && is_answered (function m)), Silent)
    ∷ (nat_lt 5 (origin m), Reply invalid_transaction)
    ∷ []

-- class 8: sign on, sign off and the echo test (element 70, network management information code)
abbrev pub network_lines : Contents → List (Bool × Verdict)
network_lines m =
    (class m == 8 && not (are_digits 3 3 (text m 70)), Reply format_error)
    ∷ (
      class m == 8
          && (number (text m 70) == 1 || number (text m 70) == 2 || number (text m 70) == 301),
      Reply approved,
    )
    ∷ []

-- classes that are served, and messages that have a key
abbrev pub key_lines : Contents → List (Bool × Verdict)
key_lines m =
    (not (class m == 1 || class m == 2 || class m == 4), Reply invalid_transaction)
    ∷ (not (has_key m), Reply format_error)
    ∷ []

-- class 4: a reversal of the transaction that element 90 names
abbrev pub original_lines : Contents → List (Bool × Verdict)
original_lines m =
    (class m == 4 && not (are_digits 42 42 (text m 90)), Reply format_error)
    ∷ (class m == 4 && not (is_original (original_mti m)), Reply invalid_transaction)
    ∷ (class m == 4 && not (is_own m), Reply invalid_transaction)
    ∷ (class m == 4, order_verdict m (Undo (original_of m) (left_of m)))
    ∷ []

-- class 4: what the reversal leaves (element 95, replacement amounts)
abbrev pub reversal_lines : Contents → List (Bool × Verdict)
reversal_lines m = (class m == 4 && not (is_replacement m), Reply format_error) ∷ original_lines m

-- class 2, an advice that names a transaction: a completion of its own acquirer's hold (element 90)
abbrev pub completion_lines : Contents → List (Bool × Verdict)
completion_lines m =
    (is_completion m && not (are_digits 42 42 (text m 90)), Reply format_error)
    ∷ (is_completion m && not (is_hold (original_mti m)), Reply invalid_transaction)
    ∷ (is_completion m && not (is_own m), Reply invalid_transaction)
    ∷ []

-- classes 1 and 2: the account, the processing code and the currency (elements 2, 3, 49)
abbrev pub account_lines : Contents → List (Bool × Verdict)
account_lines m = (
  not (are_digits 1 19 (text m 2) && are_digits 6 6 (text m 3)
      && is_currency (text m 49)),
  Reply format_error,
)
    ∷ []

-- classes 1 and 2: which acts are served (element 3)
abbrev pub act_lines : Contents → List (Bool × Verdict)
act_lines m = (
  not (is_debit (kind m) || is_credit (kind m)
      || is_inquiry (kind m)),
  Reply invalid_transaction,
)
    ∷ (
      (is_credit (kind m) && (class m == 1 || is_completion m))
          || (is_inquiry (kind m) && function m == 2),
      Reply invalid_transaction,
    )
    ∷ (is_inquiry (kind m), order_verdict m (Inquiry (message_money m 0)))
    ∷ []

-- a debit, or the completion of a hold
abbrev pub debited_by : Money → Option TxKey → Act
debited_by money None = Debit money
debited_by money (Some hold) = Complete money hold

-- classes 1 and 2: the amount (element 4)
abbrev pub amount_lines : Contents → List (Bool × Verdict)
amount_lines m =
    (not (are_digits 12 12 (text m 4)), Reply format_error)
    ∷ (number (text m 4) == 0, Reply invalid_amount)
    ∷ (
      is_debit (kind m),
      order_verdict m
          (debited_by (message_money m (number (text m 4))) (hold_of m)),
    )
    ∷ []

-- the last line: a credit
abbrev pub credit_verdict : Contents → Verdict
credit_verdict m = order_verdict m (Credit (message_money m (number (text m 4))))

-- the whole table
unfoldable pub verdict : Contents → Verdict
verdict m =
    first_of (answered_lines m ++ network_lines m ++ key_lines m ++ reversal_lines m
    ++ completion_lines m ++ account_lines m ++ act_lines m ++ amount_lines m) (credit_verdict m)

-- ---- what an order of a verdict keeps

-- a fact on the order, where there is one
abbrev pub IfOrder : Verdict → (Instruction → Type 0) → Type 0
IfOrder (Order o) P = P o
IfOrder (Reply code) P = Unit {0}
IfOrder Silent P = Unit {0}

-- a fact where there is an answer
abbrev pub IfAnswered : Verdict → Type 0 → Type 0
IfAnswered (Order o) P = P
IfAnswered (Reply code) P = P
IfAnswered Silent P = Unit {0}

-- a fact on the response code, where the message is answered at once
abbrev pub IfReply : Verdict → (ℕ → Type 0) → Type 0
IfReply (Reply code) P = P code
IfReply (Order o) P = Unit {0}
IfReply Silent P = Unit {0}
