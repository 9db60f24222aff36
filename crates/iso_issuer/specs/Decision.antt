-- How an order is answered. Which case gets which code is our own rule.
use Rattle.std.specs.Prelude.{ℕ, Bool, List, [], ◌∷◌, ◌++◌, ◌==◌, ◌&&◌, ◌+◌, length, Option, Some, None, option_map, if◌then◌else◌, ℤ, pos, int_lt, true, nat_le, nat_lt, unsigned_abs}
use Rattle.iso_order.specs.Codes.{approved, duplicate_transmission, invalid_card_number, invalid_transaction, no_action_taken, not_sufficient_funds, system_malfunction}
use Rattle.iso_order.specs.declared.key.TxKey.{TxKey}
use Rattle.iso_order.specs.declared.act.Act.{Act}
use Rattle.iso_order.specs.declared.act.Act.TheVariants.{Debit, Credit, Inquiry, Undo, Complete}
use Rattle.iso_order.specs.declared.act.Money.{Money}
use Rattle.iso_order.specs.Outcome.{Outcome, code_alone}
use Rattle.iso_order.specs.Response.{is_inquiry_order}
use Rattle.iso_order.specs.Key.{function_digit}
use Rattle.iso_order.specs.Order.{most_amount, Instruction, same_order, same_currency, money_of}
use Rattle.iso_issuer.specs.declared.account.Account.{Account}
use Rattle.iso_issuer.specs.declared.journal.Entry.{Entry}
use Rattle.iso_issuer.specs.declared.effect.Effect.{Effect}
use Rattle.iso_issuer.specs.Account.{account_of}
use Rattle.iso_issuer.specs.Effect.{effect_of, is_drawn}
use Rattle.iso_issuer.specs.Journal.{is_reversed, left_at, smaller_of, entry_at}
use Rattle.iso_issuer.specs.Balance.{available}

-- ---- the code of a new order, on the entries before it

-- more than twelve digits
abbrev pub is_wide : ℤ → Bool
is_wide z = nat_lt most_amount (unsigned_abs z)

-- on its account: an inquiry is refused where it can't be shown, and a debit that is a request where what is left of it is over the
-- available amount
abbrev pub amount_code : List Entry → TxKey → Option Effect → Account → ℕ
amount_code before key None a =
    if is_wide (available before a) then system_malfunction else approved
amount_code before key (Some f) a = if is_drawn f.side && (function_digit key == 0)
    && int_lt (available before a) (pos (smaller_of f.amount (left_at before key)))
    then not_sufficient_funds else approved

-- whether there is such an account, and whether the currency is its own
abbrev pub account_code : List Entry → Instruction → Money → Option Account → ℕ
account_code before o m None = invalid_card_number
account_code before o m (Some a) =
    if same_currency a.currency m.currency then amount_code before o.key (effect_of o) a
    else invalid_transaction

-- a reversal is granted, and what is wholly reversed already gets no action
abbrev pub money_code : List Account → List Entry → Instruction → Option Money → ℕ
money_code accounts before o None = approved
money_code accounts before o (Some m) =
    if is_reversed before o.key then no_action_taken
    else account_code before o m (account_of accounts m.pan)

-- the response code of a new order
abbrev pub code_of : List Account → List Entry → Instruction → ℕ
code_of accounts before o = money_code accounts before o (money_of o.act)

-- ---- the answer to a new order, on the entries before it

-- an inquiry shows the available amount
abbrev pub shown_by : List Account → List Entry → Act → Option ℤ
shown_by accounts before (Inquiry m) = option_map (available before) (account_of accounts m.pan)
shown_by accounts before (Debit m) = None
shown_by accounts before (Credit m) = None
shown_by accounts before (Undo original left) = None
shown_by accounts before (Complete m hold) = None

-- its code, its place from 1 on, and what it shows where the code is 0
abbrev pub new_answer : List Account → List Entry → Instruction → Outcome
new_answer accounts before o =
    record {
      code = code_of accounts before o;
      seq = length before + 1;
      shown = if code_of accounts before o == 0 then shown_by accounts before o.act else None;
    }

-- ---- the journal of orders

-- a new order and its answer
abbrev pub new_entry : List Account → List Entry → Instruction → Entry
new_entry accounts before o = record { order = o; answer = new_answer accounts before o }

-- the entries after these orders, each decided on the entries before it
abbrev pub entries_after : List Account → List Entry → List Instruction → List Entry
entries_after accounts before [] = before
entries_after accounts before (o ∷ os) =
    entries_after accounts (before ++ new_entry accounts before o ∷ []) os

-- the entries of these orders, with none before them
abbrev pub journal_of : List Account → List Instruction → List Entry
journal_of accounts orders = entries_after accounts [] orders

-- ---- the answer for any order

-- the first answer again, or that of a duplicate to another order of that key
abbrev pub repeat_answer : Entry → Instruction → Outcome
repeat_answer e o = if same_order e.order o then e.answer else code_alone duplicate_transmission

-- the answer to an order whose key has this entry, or none
abbrev pub answer_by : List Account → List Entry → Instruction → Option Entry → Outcome
answer_by accounts journal o None = new_answer accounts journal o
answer_by accounts journal o (Some e) = repeat_answer e o

-- that of the entry of its key, where there is one, else a new answer
abbrev pub answer_for : List Account → List Entry → Instruction → Outcome
answer_for accounts journal o = answer_by accounts journal o (entry_at journal o.key)

-- ---- what an answer shows

-- a balance of at most twelve digits is shown for an inquiry, and none for another act
abbrev pub is_shown_for : Act → Option ℤ → Bool
is_shown_for act None = true
is_shown_for act (Some z) = nat_le (unsigned_abs z) most_amount && is_inquiry_order act
