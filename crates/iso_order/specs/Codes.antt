-- The response codes (element 39) that an issuer gives.
use Rattle.std.specs.Prelude.{ℕ}

-- the order was granted
abbrev pub approved : ℕ
approved = 0

-- a message that can't be served, or in another currency than the account's
abbrev pub invalid_transaction : ℕ
invalid_transaction = 12

-- an amount of zero
abbrev pub invalid_amount : ℕ
invalid_amount = 13

-- there is no such account
abbrev pub invalid_card_number : ℕ
invalid_card_number = 14

-- the transaction was wholly reversed before it came
abbrev pub no_action_taken : ℕ
no_action_taken = 21

-- an element that is needed is missing, or isn't written as it has to be
abbrev pub format_error : ℕ
format_error = 30

-- the available amount is less than what is asked
abbrev pub not_sufficient_funds : ℕ
not_sufficient_funds = 51

-- another order had that key
abbrev pub duplicate_transmission : ℕ
duplicate_transmission = 94

-- the journal is full, or an amount can't be shown
abbrev pub system_malfunction : ℕ
system_malfunction = 96
