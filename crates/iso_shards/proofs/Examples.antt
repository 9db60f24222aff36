-- Short days that are worked out: what the definitions say of two shards.
use Rattle.std.proofs.Common.{◌≡◌, ℕ, Bool, true, false, refl, arith, List, [], ◌∷◌}
use Rattle.std.specs.Prelude.{◌==◌, None, pos}
use Rattle.std.proofs.lemmas.Int.{ints}
use Rattle.iso_order.specs.declared.act.Act.TheVariants.{Debit, Undo, Complete}
use Rattle.iso_order.specs.declared.act.Money.{Money}
use Rattle.iso_order.specs.declared.key.TxKey.{TxKey}
use Rattle.iso_order.specs.Order.{Instruction}
use Rattle.iso_order.specs.Pan.{AccountNumber}
use Rattle.iso_issuer.specs.declared.account.Account.{Account}
use Rattle.iso_issuer.specs.declared.effect.Side.TheVariants.{Held}
use Rattle.iso_issuer.specs.Balance.{total, ledger, available}
use Rattle.iso_issuer.specs.Books.{Books, is_full}
use Rattle.iso_issuer.specs.Decision.{journal_of, answer_for}
use Rattle.iso_shards.specs.Shards.{sent_to, accounts_in, concerning}

-- the account numbers 1 and 2, each of a shard of its own
abbrev one : AccountNumber
one = record { digits = 1; len = 1 }

abbrev two : AccountNumber
two = record { digits = 2; len = 1 }

abbrev first : AccountNumber → Bool
first pan = pan.digits == 1

abbrev second : AccountNumber → Bool
second pan = pan.digits == 2

-- both with 1,000 on them
abbrev account : AccountNumber → Account
account pan = record {
  pan = pan;
  currency = 56 ∷ 52 ∷ 48 ∷ [];
  opening = pos 1000;
  in_range = (omega (arith, ints), omega (arith, ints));
}

abbrev accounts : List Account
accounts = account one ∷ account two ∷ []

-- a key of this message type and trace number
abbrev key : ℕ → ℕ → TxKey
key base stan = record { sent = 1; stan = stan; base = base; acquirer = 9 }

abbrev money : AccountNumber → ℕ → Money
money pan amount = record { pan = pan; amount = amount; currency = 56 ∷ 52 ∷ 48 ∷ [] }

-- a purchase, its reversal, a hold and its completion
abbrev purchase : ℕ → AccountNumber → ℕ → Instruction
purchase stan pan amount = record { key = key 200 stan; act = Debit (money pan amount) }

abbrev reversal : ℕ → ℕ → Instruction
reversal stan of = record { key = key 420 stan; act = Undo (key 200 of) 0 }

abbrev hold : ℕ → AccountNumber → ℕ → Instruction
hold stan pan amount = record { key = key 100 stan; act = Debit (money pan amount) }

abbrev completion : ℕ → AccountNumber → ℕ → ℕ → Instruction
completion stan pan amount of =
    record { key = key 220 stan; act = Complete (money pan amount) (key 100 of) }

-- ---- a day: a purchase on each account, and the first one is reversed

abbrev day : List Instruction
day = purchase 1 one 300 ∷ purchase 2 two 400 ∷ reversal 3 1 ∷ []

-- each shard gets its purchase, and the reversal
first_gets : sent_to first day ≡ purchase 1 one 300 ∷ reversal 3 1 ∷ []
first_gets = refl

second_gets : sent_to second day ≡ purchase 2 two 400 ∷ reversal 3 1 ∷ []
second_gets = refl

-- which concerns the first one alone
first_concerned : concerning first day ≡ purchase 1 one 300 ∷ reversal 3 1 ∷ []
first_concerned = refl

second_concerned : concerning second day ≡ purchase 2 two 400 ∷ []
second_concerned = refl

-- on the first account is what was on it, in the whole and in its shard
first_whole : ledger (journal_of accounts day) (account one) ≡ pos 1000
first_whole = refl

first_shard :
    ledger (journal_of (accounts_in first accounts) (sent_to first day)) (account one) ≡ pos 1000
first_shard = refl

-- on the second one the purchase counts, in both
second_whole : ledger (journal_of accounts day) (account two) ≡ pos 600
second_whole = refl

second_shard :
    ledger (journal_of (accounts_in second accounts) (sent_to second day)) (account two) ≡ pos 600
second_shard = refl

-- both shards answer the reversal with 0, each with a place of its own
reversal_first :
    answer_for (accounts_in first accounts)
    (journal_of (accounts_in first accounts) (purchase 1 one 300 ∷ [])) (reversal 3 1)
    ≡ record { code = 0; seq = 2; shown = None }
reversal_first = refl

reversal_second :
    answer_for (accounts_in second accounts)
    (journal_of (accounts_in second accounts) []) (reversal 3 1)
    ≡ record { code = 0; seq = 1; shown = None }
reversal_second = refl

-- it may have come to the second shard at any other moment, or never
second_otherwise :
    concerning second (reversal 3 1 ∷ purchase 2 two 400 ∷ []) ≡ concerning second day
second_otherwise = refl

second_never : concerning second (purchase 2 two 400 ∷ []) ≡ concerning second day
second_never = refl

-- but a shard whose journal is full refuses the reversal that the other takes
abbrev after_purchase : Books
after_purchase = record {
  accounts = accounts_in first accounts;
  limit = 1;
  orders = purchase 1 one 300 ∷ [];
}

first_is_full : is_full after_purchase (key 420 3) ≡ true
first_is_full = refl

second_has_room : is_full (record after_purchase { orders = [] }) (key 420 3) ≡ false
second_has_room = refl

-- ---- a hold, and its completion for less

abbrev filled : List Instruction
filled = hold 1 two 500 ∷ completion 2 two 450 1 ∷ []

held_first : total Held two (journal_of accounts (hold 1 two 500 ∷ [])) ≡ 500
held_first = refl

held_then : total Held two (journal_of accounts filled) ≡ 0
held_then = refl

completed_shard :
    available (journal_of (accounts_in second accounts) (sent_to second filled)) (account two)
    ≡ pos 550
completed_shard = refl

-- a completion on another account ends no hold, in the whole neither: it needs no shard but its own
on_another_account :
    total Held two (journal_of accounts (hold 1 two 500 ∷ completion 2 one 450 1 ∷ [])) ≡ 500
on_another_account = refl

-- ---- one key for accounts of two shards

-- the whole answers the second order with 94; the second shard, which has none of the key, with 0
whole_refuses :
    answer_for accounts (journal_of accounts (purchase 1 one 300 ∷ [])) (purchase 1 two 300)
    ≡ record { code = 94; seq = 0; shown = None }
whole_refuses = refl

shard_grants :
    answer_for (accounts_in second accounts)
    (journal_of (accounts_in second accounts) (sent_to second (purchase 1 one 300 ∷ [])))
    (purchase 1 two 300)
    ≡ record { code = 0; seq = 1; shown = None }
shard_grants = refl
