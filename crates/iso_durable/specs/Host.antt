-- An issuer over its log.
use Rattle.std.specs.Prelude.{◌≡◌, ◌++◌, ◌∷◌, [], Bool, true, false, List, if◌then◌else◌, nat_le, length, Result, IsOk, is_err}
use Rattle.iso_order.specs.Codes.{system_malfunction}
use Rattle.iso_order.specs.Order.{Instruction}
use Rattle.iso_order.specs.Outcome.{Outcome, code_alone}
use Rattle.iso_issuer.specs.Books.{Books, is_full, journal}
use Rattle.iso_issuer.specs.Decision.{answer_for}
use Rattle.iso_issuer.specs.Journal.{is_entered}
use Rattle.iso_durable.specs.Durable.{Durable}
use Rattle.iso_durable.specs.declared.host.DurableIssuer.{DurableIssuer}

-- the accounts and the limit of the issuer, and the orders of the log
abbrev pub state_of : {L : Type 0} → (L → List Instruction) → (L → List Instruction)
    → DurableIssuer L → Durable
state_of synced pending d = record {
  accounts = d.issuer.accounts;
  limit = d.issuer.limit;
  synced = synced d.log;
  pending = pending d.log;
}

-- the log is ready, and has the issuer's orders
pub record IsConsistent {L : Type 0} (is_ready : L → Type 0) (synced pending : L → List Instruction)
    (d : DurableIssuer L) : Type 0 where
  pub ready : is_ready d.log
  pub same : d.issuer.orders ≡ synced d.log ++ pending d.log

-- a log that was opened, and holds these orders
pub record IsOpened {L : Type 0} (is_ready : L → Type 0) (synced pending : L → List Instruction)
    (log : L) (orders : List Instruction) : Type 0 where
  pub ready : is_ready log
  pub held : synced log ≡ orders
  pub none : pending log ≡ []

-- what waits once an order was kept, or was not new
abbrev pub with_new : Bool → List Instruction → Instruction → List Instruction
with_new is_new pending o = if is_new then pending ++ o ∷ [] else pending

-- a new order is entered
abbrev pub is_taken : Books → Instruction → Bool
is_taken b o = if is_entered b.orders o.key then false
    else (if nat_le b.limit (length b.orders) then false else true)

-- the answer to an order, what it leaves, and whether the order is a new entry
pub record AnswersOrder (old new : Books) (o : Instruction) (answer : Outcome)
    (is_new : Bool) : Type 0 where
  pub answer_is : answer
      ≡ (if is_full old o.key then code_alone system_malfunction
      else answer_for old.accounts (journal old) o)
  pub new_is : is_new ≡ is_taken old o
  pub same : new.accounts ≡ old.accounts
  pub limit : new.limit ≡ old.limit
  pub orders : new.orders ≡ (if is_new then old.orders ++ o ∷ [] else old.orders)

-- it succeeds only where no call failed before, and tells of a failure from then on
pub record Stops {T E : Type 0} (old new : Bool) (result : Result T E) : Type 0 where
  pub before : IsOk result → old ≡ false
  pub after : new ≡ is_err result
