-- A host with its peers over a whole run: whose bodies come, when all is kept and handed out, and when it crashes.
use Rattle.std.specs.Prelude.{◌≡◌, ◌⊎◌, ℕ, true, List, [], ◌∷◌, ◌++◌, Option, Some, None}
use Rattle.std.specs.List.{AllByRecursion}
use Rattle.iso_wire.specs.Contents.{Contents}
use Rattle.iso_order.specs.declared.verdict.Verdict.TheVariants.{Order}
use Rattle.iso_order.specs.Order.{Instruction}
use Rattle.iso_order.specs.Outcome.{Outcome, code_alone}
use Rattle.iso_issuer.specs.declared.account.Account.{Account}
use Rattle.iso_issuer.specs.Books.{Books}
use Rattle.iso_issuer.specs.Journal.{is_entered}
use Rattle.iso_durable.specs.Durable.{Durable, books_of, come_all, syncs, crashes}
use Rattle.iso_durable.specs.World.{IsStart}
use Rattle.iso_host.specs.Asking.{asked_of, message_in, orders_in}
use Rattle.iso_host.specs.Links.{Agreed}
use Rattle.iso_host.specs.Output.{IsAnswer, IsFramed, response_with}

-- a body of a peer on this link, and the bytes that were made as its answer
pub record Reply : Type 0 where
  pub link : Agreed
  pub body : List ℕ
  pub bytes : List ℕ

-- the host, the answers that wait, and those that were handed out
pub record Serving : Type 0 where
  pub host : Durable
  pub waiting : List Reply
  pub handed : List Reply

-- a whole body comes, and its answer waits, or memory for that was wanting; all orders are kept, and all answers handed
-- out; or the host crashes, and starts again from what the crash kept
pub data Step : Type 0 where
  Answers : (reply : Reply) → Step
  Enters : (link : Agreed) (body : List ℕ) → Step
  Keeps : Step
  Crashes : (kept : ℕ) → Step

-- the order that a body asks comes
abbrev pub comes_by : Durable → Agreed → List ℕ → Durable
comes_by d link body = come_all d (orders_in (asked_of link.table body))

-- a step
abbrev pub goes : Serving → Step → Serving
goes s (Answers r) = record {
  host = comes_by s.host r.link r.body;
  waiting = s.waiting ++ r ∷ [];
  handed = s.handed;
}
goes s (Enters link body) =
    record { host = comes_by s.host link body; waiting = s.waiting; handed = s.handed }
goes s Keeps = record { host = syncs s.host; waiting = []; handed = s.handed ++ s.waiting }
goes s (Crashes n) = record { host = crashes n s.host; waiting = []; handed = s.handed }

-- steps, one after another
abbrev pub goes_on : List Step → Serving → Serving
goes_on [] s = s
goes_on (step ∷ steps) s = goes_on steps (goes s step)

-- an answer is the one at the books of that moment
abbrev pub IsMade : Durable → Step → Type 0
IsMade d (Answers r) = IsAnswer r.link.table r.link.header (books_of d) r.body r.bytes
IsMade d (Enters link body) = Unit {0}
IsMade d Keeps = Unit {0}
IsMade d (Crashes n) = Unit {0}

-- so is each one of a run
abbrev pub AreMade : List Step → Serving → Type 0
AreMade [] s = Unit {0}
AreMade (step ∷ steps) s = IsMade s.host step × AreMade steps (goes s step)

-- a host that starts on these orders
abbrev pub starts : List Account → ℕ → List Instruction → Serving
starts accounts limit orders = record {
  host = record { accounts = accounts; limit = limit; synced = orders; pending = [] };
  waiting = [];
  handed = [];
}

-- the books of the orders on the disk
abbrev pub disk_of : Durable → Books
disk_of d = record { accounts = d.accounts; limit = d.limit; orders = d.synced }

-- the response with that outcome, where there is a message
abbrev pub response_as : Option Contents → Outcome → Option Contents
response_as None outcome = None
response_as (Some m) outcome = response_with m (Some outcome)

-- the answer of a full journal, which promises nothing
abbrev pub IsOfFull : Reply → Type 0
IsOfFull r = IsFramed r.link.table r.link.header
    (response_as (message_in r.link.table r.body) (code_alone 96)) r.bytes

-- the order that its body asks is entered, if it asks one, and its bytes are the answer that these books give to the body
pub record IsStanding (books : Books) (r : Reply) : Type 0 where
  pub entered : (o : Instruction) → asked_of r.link.table r.body ≡ Some (Order o)
      → is_entered books.orders o.key ≡ true
  pub same : IsAnswer r.link.table r.link.header books r.body r.bytes

-- whatever comes, and whenever the host crashes: what was handed out is the answer that the orders on the disk give
abbrev pub HandedOutStands : Type 0
HandedOutStands =
    (accounts : List Account) (limit : ℕ) (orders : List Instruction) (steps : List Step)
    → IsStart limit orders → AreMade steps (starts accounts limit orders)
    → AllByRecursion
    (λ r. IsStanding (disk_of (goes_on steps (starts accounts limit orders)).host) r ⊎ IsOfFull r)
    (goes_on steps (starts accounts limit orders)).handed
