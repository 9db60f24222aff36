-- Short runs that are worked out: what the definitions say of two hosts over one log.
use Rattle.std.proofs.Common.{◌≡◌, true, refl, List, [], ◌∷◌}
use Rattle.iso_order.specs.Order.{Instruction, same_order}
use Rattle.iso_issuer.specs.declared.account.Account.{Account}
use Rattle.iso_issuer.specs.Decision.{journal_of, answer_for}
use Rattle.iso_hosts.specs.World.{World, Event, fresh, after_events, log_begins}
use Rattle.iso_hosts.specs.World.{Receives, Sends, Arrives, Reads, Restarts}

-- these events, over an empty log
abbrev after : List Account → List Event → World
after accounts events = after_events events (log_begins accounts 9 [])

-- a batch that arrives twice is kept once
arrives_twice : (accounts : List Account) (o : Instruction)
    → (after accounts (Receives 0 o ∷ Sends 0 ∷ Arrives 0 ∷ Arrives 0 ∷ [])).kept
    ≡ record { place = 0; writer = 0; orders = o ∷ [] } ∷ []
arrives_twice accounts o = refl

-- two hosts send a batch each for the first place, and the one of the second comes later
abbrev both_send : Instruction → Instruction → List Event
both_send o p =
    Receives 0 o ∷ Receives 1 p ∷ Sends 0 ∷ Sends 1 ∷ Arrives 0 ∷ Arrives 1 ∷ Reads 1 ∷ []

-- the first batch is kept, and the second is lost
one_is_kept : (accounts : List Account) (o p : Instruction)
    → (after accounts (both_send o p)).kept ≡ record { place = 0; writer = 0; orders = o ∷ [] } ∷ []
one_is_kept accounts o p = refl

-- the second host is fenced: it tells nothing
fenced_tells_nothing : (accounts : List Account) (o p : Instruction)
    → (after accounts (both_send o p)).told ≡ []
fenced_tells_nothing accounts o p = refl

-- and has forgotten what it decided
fenced_forgets : (accounts : List Account) (o p : Instruction)
    → (after accounts (both_send o p)).hosts 1 ≡ fresh 1
fenced_forgets accounts o p = refl

-- a host whose batch is in doubt has told nothing, and once it finds it tells the answer
own_is_told : (accounts : List Account) (o : Instruction) → same_order o o ≡ true
    → (after accounts (Receives 0 o ∷ Sends 0 ∷ Arrives 0 ∷ Reads 0 ∷ [])).told
    ≡ record { order = o; answer = answer_for accounts (journal_of accounts []) o } ∷ []
own_is_told accounts o same = rw same refl

-- a host that crashes in doubt tells nothing, though its batch is kept
crashed_tells_nothing : (accounts : List Account) (o : Instruction)
    → (after accounts (Receives 0 o ∷ Sends 0 ∷ Arrives 0 ∷ Restarts 0 0 ∷ Reads 0 ∷ [])).told ≡ []
crashed_tells_nothing accounts o = refl
