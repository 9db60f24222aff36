-- What a store of batches keeps, and what its answers say of it.
use Rattle.std.specs.Prelude.{◌≡◌, ◌≢◌, ℕ, ◌-◌, List, [], ◌∷◌, ◌++◌, Some, slice_get, replicate}
use Rattle.std.specs.Prelude.{Result, Ok, Err}
use Rattle.iso_shared.specs.declared.store.Asked.{Asked}
use Rattle.iso_shared.specs.declared.store.Asked.TheVariants.{Stands, Other, Unknown, Unsent}
use Rattle.iso_shared.specs.declared.store.Looked.{Looked}
use Rattle.iso_shared.specs.declared.store.Looked.TheVariants.{Found, Nothing, Away}
use Rattle.iso_shared.specs.declared.why.Why.{Why}
use Rattle.iso_shared.specs.declared.why.Why.TheVariants.{Fenced, InDoubt, Away as Gone, TooLarge, Memory}

-- what was kept is kept, at its place, and any number of batches behind it
abbrev pub Grows : List (List ℕ) → List (List ℕ) → Type 0
Grows old new = (more : List (List ℕ)) × (new ≡ old ++ more)

-- a place has these bytes, and the first place is 1
abbrev pub StandsAt : List (List ℕ) → ℕ → List ℕ → Type 0
StandsAt kept place bytes = slice_get kept (place - 1) ≡ Some bytes

-- what an answer says of a batch that was asked for
abbrev pub IsAsked : List (List ℕ) → ℕ → List ℕ → Asked → Type 0
IsAsked kept place bytes Stands = StandsAt kept place bytes
IsAsked kept place bytes (Other found) = StandsAt kept place found.items × (found.items ≢ bytes)
IsAsked kept place bytes Unknown = Unit {0}
IsAsked kept place bytes Unsent = Unit {0}

-- the batch was sent, but for the answer that says that it wasn't
abbrev pub IsSent : List (List ℕ) → List (List ℕ) → List ℕ → Asked → Type 0
IsSent old new bytes Stands = new ≡ old ++ bytes ∷ []
IsSent old new bytes (Other found) = new ≡ old ++ bytes ∷ []
IsSent old new bytes Unknown = new ≡ old ++ bytes ∷ []
IsSent old new bytes Unsent = new ≡ old

-- what an answer says of a place that was looked at: that nothing was found settles nothing
abbrev pub IsLooked : List (List ℕ) → ℕ → Looked → Type 0
IsLooked kept place (Found found) = StandsAt kept place found.items
IsLooked kept place Nothing = Unit {0}
IsLooked kept place Away = Unit {0}

-- ---- many asks for one batch

-- what is known of the place in the end
abbrev pub IsSettled : List (List ℕ) → ℕ → List ℕ → Result Unit Why → Type 0
IsSettled kept place bytes (Ok done) = StandsAt kept place bytes
IsSettled kept place bytes (Err Fenced) =
    (other : List ℕ) × StandsAt kept place other × (other ≢ bytes)
IsSettled kept place bytes (Err InDoubt) = Unit {0}
IsSettled kept place bytes (Err Gone) = Unit {0}
IsSettled kept place bytes (Err TooLarge) = ⊥
IsSettled kept place bytes (Err Memory) = ⊥

-- nothing but this batch was sent
abbrev pub SentOnly : List (List ℕ) → List (List ℕ) → List ℕ → Type 0
SentOnly old new bytes = (n : ℕ) × (new ≡ old ++ replicate n bytes)

-- and nothing at all, where the store gave no answer
abbrev pub AreSent : List (List ℕ) → List (List ℕ) → List ℕ → Result Unit Why → Type 0
AreSent old new bytes (Ok done) = SentOnly old new bytes
AreSent old new bytes (Err Fenced) = SentOnly old new bytes
AreSent old new bytes (Err InDoubt) = SentOnly old new bytes
AreSent old new bytes (Err Gone) = new ≡ old
AreSent old new bytes (Err TooLarge) = new ≡ old
AreSent old new bytes (Err Memory) = new ≡ old
