-- What is answered to the bodies of a guarded line.
use Rattle.std.specs.Prelude.{◌≡◌, ℕ, ◌≤◌, nat_lt, List, [], ◌∷◌, ◌++◌, length, take, drop, Option, Some, None, if◌then◌else◌}
use Rattle.iso_table.specs.Layout.{Layout}
use Rattle.iso_wire.specs.declared.header.Header.{Header}
use Rattle.iso_wire.specs.Contents.{Contents}
use Rattle.iso_wire.specs.Framing.{frame_of, largest}
use Rattle.iso_wire.specs.Spelling.{PlainSpelling}
use Rattle.iso_order.specs.declared.key.TxKey.{TxKey}
use Rattle.iso_order.specs.Codes.{invalid_transaction}
use Rattle.iso_order.specs.Outcome.{code_alone}
use Rattle.iso_order.specs.Response.{response}
use Rattle.iso_issuer.specs.Books.{Books}
use Rattle.iso_host.specs.Asking.{message_in}
use Rattle.iso_host.specs.Entering.{books_after_bodies}
use Rattle.iso_host.specs.Hosting.{GrowsBy, Replying}
use Rattle.iso_host.specs.Output.{response_to}
use Rattle.iso_guard.specs.Guarding.{Guard}
use Rattle.iso_guard.specs.Entering.{foreign_to, entering_of, books_after_guarded}

-- ---- the response to a message

-- the host's response to a message at these books; that of an invalid transaction to one that asks the order of this key, which may not be spoken
-- for
abbrev pub response_unless : Books → Option TxKey → Option Contents → Option Contents
response_unless books None message = response_to books message
response_unless books (Some key) None = None
response_unless books (Some key) (Some m) = Some (response m (code_alone invalid_transaction))

-- the response to the message of a body; none to a body that ends before its message
abbrev pub response_behind : Guard → Books → List ℕ → Option Contents
response_behind g books body =
    if nat_lt (length body) g.skip then None
    else response_unless books (foreign_to g (drop g.skip body))
    (message_in g.table (drop g.skip body))

-- ---- its bytes

-- the frame of some bytes and the response's plain spelling behind them, or nothing
abbrev pub IsFramedBehind : Layout → Header → List ℕ → Option Contents → List ℕ → Type 0
IsFramedBehind t h before None bytes = bytes ≡ []
IsFramedBehind t h before (Some r) bytes =
    (plain : List ℕ) × PlainSpelling t r plain × (length (before ++ plain) ≤ largest h)
    × (bytes ≡ frame_of h (before ++ plain))

-- what is written for a body at these books: the response behind the bytes that stood before the message
unfoldable pub IsGuardedAnswer : Guard → Books → List ℕ → List ℕ → Type 0
IsGuardedAnswer g books body bytes =
    IsFramedBehind g.table g.header (take g.skip body) (response_behind g books body) bytes

-- a body entered, and the bytes grew by its answer
abbrev pub AnswersGuarded : Guard → Replying → Replying → List ℕ → Type 0
AnswersGuarded g before after body =
    (after.books ≡ books_after_bodies g.table before.books (entering_of g body))
    × GrowsBy (IsGuardedAnswer g before.books body) before.out after.out

-- ---- of bodies, one after the other

-- what is written for these bodies, after the earlier ones
abbrev pub IsGuardedOutputFrom : Guard → Books → List (List ℕ) → List (List ℕ) → List ℕ → Type 0
IsGuardedOutputFrom g books earlier [] bytes = bytes ≡ []
IsGuardedOutputFrom g books earlier (body ∷ bodies) bytes =
    (first : List ℕ) × (others : List ℕ)
    × IsGuardedAnswer g (books_after_guarded g books earlier) body first
    × IsGuardedOutputFrom g books (earlier ++ body ∷ []) bodies others × (bytes ≡ first ++ others)

-- what is written for these bodies: to each its answer at the books after those before it
unfoldable pub IsGuardedOutput : Guard → Books → List (List ℕ) → List ℕ → Type 0
IsGuardedOutput g books bodies bytes = IsGuardedOutputFrom g books [] bodies bytes
