-- What a host with rules does to a body: what enters its books, and what goes out.
use Rattle.std.specs.Prelude.{◌≡◌, ℕ, Bool, true, false, List, [], ◌∷◌, Option, Some, None, replicate}
use Rattle.iso_table.specs.Layout.{Layout}
use Rattle.iso_wire.specs.declared.header.Header.{Header}
use Rattle.iso_wire.specs.Contents.{Contents}
use Rattle.iso_wire.specs.Framing.{frame_of}
use Rattle.iso_order.specs.declared.verdict.Verdict.{Verdict}
use Rattle.iso_order.specs.declared.verdict.Verdict.TheVariants.{Order, Reply}
use Rattle.iso_order.specs.declared.verdict.Verdict.TheVariants as asks
use Rattle.iso_order.specs.Outcome.{Outcome, code_alone}
use Rattle.iso_order.specs.Verdict.{verdict}
use Rattle.iso_issuer.specs.Books.{Books}
use Rattle.iso_host.specs.Asking.{message_in}
use Rattle.iso_host.specs.Handling.{entered_by}
use Rattle.iso_host.specs.Hosting.{GrowsBy, Replying, replying}
use Rattle.iso_host.specs.Links.{Agreed}
use Rattle.iso_host.specs.Output.{IsAnswerTo, IsFramed, response_with}
use Rattle.iso_script.specs.Behaving.{IsBehaviourTo, counted_by}
use Rattle.iso_script.specs.declared.behaviour.Behaviour.{Behaviour}
use Rattle.iso_script.specs.declared.behaviour.Behaviour.TheVariants.{Honest, Ruled}
use Rattle.iso_script.specs.declared.behaviour.Deed.{Deed}
use Rattle.iso_script.specs.declared.behaviour.Deed.TheVariants.{Answer, Delay, Silent, Cut, Garbage}
use Rattle.iso_script.specs.declared.counted.Counted.{Counted}

-- the books of a host, and its rules
pub record Acting : Type 0 where
  pub books : Books
  pub rules : List Counted

-- a host with rules that replies into a buffer
pub record Serving : Type 0 where
  pub host : Acting
  pub out : List ℕ

-- this host and these bytes
abbrev pub serving : Acting → List ℕ → Serving
serving host out = record { host = host; out = out }

-- whole bytes are this message, or they are none
abbrev pub IsReadWhole : Layout → List ℕ → Contents → Bool → Type 0
IsReadWhole t body m true = message_in t body ≡ Some m
IsReadWhole t body m false = message_in t body ≡ None

-- ---- what enters

-- the books once a message came that this was done to: a rule that answers keeps it from them
abbrev pub books_by_deed : Deed → Books → Option Contents → Books
books_by_deed (Answer code) books message = books
books_by_deed (Delay time) books message = entered_by books message
books_by_deed Silent books message = entered_by books message
books_by_deed Cut books message = entered_by books message
books_by_deed Garbage books message = entered_by books message

-- the books once it came
abbrev pub books_by : Behaviour → Books → Option Contents → Books
books_by Honest books message = entered_by books message
books_by (Ruled number deed) books message = books_by_deed deed books message

-- ---- what goes out

-- the code that a rule gives, where a host answers
abbrev pub code_to : ℕ → Verdict → Option Outcome
code_to code (Order o) = Some (code_alone code)
code_to code (Reply other) = Some (code_alone code)
code_to code asks.Silent = None

-- the response with that code
abbrev pub response_by : ℕ → Option Contents → Option Contents
response_by code None = None
response_by code (Some m) = response_with m (code_to code (verdict m))

-- bytes that no table reads
abbrev pub garbage : List ℕ
garbage = replicate 8 255

-- a frame of them in place of an answer, where there is one
abbrev pub garbage_for : Header → List ℕ → List ℕ
garbage_for h [] = []
garbage_for h (b ∷ bs) = frame_of h garbage

-- something in place of the host's answer
abbrev pub InPlace : (List ℕ → List ℕ) → Agreed → Books → Option Contents → List ℕ → Type 0
InPlace other l books message bytes =
    (honest : List ℕ) × IsAnswerTo l.table l.header books message honest × (bytes ≡ other honest)

-- what is written to a message that this is done to
abbrev pub IsWrittenBy : Deed → Agreed → Books → Option Contents → List ℕ → Type 0
IsWrittenBy (Answer code) l books message bytes =
    IsFramed l.table l.header (response_by code message) bytes
IsWrittenBy (Delay time) l books message bytes = IsAnswerTo l.table l.header books message bytes
IsWrittenBy Silent l books message bytes = InPlace (λ _. []) l books message bytes
IsWrittenBy Cut l books message bytes = InPlace (λ _. []) l books message bytes
IsWrittenBy Garbage l books message bytes = InPlace (garbage_for l.header) l books message bytes

-- what is written to it
abbrev pub IsWritten : Behaviour → Agreed → Books → Option Contents → List ℕ → Type 0
IsWritten Honest l books message bytes = IsAnswerTo l.table l.header books message bytes
IsWritten (Ruled number deed) l books message bytes = IsWrittenBy deed l books message bytes

-- ---- both

-- a message of a link, or none, was treated so: the books and the bytes of the answers
abbrev pub Treats : Behaviour → Agreed → Replying → Replying → Option Contents → Type 0
Treats b l before after message = (after.books ≡ books_by b before.books message)
    × GrowsBy (IsWritten b l before.books message) before.out after.out

-- a body that came on a link was treated as its rules say
pub record Misbehaves (l : Agreed) (before after : Serving) (body : List ℕ)
    (b : Behaviour) : Type 0 where
  pub behaves : IsBehaviourTo before.host.rules (message_in l.table body) b
  pub treats : Treats b l (replying before.host.books before.out)
      (replying after.host.books after.out) (message_in l.table body)
  pub counts : after.host.rules ≡ counted_by before.host.rules (message_in l.table body)

-- no table reads the bytes that stand for no message
abbrev pub ReadByNone : Type 0
ReadByNone = (t : Layout) → message_in t garbage ≡ None
