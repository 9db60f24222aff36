-- What the echo writes.
use Rattle.std.specs.Prelude.{◌≡◌, ℕ, ◌≤◌, false, List, ◌++◌, length, take, Option, IfSome, codes}
use Rattle.std.specs.Io.KnownBytes.{Appends}
use Rattle.iso_parts.specs.declared.digits.Digits.TheVariants.{Ascii}
use Rattle.iso_table.specs.Layout.{Layout}
use Rattle.iso_table.specs.Edition87.{IsEdition87}
use Rattle.iso_wire.specs.Contents.{Contents}
use Rattle.iso_wire.specs.Describing.{used_bytes, AreLinesOf}
use Rattle.iso_wire.specs.Spelling.{Spelling, PlainSpelling}
use Rattle.iso_order.specs.declared.verdict.Verdict.{Verdict}
use Rattle.iso_order.specs.declared.verdict.Verdict.TheVariants.{Order, Reply, Silent}
use Rattle.iso_order.specs.Outcome.{code_alone}
use Rattle.iso_order.specs.Verdict.{verdict}
use Rattle.iso_order.specs.Response.{response}

-- the answer to a verdict: the plain spelling of the response where the message itself decides, else `none`
abbrev pub AnswersBy : Layout → Contents → Verdict → List ℕ → Type 0
AnswersBy t m (Reply code) b = PlainSpelling t (response m (code_alone code)) b
AnswersBy t m (Order o) b = b ≡ codes "none"
AnswersBy t m Silent b = b ≡ codes "none"

-- these bytes are the answer to the message
abbrev pub Answers : Layout → Contents → List ℕ → Type 0
Answers t m b = AnswersBy t m (verdict m) b

-- the line of an answer
abbrev pub answer_line : List ℕ → List ℕ
answer_line b = codes "ANSWER=" ++ b ++ codes "\n"

-- the bytes begin with a message, and what is written of it is its lines, with what a bystander shouldn't read hidden, and
-- then its answer
abbrev pub Echoes : Layout → List ℕ → List ℕ → Type 0
Echoes t all b =
    (m : Contents) × (n : ℕ) × (lines : List ℕ) × (answer : List ℕ) × (n ≤ length all)
    × Spelling t m (take n all) × AreLinesOf false t m (used_bytes n (length all)) lines
    × Answers t m answer × (b ≡ lines ++ answer_line answer)

-- what was appended is that, under the table of the 1987 edition in ASCII
abbrev pub EchoesOnStreams : Option (List ℕ) → Option (List ℕ) → Option (List ℕ) → Type 0
EchoesOnStreams input old new =
    IfSome input
    (λ all. (t : Layout) × (b : List ℕ) × IsEdition87 Ascii t × Echoes t all b × Appends old new b)
