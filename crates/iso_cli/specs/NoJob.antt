-- Which words spell no job of one kind.
-- Inner: bodies and proofs cite it, and no public clause does.
use Rattle.std.specs.Prelude.{◌≡◌, IsTrue, Bool, true, false, ℕ, List, [], ◌∷◌, codes}
use Rattle.iso_wire.specs.declared.header.Header.{Header}
use Rattle.iso_cli.specs.Words.{Asks, header_name, is_name}
use Rattle.iso_cli.specs.declared.words.Job.{Job}
use Rattle.iso_cli.specs.declared.words.Job.TheVariants.{Echo, Check, Show, Convert, Run}

-- every job but a host on a stream
abbrev pub is_codec : Job → Bool
is_codec Echo = true
is_codec (Check table) = true
is_codec (Show table clear) = true
is_codec (Convert from to) = true
is_codec (Run table accounts header) = false

-- these words spell none of these jobs
abbrev pub AsksNoCodec : List (List ℕ) → Type 0
AsksNoCodec words = (job : Job) → is_codec job ≡ true → Asks words job → ⊥

-- these words spell no host on a stream
abbrev pub AsksNoRun : List (List ℕ) → Type 0
AsksNoRun words =
    (table accounts : List ℕ) (header : Header) → IsTrue (is_name table) → IsTrue (is_name accounts)
    → words ≡ codes "run" ∷ table ∷ accounts ∷ header_name header ∷ [] → ⊥
