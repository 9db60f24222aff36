-- Bytes that are known, and were read whole.
use Rattle.std.proofs.Common.{◌≡◌, ℕ, ◌+◌, ◌≤◌, ◌<◌, Bool, true, false, if◌then◌else◌, List, ◌++◌, length, Option, Some, None, IfSome, OnOk, Result, Ok, Err, sym, ap, subst, ◌∙◌, arith}
use Rattle.std.proofs.lemmas.List.{append-nil, length-append, length-take}
use Rattle.std.proofs.KnownBytes.{Consumes-trans}
use Rattle.std.specs.Io.KnownBytes.{Consumes, IsAtEnd}
use Rattle.iso_host.specs.Counts.{Counts}
use Rattle.iso_cli.specs.Source.{read_of}
use Rattle.iso_cli.specs.Stop.{stop_of_input}
use Rattle.iso_cli.specs.Streaming.{Gave, ReadCause}
use Rattle.iso_cli.specs.Turns.{most_reads}
use Rattle.iso_cli.specs.declared.stop.Stop.TheVariants.{TooManyTurns}
use Rattle.iso_cli.specs.declared.streaming.InputFault.{InputFault}
use Rattle.iso_cli.specs.declared.streaming.InputFault.TheVariants as input
use Rattle.iso_cli.proofs.SourceLemmas.{read_of-short}

-- what was consumed to the end is all that there was
pub consumed_all : (old new : Option (List ℕ)) (bytes : List ℕ) → Consumes old new bytes → IsAtEnd new → IfSome old (λ all. all ≡ bytes)
consumed_all None new bytes c end = tt
consumed_all (Some all) None bytes c end = absurd c
consumed_all (Some all) (Some rest) bytes c end = c ∙ ap (λ (l : List ℕ). bytes ++ l) end ∙ append-nil bytes

-- what holds of the bytes that were read holds of the known ones
pub known_all : (known : Option (List ℕ)) (bytes : List ℕ) (P : List ℕ → Type 0) → IfSome known (λ all. all ≡ bytes) → P bytes → IfSome known P
known_all None bytes P same p = tt
known_all (Some all) bytes P same p = subst P (sym same) p

-- the same of a file that isn't too long
pub known_file : (known : Option (List ℕ)) (bytes : List ℕ) (P : List ℕ → Type 0) → IfSome known (λ held. bytes ≡ read_of held) → length bytes ≤ 1048576 → P bytes → IfSome known P
known_file None bytes P same short p = tt
known_file (Some held) bytes P same short p = subst P (same ∙ read_of-short held (subst (λ (l : List ℕ). length l ≤ 1048576) same short)) p

-- a file of which more bytes were read than one may have is too long
pub known_long : (known : Option (List ℕ)) (bytes : List ℕ) → IfSome known (λ held. bytes ≡ read_of held) → 1048576 < length bytes → IfSome known (λ held. 1048576 < length held)
known_long None bytes same long = tt
known_long (Some held) bytes same long = omega (arith, long, ap length same, length-take 1048577 held)

-- what follows where a step went well
pub where_ok : {E : Type 0} (r : Result Unit E) (P Q : Type 0) → (P → Q) → OnOk r P → OnOk r Q
where_ok (Ok u) P Q f p = f p
where_ok (Err e) P Q f p = tt

-- what a read gave, on top of what was read before
pub read_more : (a b c : Option (List ℕ)) (old bytes new : List ℕ) (went : Bool) → Consumes a b old → Consumes b c bytes
    → new ≡ (if went then old ++ bytes else old) → went ≡ true → Consumes a c new
read_more a b c old bytes new true first next is went = subst (λ (l : List ℕ). Consumes a c l) (sym is) (Consumes-trans a b c old bytes first next)
read_more a b c old bytes new false first next is went = cc

pub read_len : (old more len : ℕ) (went : Bool) → len ≡ (if went then old + more else old) → went ≡ true → len ≡ old + more
read_len old more len true is went = is
read_len old more len false is went = cc

pub gave_more : (a b c : Counts) (old n len : ℕ) → Gave a b old → c ≡ record { calls = b.calls + 1; moved = b.moved + n; failures = b.failures; unflushed = b.unflushed }
    → len ≡ old + n → Gave a c len
gave_more a b c old n len gave is more =
    let moved : c.moved ≡ b.moved + n = ap (λ (x : Counts). x.moved) is in
    record { moved = omega (arith, moved, gave.moved, more); failures = ap (λ (x : Counts). x.failures) is ∙ gave.failures }

-- and where that is too long, so is what there is
pub read_long : (a b c : Option (List ℕ)) (old bytes : List ℕ) → Consumes a b old → Consumes b c bytes → 1048576 < length old + length bytes → IfSome a (λ all. 1048576 < length all)
read_long None b c old bytes first next long = tt
read_long (Some all) None c old bytes first next long = absurd first
read_long (Some all) (Some rest) None old bytes first next long = absurd next
read_long (Some all) (Some rest) (Some end) old bytes first next long =
    omega (arith, long, ap length first, ap length next, length-append old rest, length-append bytes end)

-- the most reads suffice: each of them would have given a byte, which are more than an input may have
pub reads_suffice : (old new : Counts) (fault : InputFault) → ReadCause {A = ℕ} old new most_reads (Err fault) → stop_of_input fault ≡ TooManyTurns → ⊥
reads_suffice old new input.Read cause is = cc
reads_suffice old new input.TooLong cause is = cc
reads_suffice old new input.Memory cause is = cc
reads_suffice old new input.TooManyTurns cause is = omega (arith, cause.2, cause.3)
