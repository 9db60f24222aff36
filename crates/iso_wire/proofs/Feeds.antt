-- Reading on in further pieces.
use Rattle.std.proofs.Common.{◌≡◌, ◌≢◌, ℕ, ◌+◌, ◌≤◌, true, ltb, List, [], ◌++◌, length, take, Result, Ok, Err, ◌⊎◌, inl, inr, refl, sym, subst, ◌∙◌, arith}
use Rattle.std.proofs.lemmas.Bool.{cases_lt}
use Rattle.std.proofs.lemmas.List.{length-take, take-take}
use Rattle.iso_parts.specs.declared.digits.Digits.{Digits}
use Rattle.iso_parts.specs.declared.digits.Digits.TheVariants as digits
use Rattle.iso_table.specs.Layout.{Layout, AreGood}
use Rattle.iso_wire.specs.declared.fault.UnpackFault.{UnpackFault}
use Rattle.iso_wire.specs.declared.fault.UnpackCause.{UnpackCause}
use Rattle.iso_wire.specs.declared.fault.UnpackCause.TheVariants.{Short, BadMti, WrongVersion, BadHex, ThirdBitmap, UnknownElement, Field, Memory}
use Rattle.iso_wire.specs.declared.unpacker.Fed.{Fed}
use Rattle.iso_wire.specs.declared.unpacker.Fed.TheVariants as fed
use Rattle.iso_wire.specs.Contents.{Contents}
use Rattle.iso_wire.specs.Faults.{out_of_memory}
use Rattle.iso_wire.specs.Unpacker.{Feeds, FoundFed}
use Rattle.iso_wire.specs.Taking.{IsRead, KeepsTaken, IsReadyAfter}
use Rattle.iso_parts.specs.Mti.{mti_size}
use Rattle.iso_wire.specs.Reading.{IsFaultOf, message_at, whole}
use Rattle.iso_wire.specs.ReadingLaws.{IsShort, ReadsSpellings, ReadingStays}
use Rattle.iso_wire.specs.Judging.{end_of}
use Rattle.iso_wire.specs.Spelling.{AreBytes, BeginsWithNone, Spelling}
use Rattle.iso_wire.proofs.Bytes.{bytes_take}
use Rattle.iso_wire.proofs.Unpacks.{is_refused, is_settled}

-- no bytes are the front of a message
type_short : (k : Digits) → ltb 0 (mti_size k) ≡ true
type_short digits.Ascii = refl
type_short digits.Bcd = refl

pub start_short : (t : Layout) → IsShort (message_at t [])
unfolding message_at
start_short t = rw (type_short t.mti) refl

pub start_is_short : (t : Layout) (b : List ℕ) → b ≡ [] → IsShort (message_at t b)
start_is_short t b none = subst (λ (l : List ℕ). IsShort (message_at t l)) (sym none) (start_short t)

-- ---- want of memory

memory_or : (c : UnpackCause) → (c ≡ Memory) ⊎ (c ≢ Memory)
memory_or Memory = inl refl
memory_or Short = inr (λ e. cc)
memory_or BadMti = inr (λ e. cc)
memory_or WrongVersion = inr (λ e. cc)
memory_or BadHex = inr (λ e. cc)
memory_or ThirdBitmap = inr (λ e. cc)
memory_or (UnknownElement n) = inr (λ e. cc)
memory_or (Field f) = inr (λ e. cc)

-- where a message is read, the only fault is want of memory
pub only_memory : {A : Type 0} (read : Result A UnpackFault) (e : UnpackFault) → IsRead read → IsFaultOf e read → e ≡ out_of_memory
only_memory (Err f) e is_read h = absurd is_read
only_memory (Ok x) e is_read h =
    elim (memory_or e.cause) [
      | inl memory ↦ h.0 memory
      | inr other ↦ absurd (let same = h.1 other in cc)
    ]

pub is_read : (read : Result (Contents × ℕ) UnpackFault) (end : ℕ) → end_of read ≡ Ok end → IsRead read
is_read (Ok x) end e = tt
is_read (Err f) end e = absurd cc

-- ---- a message that goes on from an unfinished one

pub ends_within : ReadsSpellings → (t : Layout) (b : List ℕ) (m : Contents) (n : ℕ) → AreGood t.rows → AreBytes b → message_at t b ≡ whole m n → n ≤ length b
ends_within reads t b m n good fits read = ((reads t m n b good fits).0 read).0

-- it ends behind it
pub goes_behind : ReadsSpellings → (t : Layout) (b : List ℕ) (before : ℕ) (m : Contents) (n : ℕ) → AreGood t.rows → AreBytes b → IsShort (message_at t (take before b)) → message_at t b ≡ whole m n → before ≤ n
goes_behind reads t b before m n good fits short read =
    elim (cases_lt n before) [
      | inr le ↦ le
      | inl lt ↦
          let found = (reads t m n b good fits).0 read in
          let front : List ℕ = take before b in
          let least : take n front ≡ take n b = take-take n before b (omega arith) in
          let room : n ≤ length front = omega (arith, found.0, length-take before b) in
          let again = (reads t m n front good (bytes_take before b fits)).1 (room, subst (Spelling t m) (sym least) found.1) in
          absurd (subst IsShort again short)
    ]

-- ---- what was found

module _ (reads : ReadsSpellings) (stays : ReadingStays) where
  pub found_fed : (t : Layout) (b : List ℕ) (before : ℕ) (r : Result Fed UnpackFault) → AreGood t.rows → AreBytes b → Feeds before r (message_at t b) → FoundFed t before b r
  found_fed t b before (Ok (fed.Done m used)) good fits h = (reads t m (before + used) b good fits).0 h
  found_fed t b before (Ok fed.More) good fits h = none_by (message_at t b) refl h
    where
      none_by : (read : Result (Contents × ℕ) UnpackFault) → message_at t b ≡ read → IsShort read → BeginsWithNone t b
      none_by (Ok x) e short = absurd short
      none_by (Err e) is short = let no_memory : e.cause ≢ Memory = λ memory. let both : Short ≡ Memory = sym short ∙ memory in cc in is_refused reads t b (Err e) good fits (λ memory. absurd (no_memory memory), λ other. is) no_memory
  found_fed t b before (Err e) good fits h = λ other. is_settled reads stays t b (Err e) good fits h.0 other h.1

pub ready_after : (t : Layout) (old new piece : List ℕ) (r : Result Fed UnpackFault) → IsShort (message_at t old) → Feeds (length old) r (message_at t (old ++ piece)) → KeepsTaken old new piece r → IsReadyAfter t new r
ready_after t old new piece (Ok (fed.Done m used)) short read kept = start_is_short t new kept.0
ready_after t old new piece (Ok fed.More) short read kept = subst (λ (l : List ℕ). IsShort (message_at t l)) (sym kept) read
ready_after t old new piece (Err e) short read kept = (λ memory. subst (λ (l : List ℕ). IsShort (message_at t l)) (sym (kept.0 memory)) short, λ other. (kept.1 other, read.1))
