-- What two calls of a stream do together.
use Rattle.std.proofs.Common.{◌≡◌, ℕ, ◌+◌, ◌-◌, ◌<◌, ◌≤◌, List, ◌++◌, length, take, drop, sym, subst, arith, ap, ◌∙◌, inl, inr, length-append, length-drop, length-take}
use Rattle.std.proofs.Math.Seq.{take-add, take-length}
use Rattle.std.proofs.KnownBytes.{Appends-trans}
use Rattle.std.specs.declared.option.Option.{Option}
use Rattle.std.specs.Io.KnownBytes.{Appends}
use Rattle.iso_host.specs.Counts.{Counts}
use Rattle.iso_host.specs.Answering.{FlushesAll}
use Rattle.iso_host.specs.Serving.{IsFlushed, WaitsBehind}
use Rattle.iso_host.specs.Turns.{Spends, TakesTurns}
use Rattle.iso_host.specs.Writing.{Moves}

-- `&bs[at..]`, as a proof sees it
pub rest_from : (at : ℕ) (bs : List ℕ) → take (length bs - at) (drop at bs) ≡ drop at bs
rest_from at bs = subst (λ n. take n (drop at bs) ≡ drop at bs) (length-drop at bs) (take-length (drop at bs))

-- the next bytes of a list follow the first ones
pub appends_more : (a b c : Option (List ℕ)) (bs : List ℕ) (at n : ℕ) → Appends a b (take at bs) → Appends b c (take n (take (length bs - at) (drop at bs))) → Appends a c (take (at + n) bs)
appends_more a b c bs at n p q = subst (Appends a c) (sym (take-add at n bs)) (Appends-trans a b c _ _ p (subst (λ l. Appends b c (take n l)) (rest_from at bs) q))

-- one more call, which moved a byte
pub moves_more : (old mid new : Counts) (count n : ℕ) → Moves old mid count → 0 < n
    → new ≡ record mid { calls = mid.calls + 1; moved = mid.moved + n; unflushed = mid.unflushed + n } → Moves old new (count + n)
moves_more old mid new count n s k e =
    let calls : new.calls ≡ mid.calls + 1 = ap (λ (c : Counts). c.calls) e in
    let moved : new.moved ≡ mid.moved + n = ap (λ (c : Counts). c.moved) e in
    let failures : new.failures ≡ mid.failures = ap (λ (c : Counts). c.failures) e in
    record { calls = omega (arith, s.calls); moved = omega (arith, s.moved); failures = failures ∙ s.failures }

-- one more call took a turn
pub turns_more : (old mid new : Counts) (before left n : ℕ) → Spends old mid before left → TakesTurns old mid before left → 0 < left
    → new ≡ record mid { calls = mid.calls + 1; moved = mid.moved + n; unflushed = mid.unflushed + n } → TakesTurns old new before (left - 1)
turns_more old mid new before left n spends s h e =
    let calls : new.calls ≡ mid.calls + 1 = ap (λ (c : Counts). c.calls) e in
    omega (arith, s)

-- and moved a byte
pub spends_more : (old mid new : Counts) (before left n : ℕ) → Spends old mid before left → 0 < left → 0 < n
    → new ≡ record mid { calls = mid.calls + 1; moved = mid.moved + n; unflushed = mid.unflushed + n } → Spends old new before (left - 1)
spends_more old mid new before left n s h k e =
    let calls : new.calls ≡ mid.calls + 1 = ap (λ (c : Counts). c.calls) e in
    let moved : new.moved ≡ mid.moved + n = ap (λ (c : Counts). c.moved) e in
    let failures : new.failures ≡ mid.failures = ap (λ (c : Counts). c.failures) e in
    record { fewer = omega (arith, s.fewer); moved = omega (arith, s.moved); failures = failures ∙ s.failures }

-- ---- flushes

-- flushed at one call and at the next
pub flushed_more : (old mid new : Counts) (first more : List ℕ) → FlushesAll old mid first → FlushesAll mid new more → FlushesAll old new (first ++ more)
flushed_more old mid new first more so (inl none) = inl none
flushed_more old mid new first more (inl none) (inr same) = inl (ap (λ (c : Counts). c.unflushed) same.0 ∙ none)
flushed_more old mid new first more (inr so) (inr same) = inr (same.0 ∙ so.0, ap (λ (l : List ℕ). l ++ more) so.1 ∙ same.1)

pub flushed_so : (old new : Counts) (bytes : List ℕ) → FlushesAll old new bytes → IsFlushed old new
flushed_so old new bytes (inl none) = inl none
flushed_so old new bytes (inr same) = inr same.0

-- the bytes of a call that writes some and flushes none wait
pub waits_behind : (old mid new : Counts) (less answer : List ℕ) (n : ℕ) → FlushesAll old mid less → n ≤ length answer → new.unflushed ≡ mid.unflushed + n
    → WaitsBehind old new less (less ++ take n answer)
waits_behind old mid new less answer n (inl none) k waits = inl (omega (arith, none, waits, k, length-append less (take n answer), length-take n answer))
waits_behind old mid new less answer n (inr same) k waits =
    let unflushed : mid.unflushed ≡ old.unflushed = ap (λ (c : Counts). c.unflushed) same.0 in
    let empty : length less ≡ 0 = ap length same.1 in
    inr (same.1, omega (arith, unflushed, empty, waits, k, length-append less (take n answer), length-take n answer))
