-- What a call answers: how many bytes it wrote to the front of the caller's room, or -1 and a fault.
use Rattle.std.specs.Prelude.{◌≡◌, ◌⊎◌, ℤ, pos, negsuc, ℕ, ◌<◌, ◌≤◌, List, length, take, drop, Result, Ok, Err}
use Rattle.iso_c.specs.declared.fault.RumpadolFault.{RumpadolFault}
use Rattle.iso_c.specs.FaultNumbers.{short_room}

-- the bytes of the caller's room before a call, and after it
pub record Room : Type 0 where
  pub old : List ℕ
  pub new : List ℕ

-- the room's first bytes, so many, have the property, and the others are as they were
pub record Writes (P : List ℕ → Type 0) (n : ℕ) (room : Room) : Type 0 where
  pub fits : n ≤ length room.new
  pub front : P (take n room.new)
  pub behind : drop n room.new ≡ drop n room.old

-- the room is as it was, and the fault has the property, or tells how many bytes with the other one are wanted
pub record WritesNothing (P : List ℕ → Type 0) (Q : RumpadolFault → Type 0) (room : Room)
    (fault : RumpadolFault) : Type 0 where
  pub untouched : room.new ≡ room.old
  pub reason : Q fault
      ⊎ ((b : List ℕ) × P b × (length room.old < length b) × (fault ≡ short_room (length b)))

-- a length and bytes with the one property, or -1 and a fault with the other
abbrev pub Replies : (List ℕ → Type 0) → (RumpadolFault → Type 0) → ℤ → Room → RumpadolFault
    → Type 0
Replies P Q (pos n) room fault = Writes P n room
Replies P Q (negsuc k) room fault = (k ≡ 0) × WritesNothing P Q room fault

-- the reply to a result of that view
abbrev pub RepliesTo : Result (List ℕ) RumpadolFault → ℤ → Room → RumpadolFault → Type 0
RepliesTo (Ok b) n room fault = Replies (λ w. w ≡ b) (λ f. ⊥) n room fault
RepliesTo (Err e) n room fault = Replies (λ w. ⊥) (λ f. f ≡ e) n room fault

-- the fault is as it was, unless the answer is -1
abbrev pub KeepsFault : ℤ → RumpadolFault → RumpadolFault → Type 0
KeepsFault (pos n) old new = new ≡ old
KeepsFault (negsuc k) old new = Unit {0}

-- done, or -1
abbrev pub Done : ℤ → Type 0 → Type 0 → Type 0
Done (pos n) P Q = (n ≡ 0) × P
Done (negsuc k) P Q = (k ≡ 0) × Q
