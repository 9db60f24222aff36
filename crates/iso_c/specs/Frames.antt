-- Frames by the number of a header.
use Rattle.std.specs.Prelude.{◌≡◌, ◌+◌, ℕ, zero, suc, ℤ, pos, negsuc, ◌==◌, nat_lt, if◌then◌else◌, true, List, [], ◌∷◌, length, Option, Some, None}
use Rattle.iso_wire.specs.declared.header.Header.{Header}
use Rattle.iso_wire.specs.declared.header.Header.TheVariants.{Binary2, Ascii4, Bcd2}
use Rattle.iso_wire.specs.declared.framing.FrameFault.TheVariants.{TooLong, BadDigits}
use Rattle.iso_wire.specs.Framing.{largest, Frames, Begins, NeedsMore, is_bad_header}
use Rattle.iso_c.specs.declared.fault.RumpadolFault.{RumpadolFault}
use Rattle.iso_c.specs.FaultNumbers.{no_memory, no_such_header, frame_fault}
use Rattle.iso_c.specs.Parts.{Part, bytes_in}

-- 0 names two bytes, 1 four ASCII digits, 2 four BCD digits
abbrev pub header_named : ℕ → Option Header
header_named name = if name == 0 then Some Binary2 else if name == 1 then Some Ascii4
    else if name == 2 then Some Bcd2 else None

-- the bytes are the frame of the one body
abbrev pub FramesBy : Option Header → List ℕ → List ℕ → Type 0
FramesBy (Some h) body b = Frames h (body ∷ []) b
FramesBy None body b = ⊥

-- a body that the header can't count is too long, and for any other memory ran out
abbrev pub IsFrameFault : Option Header → List ℕ → RumpadolFault → Type 0
IsFrameFault (Some h) body f =
    f ≡ (if nat_lt (largest h) (length body) then frame_fault TooLong else no_memory)
IsFrameFault None body f = f ≡ no_such_header

-- a frame of so many bytes begins the input, and its body is told; 0 where neither a frame nor a bad header does; else -1
abbrev pub UnframesBy : Header → List ℕ → ℤ → Part → RumpadolFault → Type 0
UnframesBy h b (pos zero) body f = NeedsMore h b × (body.new ≡ body.old)
UnframesBy h b (pos (suc k)) body f = Begins h b (bytes_in b body.new) (suc k)
    × (body.new.start + body.new.length ≡ suc k) × (body.new.element ≡ 0)
UnframesBy h b (negsuc k) body f = (k ≡ 0) × (f ≡ frame_fault BadDigits)
    × (is_bad_header h b ≡ true) × (body.new ≡ body.old)

-- the same where the number names a header; where it names none, -1
abbrev pub Unframes : Option Header → List ℕ → ℤ → Part → RumpadolFault → Type 0
Unframes (Some h) b n body f = UnframesBy h b n body f
Unframes None b (pos n) body f = ⊥
Unframes None b (negsuc k) body f = (k ≡ 0) × (f ≡ no_such_header) × (body.new ≡ body.old)
