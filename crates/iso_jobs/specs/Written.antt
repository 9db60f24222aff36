-- The bytes of a message as an output has them.
use Rattle.std.specs.Prelude.{ℕ, nat_lt, Bool, false, if◌then◌else◌, List, ◌++◌, length, Option, Some, None, codes}
use Rattle.hex.specs.Hex.{encode_upper}
use Rattle.iso_wire.specs.Framing.{frame_of, largest}
use Rattle.iso_wire.specs.declared.header.Header.{Header}
use Rattle.iso_jobs.specs.declared.form.Form.{Form}

-- the bytes, in a frame if there is a header
abbrev pub framed : Option Header → List ℕ → List ℕ
framed None body = body
framed (Some h) body = frame_of h body

-- whether the bytes are more than a header counts
abbrev pub exceeds : Option Header → List ℕ → Bool
exceeds None body = false
exceeds (Some h) body = nat_lt (largest h) (length body)

-- a line of hexadecimal digits
abbrev pub hex_line : List ℕ → List ℕ
hex_line bytes = encode_upper bytes ++ codes "\n"

-- the bytes in their frame, as they are or as hexadecimal digits
abbrev pub written : Form → List ℕ → List ℕ
written form body =
    if form.is_hex then hex_line (framed form.header body) else framed form.header body
