-- Bytes that no table reads.
use Rattle.std.proofs.Common.{◌≡◌, refl, ℕ, List}
use Rattle.std.specs.Prelude.{Option, None}
use Rattle.iso_parts.specs.declared.bitmap.BitmapCoding.{BitmapCoding}
use Rattle.iso_parts.specs.declared.spec.FieldSpec.{FieldSpec}
use Rattle.iso_parts.specs.declared.digits.Digits.{Digits}
use Rattle.iso_parts.specs.declared.digits.Digits.TheVariants.{Ascii, Bcd}
use Rattle.iso_wire.specs.Reading.{message_at}
use Rattle.iso_host.specs.Asking.{message_in}
use Rattle.iso_script.specs.Misbehaving.{garbage, ReadByNone}

-- their first bytes are no digits, so they have no type
no_type : (version : ℕ) (mti : Digits) (bitmap : BitmapCoding) (rows : List (Option FieldSpec))
    → message_in (record { version = version; mti = mti; bitmap = bitmap; rows = rows }) garbage ≡ None
unfolding message_in message_at
no_type version Ascii bitmap rows = refl
no_type version Bcd bitmap rows = refl

pub read_by_none : ReadByNone
read_by_none t = no_type t.version t.mti t.bitmap t.rows
