-- How many transactions are of which kind.
use Rattle.std.specs.Prelude.{◌+◌, ◌==◌, ◌&&◌, ℕ, Bool, nat_lt, nat_le, if◌then◌else◌}
use Rattle.iso_mix.specs.declared.mix.Kind.{Kind}
use Rattle.iso_mix.specs.declared.mix.Kind.TheVariants.{Purchase, Hold, Complete, Inquiry, Undo}
use Rattle.iso_mix.specs.declared.mix.Mix.{Mix}

-- all are purchases
abbrev pub is_none : Mix → Bool
is_none m = m.hold == 0 && m.complete == 0 && m.inquiry == 0 && m.undo == 0

-- no more than a hundred of a hundred
abbrev pub is_fair : Mix → Bool
is_fair m = nat_le (m.hold + m.complete + m.inquiry + m.undo) 100

-- which kind a drawn number is: the first are holds, then completions, inquiries and partial reversals
abbrev pub kind_of : Mix → ℕ → Kind
kind_of m draw =
    if nat_lt draw m.hold then Hold
    else if nat_lt draw (m.hold + m.complete) then Complete
    else if nat_lt draw (m.hold + m.complete + m.inquiry) then Inquiry
    else if nat_lt draw (m.hold + m.complete + m.inquiry + m.undo) then Undo
    else Purchase
