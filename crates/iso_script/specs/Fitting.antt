-- Which messages a rule is for.
use Rattle.std.specs.Prelude.{ℕ, Bool, true, false, ◌==◌, ◌&&◌, nat_le, Option, Some, None, option_and_then}
use Rattle.iso_wire.specs.Contents.{Contents}
use Rattle.iso_wire.specs.Decimal.{number_at}
use Rattle.iso_wire.specs.Elements.{value_in}
use Rattle.iso_order.specs.Fields.{base_of}
use Rattle.iso_order.specs.Order.{same_pan}
use Rattle.iso_order.specs.Pan.{AccountNumber, pan_of}
use Rattle.iso_script.specs.declared.pattern.Amounts.{Amounts}
use Rattle.iso_script.specs.declared.pattern.Pattern.{Pattern}

-- ---- what is read of a message

-- its account number (element 2), if it has one
abbrev pub account_in : Contents → Option AccountNumber
account_in m = option_and_then pan_of (value_in m.elements 2)

-- its amount (element 4), if it has one
abbrev pub amount_in : Contents → Option ℕ
amount_in m = number_at m.elements 4

-- its type without a repeat
abbrev pub base_in : Contents → ℕ
base_in m = base_of m.mti

-- ---- what is asked of it

-- the account number is there, and is this one
abbrev pub is_account : AccountNumber → Option AccountNumber → Bool
is_account a None = false
is_account a (Some b) = same_pan a b

-- the amount is there, and is one of these
abbrev pub is_within : Amounts → Option ℕ → Bool
is_within amounts None = false
is_within amounts (Some n) = nat_le amounts.least n && nat_le n amounts.most

-- what isn't given fits each message
abbrev pub fits_account : Option AccountNumber → Contents → Bool
fits_account None m = true
fits_account (Some a) m = is_account a (account_in m)

-- the message's amount is in the range, if one is given
abbrev pub fits_amount : Option Amounts → Contents → Bool
fits_amount None m = true
fits_amount (Some amounts) m = is_within amounts (amount_in m)

-- the message is of the type, if one is given
abbrev pub fits_type : Option ℕ → Contents → Bool
fits_type None m = true
fits_type (Some mti) m = base_in m == mti

-- a message fits where it has all that is given
abbrev pub fits : Pattern → Contents → Bool
fits p m = fits_account p.account m && fits_amount p.amounts m && fits_type p.mti m
