-- What kind of message a frame is, by the number of its message type.
use Rattle.std.specs.Prelude.{ℕ, ◌/◌, ◌%◌, ◌==◌, ◌||◌, if◌then◌else◌, Option, Some, None}
use Rattle.iso_counts.specs.declared.kind.Kind.{Kind}
use Rattle.iso_counts.specs.declared.kind.Kind.TheVariants.{Request, Advice, Reversal, Network, Other, Unreadable}

-- a message about money asks or advises, by its function digit
abbrev pub money_of : ℕ → Kind
money_of function = if function == 0 then Request else if function == 2 then Advice else Other

-- by the class digit: 1 authorizes and 2 debits or credits, 4 takes back, 8 is of the network
abbrev pub class_of : ℕ → ℕ → Kind
class_of class function =
    if class == 1 || class == 2 then money_of function
    else if class == 4 then Reversal
    else if class == 8 then Network
    else Other

-- the kind of a message, by the number of its type
abbrev pub kind_of : ℕ → Kind
kind_of number = class_of (number / 100 % 10) (number / 10 % 10)

-- the kind of a frame, whose message type is known or isn't
abbrev pub kind_of_frame : Option ℕ → Kind
kind_of_frame None = Other
kind_of_frame (Some number) = kind_of number

-- the place of a kind
abbrev pub kind_place : Kind → ℕ
kind_place Request = 0
kind_place Advice = 1
kind_place Reversal = 2
kind_place Network = 3
kind_place Other = 4
kind_place Unreadable = 5
