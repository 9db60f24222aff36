-- The names of faults, by their numbers: no bytes where no fault has the number.
use Rattle.std.specs.Prelude.{ℕ, ◌==◌, nat_lt, if◌then◌else◌, List, [], codes}

-- the faults of this library alone
abbrev pub own_name : ℕ → List ℕ
own_name n =
    if n == 1 then codes "Memory"
    else if n == 2 then codes "EmptySlot"
    else if n == 3 then codes "NoSuchTable"
    else if n == 4 then codes "ShortRoom"
    else if n == 5 then codes "TrailingBytes"
    else if n == 6 then codes "NoElement"
    else if n == 7 then codes "BadPart"
    else if n == 8 then codes "BadType"
    else if n == 9 then codes "NoSuchHeader"
    else if n == 10 then codes "ShortParts"
    else []

-- why bytes are no message
abbrev pub unpack_name : ℕ → List ℕ
unpack_name n =
    if n == 101 then codes "Short"
    else if n == 102 then codes "BadMti"
    else if n == 103 then codes "WrongVersion"
    else if n == 104 then codes "BadHex"
    else if n == 105 then codes "ThirdBitmap"
    else if n == 106 then codes "UnknownElement"
    else []

-- what is wrong with a value or its bytes
abbrev pub field_name : ℕ → List ℕ
field_name n =
    if n == 201 then codes "WrongLength"
    else if n == 202 then codes "NotInClass"
    else if n == 203 then codes "PadEnd"
    else if n == 204 then codes "BadLengthDigits"
    else if n == 205 then codes "LengthOver"
    else if n == 206 then codes "BadFiller"
    else if n == 207 then codes "BadHex"
    else []

-- why a message isn't written, or an element isn't set
abbrev pub pack_name : ℕ → List ℕ
pack_name n =
    if n == 301 then codes "WrongVersion"
    else if n == 302 then codes "NoRow"
    else if n == 303 then codes "WrongLength"
    else if n == 304 then codes "NotInClass"
    else if n == 305 then codes "PadEnd"
    else if n == 601 then codes "BadNumber"
    else []

-- what is wrong with a table
abbrev pub table_name : ℕ → List ℕ
table_name n =
    if n == 401 then codes "NotJson"
    else if n == 402 then codes "Shape"
    else if n == 403 then codes "BadVersion"
    else if n == 404 then codes "BadNumber"
    else if n == 405 then codes "Twice"
    else if n == 406 then codes "BadMax"
    else if n == 407 then codes "CodingClass"
    else if n == 408 then codes "PadNotAllowed"
    else if n == 409 then codes "Profile"
    else []

-- what is wrong with a frame
abbrev pub frame_name : ℕ → List ℕ
frame_name n =
    if n == 501 then codes "TooLong"
    else if n == 502 then codes "BadDigits"
    else []

-- a hundred numbers for each type of fault
abbrev pub name_of : ℕ → List ℕ
name_of n =
    if nat_lt n 100 then own_name n
    else if nat_lt n 200 then unpack_name n
    else if nat_lt n 300 then field_name n
    else if nat_lt n 400 then pack_name n
    else if nat_lt n 500 then table_name n
    else if nat_lt n 600 then frame_name n
    else pack_name n
