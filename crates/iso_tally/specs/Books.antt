-- Whether both ends have the same on each account.
use Rattle.std.specs.Prelude.{◌≡◌, ◌-ℤ◌, pos, List, Some}
use Rattle.std.specs.List.{All}
use Rattle.iso_tally.specs.declared.books.AccountBooks.{AccountBooks}

-- the host told what was on the account less what was spent of it
abbrev pub IsAgreed : AccountBooks → Type 0
IsAgreed b = b.told ≡ Some (b.opening -ℤ pos b.spent)

-- both ends agree on every account
abbrev pub AllAgree : List AccountBooks → Type 0
AllAgree books = All IsAgreed books
