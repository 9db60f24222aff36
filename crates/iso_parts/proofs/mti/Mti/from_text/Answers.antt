-- Four ASCII digits are the type with these digits.
use Rattle.std.proofs.Common.{rules, ◌≡◌, ◌-◌, ℕ, List, Some, get_or, sym}
use Rattle.iso_parts.specs.Mti.{digits_in}
use Rattle.iso_parts.proofs.mti.Mti.from_text.Goals as goal

pub returns-in-48-to-57 : goal.returns-in-48-to-57
returns-in-48-to-57 c =
    let t : List ℕ = c.args.text.now in
    let read : digits_in t ≡ Some (get_or t 0 0 - 48, get_or t 1 0 - 48, get_or t 2 0 - 48, get_or t 3 0 - 48) = search rules in
    sym read
