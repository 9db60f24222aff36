-- What all fields tell is what was found and what the rest tells; the rows can stand in a table; each field before is found or left.
use Rattle.std.proofs.Common.{◌≡◌, ◌+◌, ℕ, length, IsTrue}
use Rattle.std.specs.Option.{option_or}
use Rattle.serde_json.specs.View.{members_view}
use Rattle.iso_parts.specs.Numbers.{is_element}
use Rattle.iso_table.specs.Accepted.{row_of}
use Rattle.iso_table.specs.Members.{member_count}
use Rattle.iso_import.specs.Found.{found, found_count, CanStand}
use Rattle.iso_import.specs.Told.{bitmap_told, first_told, mti_told, row_told}
use Rattle.iso_import.proofs.moov.taken_from.Given as goal

abbrev pub invariant-loop-key : goal.invariant-loop-key
invariant-loop-key l = record {
  rows : CanStand l.taken.rows.items;
  mti : first_told mti_told (members_view l.fields.entries) ≡ option_or l.taken.mti (first_told mti_told (members_view l.key-iterator));
  bitmap : first_told bitmap_told (members_view l.fields.entries) ≡ option_or l.taken.bitmap (first_told bitmap_told (members_view l.key-iterator));
  told : (number : ℕ) → IsTrue (is_element number)
      → first_told (row_told number) (members_view l.fields.entries)
      ≡ option_or (row_of l.taken.rows.items number) (first_told (row_told number) (members_view l.key-iterator));
  left : length l.taken.left.items + found_count (found l.taken) + member_count (members_view l.key-iterator) ≡ member_count (members_view l.fields.entries);
}
