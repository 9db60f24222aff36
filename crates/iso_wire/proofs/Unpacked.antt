-- Whoever answers what reading gives has unpacked.
use Rattle.std.proofs.Common.{ℕ, List, Result}
use Rattle.iso_table.specs.Layout.{Layout, AreGood}
use Rattle.iso_wire.specs.declared.fault.UnpackFault.{UnpackFault}
use Rattle.iso_wire.specs.Contents.{Contents}
use Rattle.iso_wire.specs.Reading.{message_at, Unpacks}
use Rattle.iso_wire.specs.ReadingLaws.{ReadsSpellings, ReadingStays}
use Rattle.iso_wire.specs.Spelling.{AreBytes}
use Rattle.iso_wire.specs.StopsLaws.{StopsAsRead}
use Rattle.iso_wire.specs.Unpacking.{IsUnpacked}
use Rattle.iso_wire.proofs.StopsLaws.{fault_stops, stop_is_told}
use Rattle.iso_wire.proofs.Unpacks.{is_found, is_given, is_refused, is_settled, one_spelling, tells_no_place}

pub is_unpacked : ReadsSpellings → ReadingStays → StopsAsRead → (t : Layout) (b : List ℕ) (r : Result (Contents × ℕ) UnpackFault)
    → AreGood t.rows → AreBytes b → Unpacks r (message_at t b) → IsUnpacked t b r
is_unpacked reads stays stops t b r good bytes exact = record {
  found = is_found reads t b r good bytes exact;
  only = is_given reads t b r good bytes exact;
  exact = exact;
  memory = tells_no_place r (message_at t b) exact;
  stops = fault_stops stops t b r good bytes exact;
  told = stop_is_told stops t b r good bytes exact;
  refused = is_refused reads t b r good bytes exact;
  settled = is_settled reads stays t b r good bytes exact;
  one = λ m other x y u v both first second same. one_spelling reads t m other x y u v good both first second same;
}
