use Rattle.std.proofs.Common.{◌≡◌, drop}
use Rattle.json.specs.Value.{members_view}
use Rattle.iso_parts.specs.Bitmap.{contains}
use Rattle.iso_json.specs.Heard.{heard, none_seen, with_entries}
use Rattle.iso_json.proofs.entries.read_entries.Given as goal

-- reading the rest after what was read gives what reading all does
abbrev pub invariant-loop-member : goal.invariant-loop-member
invariant-loop-member l = record {
  mti : l.message.mti ≡ l.initial.message.mti;
  place : l.at ≡ l.member-index;
  heard : with_entries l.table.rows (contains l.seen) l.member-index (members_view (drop l.member-index l.members)) (heard l.message l.complaints) ≡ with_entries l.table.rows none_seen 0 (members_view l.members) (heard l.initial.message l.initial.complaints);
}
