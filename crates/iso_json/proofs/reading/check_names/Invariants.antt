use Rattle.std.proofs.Common.{◌≡◌, ◌++◌, false, drop}
use Rattle.json.specs.Value.{members_view}
use Rattle.iso_json.specs.Said.{names_from}
use Rattle.iso_json.proofs.reading.check_names.Given as goal

-- the complaints so far, and then those of the rest
abbrev pub invariant-loop-member : goal.invariant-loop-member
invariant-loop-member l = record {
  place : l.at ≡ l.member-index;
  names : l.complaints.items ++ names_from l.has_mti l.has_elements l.member-index (members_view (drop l.member-index l.members)) ≡ l.initial.complaints.items ++ names_from false false 0 (members_view l.members);
}
