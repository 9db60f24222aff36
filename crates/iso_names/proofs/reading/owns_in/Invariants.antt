use Rattle.std.proofs.Common.{◌≡◌, map}
use Rattle.serde_json.specs.View.{members_view}
use Rattle.iso_names.specs.Own.{own_view}
use Rattle.iso_names.specs.Document.{owns_in, behind}
use Rattle.iso_names.proofs.reading.owns_in.Given as goal

-- the own names so far, and then those of the rest
abbrev pub invariant-loop-key : goal.invariant-loop-key
invariant-loop-key l = owns_in (members_view l.members.entries) ≡ behind (map own_view l.own.items) (owns_in (members_view l.key-iterator))
