use Rattle.std.proofs.Common.{ap, ◌∙◌}
use Rattle.iso_parts.specs.Bitmap.{contains}
use Rattle.iso_parts.specs.Numbers.{members}
use Rattle.iso_wire.specs.Numbers.{unknown}
use Rattle.iso_wire.proofs.NumberLaws.{missing_unknown}
use Rattle.iso_wire.proofs.front.unknown_of.Goals as goal

pub returns : goal.returns
returns c =
    let rows = c.args.table.now.rows in
    c.missing_from.ensures ∙ missing_unknown rows (contains c.known.result) (members c.from_words.result) c.known.ensures ∙ ap (unknown rows) c.from_words.ensures.members
