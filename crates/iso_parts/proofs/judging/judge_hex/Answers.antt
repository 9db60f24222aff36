use Rattle.std.proofs.Common.{sym, ◌∙◌}
use Rattle.iso_parts.proofs.Judges.{hex_judged, hex_refused}
use Rattle.iso_parts.proofs.judging.judge_hex.Goals as goal

pub returns-then-are_hex_digits : goal.returns-then-are_hex_digits
returns-then-are_hex_digits c = hex_judged c.args.spec.now c.args.n c.args.body.now c.requires.good c.requires.coding c.requires.size (sym c.are_hex_digits.ensures ∙ c.if-are_hex_digits.true)

pub returns-else-are_hex_digits : goal.returns-else-are_hex_digits
returns-else-are_hex_digits c = hex_refused c.args.spec.now c.args.n c.args.body.now c.requires.coding (sym c.are_hex_digits.ensures ∙ c.if-are_hex_digits.false)
