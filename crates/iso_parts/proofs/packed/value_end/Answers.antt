use Rattle.std.proofs.Common.{rules}
use Rattle.iso_parts.proofs.Nibbles.{end_step, end_stop, whole_rest}
use Rattle.iso_parts.proofs.Texts.{length_characters}
use Rattle.iso_parts.proofs.packed.value_end.Goals as goal

pub loop-to-init : goal.loop-to-init
loop-to-init c = search (rules, whole_rest, length_characters)

pub loop-to-preserved : goal.loop-to-preserved
loop-to-preserved c = search (rules, end_step, length_characters)

pub returns-then-character_at-pad-clause-front : goal.returns-then-character_at-pad-clause-front
returns-then-character_at-pad-clause-front c = search (rules, end_stop, length_characters)
