use Rattle.std.proofs.Common.{rules}
use Rattle.iso_parts.proofs.Nibbles.{start_none}
use Rattle.iso_parts.proofs.Texts.{length_characters}
use Rattle.iso_parts.proofs.packed.value_start.Goals as goal

pub returns-after-loop-at-clause-rest : goal.returns-after-loop-at-clause-rest
returns-after-loop-at-clause-rest c = search (rules, start_none, length_characters)
