use Rattle.std.proofs.Common.{sym, ◌∙◌}
use Rattle.iso_parts.proofs.HexDigits.{no_word}
use Rattle.iso_parts.proofs.bitmap_reading.hex_word.Goals as goal

pub returns-else-are_hex_digits : goal.returns-else-are_hex_digits
returns-else-are_hex_digits c = sym (no_word c.args.bytes.now (sym c.are_hex_digits.ensures ∙ c.if-are_hex_digits.false))
