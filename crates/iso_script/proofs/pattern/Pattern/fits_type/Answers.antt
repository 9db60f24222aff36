-- A type that is given fits a message of that type and its repeat.
use Rattle.std.proofs.Common.{rules}
use Rattle.iso_script.proofs.pattern.Pattern.fits_type.Goals as goal

pub returns-in-Some : goal.returns-in-Some
returns-in-Some c = search rules
