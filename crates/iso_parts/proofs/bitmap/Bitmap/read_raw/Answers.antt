use Rattle.std.proofs.Common.{arith}
use Rattle.iso_parts.specs.declared.bitmap.BitmapCoding.TheVariants.{Raw}
use Rattle.iso_parts.proofs.BitmapLaws.{is_found, is_read, read_numbers}
use Rattle.iso_parts.proofs.MapStops.{read_ends, read_stops}
use Rattle.iso_parts.proofs.bitmap.Bitmap.read_raw.Goals as goal

pub returns-clause-found : goal.returns-clause-found
returns-clause-found c = is_found Raw c.args.bytes.now c.read.result (λ i. omega (arith, c.type_inv.bytes i)) c.read.ensures

pub returns-clause-only : goal.returns-clause-only
returns-clause-only c = is_read Raw c.args.bytes.now c.read.result (λ i. omega (arith, c.type_inv.bytes i)) c.read.ensures

pub returns-clause-numbers : goal.returns-clause-numbers
returns-clause-numbers c = read_numbers c.read.result _ c.read.ensures

pub returns-clause-exact : goal.returns-clause-exact
returns-clause-exact c = c.read.ensures

pub returns-clause-more : goal.returns-clause-more
returns-clause-more c = read_ends Raw c.args.bytes.now c.read.result (λ i. omega (arith, c.type_inv.bytes i)) c.read.ensures

pub returns-clause-stops : goal.returns-clause-stops
returns-clause-stops c = read_stops Raw c.args.bytes.now c.read.result (λ i. omega (arith, c.type_inv.bytes i)) c.read.ensures
