use Rattle.std.proofs.Common.{◌≡◌, length, arith, ap}
use Rattle.std.specs.Prelude.{is_ok}
use Rattle.iso_shared.proofs.Headings.{writer_is}
use Rattle.iso_shared.proofs.heading.writer_digits.Goals as goal

pub returns-clause-writer : goal.returns-clause-writer
returns-clause-writer c =
    let long : length c.args.writer.now.bits ≡ 16 = omega (arith, c.encode_to_slice.ensures.fits.0 (ap is_ok c.unwrap.ensures)) in
    writer_is c.args.writer.now long c.are_bytes.ensures
