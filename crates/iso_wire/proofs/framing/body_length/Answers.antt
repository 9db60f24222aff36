use Rattle.std.proofs.Common.{sym, ◌∙◌, arith, take}
use Rattle.iso_wire.specs.Spelling.{AreBytes}
use Rattle.iso_wire.proofs.Bytes.{bytes_take}
use Rattle.iso_wire.proofs.FrameHeaders.{header_takes}
use Rattle.iso_wire.proofs.framing.body_length.Goals as goal

pub returns-in-Some : goal.returns-in-Some
returns-in-Some c =
    let input = c.args.input.now in
    let size = c.size-size.result in
    let bytes : AreBytes (take size input) = bytes_take size input (λ i. omega (arith, c.type_inv.input i)) in
    let header = header_takes c.args.header c.in-Some.length (take size input) bytes (sym c.length_of.ensures ∙ c.in-Some.is) in
    rw (← c.size-size.ensures) (header.same, header.fits)
