use Rattle.std.proofs.Common.{◌∙◌, arith}
use Rattle.iso_parts.proofs.CountLaws.{count_before, count_behind}
use Rattle.iso_parts.proofs.bitmap.Bitmap.count_below.Goals as goal

pub returns-then-n-le64 : goal.returns-then-n-le64
returns-then-n-le64 c =
    let set = c.args.self.now in
    c.bits_before.ensures ∙ count_before set.primary set.secondary c.args.n c.requires.low c.if-n-le64.true set.not_1

pub returns : goal.returns
returns c =
    let set = c.args.self.now in
    omega (arith, c.bits_before-2.ensures, count_behind set.primary set.secondary c.args.n (omega (arith, c.if-n-le64.false)) c.requires.high set.not_1 set.not_65)
