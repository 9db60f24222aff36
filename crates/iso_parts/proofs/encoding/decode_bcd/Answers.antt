use Rattle.std.proofs.Common.{arith}
use Rattle.std.proofs.lemmas.Result.{err_from_is_err_and}
use Rattle.std.proofs.lemmas.Grind.{common_steps}
use Rattle.iso_parts.proofs.Buffers.{Keeps-front}
use Rattle.iso_parts.proofs.encoding.decode_bcd.Goals as goal

pub returns-in_err-decode_characters-in-len1-up : goal.returns-in_err-decode_characters-in-len1-up
returns-in_err-decode_characters-in-len1-up c =
    let p = err_from_is_err_and c.from_residual-in_err-decode_characters-in-len1-up.result c.from_residual-in_err-decode_characters-in-len1-up.ensures.1 in
    rw p.1 (λ other. absurd (other p.2), Keeps-front c.args.out.now.items _ c.decode_characters-in-len1-up.new.out.items (rw (c.in_ok-push-in-len1-up.ensures.items) at c.in_err-decode_characters-in-len1-up.ensures.err))

pub returns-then-first-ne15 : goal.returns-then-first-ne15
returns-then-first-ne15 c = grind (arith, common_steps)
