-- Where the count is odd, the first character shares its byte with the filler 0.
use Rattle.std.proofs.Common.{◌≡◌, ◌++◌, ◌%◌, ◌∷◌, [], get_or, arith}
use Rattle.std.proofs.lemmas.Grind.{common_steps}
use Rattle.iso_parts.proofs.encoding.encode_bcd.Goals as goal

pub returns-in_ok-push-in-len1-up-clause-ok : goal.returns-in_ok-push-in-len1-up-clause-ok
returns-in_ok-push-in-len1-up-clause-ok c =
    let pushed : c.push.new.self.items ≡ c.args.out.now.items ++ (get_or c.args.text.now 0 0 % 16 ∷ []) = c.in_ok-push-in-len1-up.ensures.items in
    grind (arith, common_steps)
