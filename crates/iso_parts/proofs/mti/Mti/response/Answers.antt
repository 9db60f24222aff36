-- A request and an advice have a response: the next function, and an even origin.
use Rattle.std.proofs.Common.{rules, ◌≡◌, ◌⊎◌}
use Rattle.iso_parts.proofs.mti.Mti.response.Goals as goal

pub returns-in-0 : goal.returns-in-0
returns-in-0 c =
    let asked : (c.args.self.now.function ≡ 0) ⊎ (c.args.self.now.function ≡ 2) = c.in-0.is in
    search rules
