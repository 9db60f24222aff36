use Rattle.std.proofs.Common.{◌≡◌, ℕ, suc, ◌-◌, take, sym, ap, ◌∙◌, arith}
use Rattle.iso_wire.specs.Ends.{last_end}
use Rattle.iso_wire.proofs.Buffers.{last_end-take}
use Rattle.iso_wire.proofs.elements.start_of.Goals as goal

pub returns-else-at-eq0 : goal.returns-else-at-eq0
returns-else-at-eq0 c =
    let ends = c.args.ends.now in
    let next : c.args.at ≡ suc (c.args.at - 1) = omega (arith, c.if-at-eq0.false) in
    sym (ap (λ (k : ℕ). last_end 0 (take k ends)) next ∙ last_end-take 0 (c.args.at - 1) ends 0 (omega (arith, next, c.requires)))
