use Rattle.std.proofs.Common.{arith, sym, ap, ◌∙◌}
use Rattle.std.specs.Prelude.{option_map}
use Rattle.iso_drive.specs.Made.{made_of}
use Rattle.iso_drive.proofs.Row.{below}
use Rattle.iso_drive.proofs.Tabled.{made-at}
use Rattle.iso_drive.proofs.made.made_at.Goals as goal

pub returns-then-stan-eq0 : goal.returns-then-stan-eq0
returns-then-stan-eq0 c = λ slots t. sym (ap (option_map made_of) (below slots 1 c.args.stan t.in_row (omega (arith, c.if-stan-eq0.true))))

pub returns : goal.returns
returns c = λ slots t. c.made_in.ensures ∙ made-at c.args.made.now slots c.args.stan t (omega (arith, c.if-stan-eq0.false))
