use Rattle.std.proofs.Common.{refl}
use Rattle.std.specs.Prelude.{None}
use Rattle.iso_issuer.proofs.Summed.{kept-moved}
use Rattle.iso_issuer.proofs.posting.post_touched.Goals as goal

pub returns-in_default-clause-moved : goal.returns-in_default-clause-moved
returns-in_default-clause-moved c =
    rw (c.in_default.is) (kept-moved None 0 0 (λ pan. refl) (λ pan. refl) c.args.balances.now)
