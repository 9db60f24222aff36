use Rattle.std.proofs.Common.{◌∙◌, refl}
use Rattle.iso_acquirer.proofs.Made.{reversal-fits, is_some_if, value_if}
use Rattle.iso_acquirer.proofs.acquirer.reversal_under.Goals as goal

pub unwrap-requires : goal.unwrap-requires
unwrap-requires c =
    let fits = reversal-fits c.args.order c.args.stan c.key-original.ensures.valid c.requires.base c.requires.few in
    is_some_if _ _ c.new.result (rw c.key-original.ensures.value fits) c.new.ensures

pub returns : goal.returns
returns c =
    let fits = reversal-fits c.args.order c.args.stan c.key-original.ensures.valid c.requires.base c.requires.few in
    let made = value_if _ _ c.unwrap.result c.new.result (rw c.key-original.ensures.value fits) c.new.ensures c.unwrap.ensures in
    made ∙ rw c.key-original.ensures.value refl
