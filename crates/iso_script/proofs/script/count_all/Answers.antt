use Rattle.std.proofs.Common.{◌∙◌, ap, sym, slice_set}
use Rattle.std.proofs.lemmas.List.Edits.{map_over_more}
use Rattle.iso_script.specs.Turns.{counted}
use Rattle.iso_script.specs.declared.counted.Counted.{Counted}
use Rattle.iso_script.proofs.script.count_all.Goals as goal

pub loop-counted-preserved : goal.loop-counted-preserved
loop-counted-preserved c =
    ap (λ (x : Counted). slice_set c.loop-counted.rules c.loop-counted.counted-index x) (c.count.ensures ∙ ap (counted c.args.message.now) (sym c.counted-item.is))
    ∙ map_over_more (counted c.args.message.now) c.args.rules.now c.loop-counted.rules c.loop-counted.counted-index c.counted-item.result c.loop-counted-test.true c.loop-counted.invariant c.counted-item.is
