use Rattle.iso_explain.proofs.Shown.{as_described}
use Rattle.iso_explain.proofs.named.push_value.Goals as goal

pub returns : goal.returns
returns c =
    let text = as_described c.args.is_clear c.class_of.result c.args.n c.args.value.now c.shown_of.result c.shown_of.ensures in
    rw (← c.class_of.ensures, ← text) c.push_shown.ensures
