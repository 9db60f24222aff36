use Rattle.std.proofs.Common.{◌≡◌, ap, ◌∙◌, List}
use Rattle.std.proofs.lemmas.Result.{IfOk-weaker}
use Rattle.iso_acquirer.specs.declared.slot.Slot.{Slot}
use Rattle.iso_drive.specs.Doubtful.{doubtful_in, doubtful_of}
use Rattle.iso_drive.specs.Made.{IsTabled}
use Rattle.iso_drive.proofs.Doubts.{doubts-same}
use Rattle.iso_drive.proofs.doubtful.doubtful_of.Goals as goal

pub returns : goal.returns
returns c =
    IfOk-weaker c.doubtful_in.result (λ stans. stans.items ≡ doubtful_in c.args.pan.now c.args.made.now)
    (λ stans. (slots : List Slot) → IsTabled c.args.made.now slots → stans.items ≡ doubtful_of c.args.pan.now slots)
    (λ stans is slots t. is ∙ ap (doubtful_in c.args.pan.now) t.same ∙ doubts-same c.args.pan.now slots) c.doubtful_in.ensures
