use Rattle.std.proofs.Common.{◌∙◌, ◌++◌, ◌∷◌, [], ap, sym, subst, append_assoc, append-nil, List}
use Rattle.iso_frames.specs.declared.reading.Front.{Front}
use Rattle.iso_frames.specs.declared.reading.Read.{Read}
use Rattle.iso_frames.specs.Reading.{TakesFront}
use Rattle.iso_frames.proofs.Framed.{none-taken, one-more}
use Rattle.iso_frames.proofs.reading.take_frames.Goals as goal

pub frames-init : goal.frames-init
frames-init c = ([], none-taken c.args.table.now c.args.header c.args.came.now.items, sym (append-nil c.args.read.now.items))

pub frames-preserved : goal.frames-preserved
frames-preserved c =
    let before = c.frames.invariant in
    let taken = subst (λ (f : Front). TakesFront c.args.table.now c.args.header c.frames.came.items c.take_front.new.came.items f) c.in-Frame.is c.in_ok-take_front.ensures.front in (
      before.0 ++ c.in-Frame.told ∷ [],
      one-more c.frames-2.ensures c.args.table.now c.args.header c.args.came.now.items c.frames.came.items c.take_front.new.came.items taken.0
          before.0 c.in-Frame.told before.1 taken.1 taken.2 taken.3,
      c.in_ok-push-in-Frame.ensures.items ∙ ap (λ (rs : List Read). rs ++ c.in-Frame.told ∷ []) before.2
          ∙ append_assoc c.args.read.now.items before.0 (c.in-Frame.told ∷ []),
    )
