use Rattle.std.proofs.Common.{rules, ◌++◌, ◌∙◌, append_assoc}
use Rattle.std.proofs.Output.{has_written_append}
use Rattle.iso_wire.specs.Debugging.{debug_element}
use Rattle.iso_wire.proofs.debugging.write_elements.Goals as goal

-- behind one element more, as much less is to come
pub loop-n-preserved : goal.loop-n-preserved
loop-n-preserved g c =
    λ plain.
    let so_far = c.loop-n.invariant plain in (
      so_far.0 ++ debug_element (c.in-Some.n, c.in-Some.value.now),
      has_written_append _ _ _ _ _ _ so_far.1 (search rules),
      append_assoc so_far.0 _ _ ∙ (rw c.in-Some.ensures.steps at so_far.2),
    )
