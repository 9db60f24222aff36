use Rattle.std.proofs.Common.{◌≡◌, ◌++◌, length, drop, ◌∙◌, refl, arith}
use Rattle.std.proofs.lemmas.List.{take_at}
use Rattle.iso_wire.specs.Framing.{frame_of}
use Rattle.iso_host.proofs.FrameLemmas.{short_fits, closed_behind}
use Rattle.iso_host.proofs.answering.append_response.Goals as goal

pub returns-clause-framed : goal.returns-clause-framed
returns-clause-framed c =
    let h = c.args.header in
    let packed = c.in-Ok.ensures.packed in
    let closed = c.close_behind.new.bytes in
    let framed : closed ≡ c.args.out.now.items ++ frame_of h packed.0 =
    closed_behind h c.args.out.now.items c.open_frame.new.out.items c.as_mut_slice.result.now packed.0 closed c.len-start.result (omega (arith, c.len-start.ensures, c.args.out.now.ok.0)) c.in_ok-open_frame.ensures.ok
    (c.as_mut_slice.ensures.value ∙ packed.2) c.close_behind.ensures in
    let size : length closed ≡ c.append_message.new.out.len = omega (arith, c.close_behind.auto.bytes, c.as_mut_slice.ensures.len) in (
      frame_of h packed.0,
      (packed.0, packed.1, short_fits h (length packed.0) (c.requires.short packed.0 packed.1), refl),
      take_at closed (drop (length closed) c.append_message.new.out.items) c.append_message.new.out.len size ∙ framed,
    )
