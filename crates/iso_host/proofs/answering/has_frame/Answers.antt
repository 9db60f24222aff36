use Rattle.std.proofs.Common.{length, refl}
use Rattle.iso_wire.specs.Framing.{frame_of}
use Rattle.iso_order.specs.Fitting.{IsAskedUnder}
use Rattle.iso_order.specs.Response.{response}
use Rattle.iso_host.proofs.FrameLemmas.{short_fits}
use Rattle.iso_host.proofs.answering.has_frame.Goals as goal

pub returns : goal.returns
returns c =
    let t = c.args.table.now in
    let h = c.args.header in
    let m = c.args.message.now in
    let a = c.args.answer.now in
    let served : IsAskedUnder t m a = record { ready = c.requires.ready; bytes = c.requires.read.0; read = c.requires.read.1; shown = c.requires.shown } in
    let well = c.responses_are_well_formed.ensures m a c.well_formed-2.ensures c.requires.asks in
    let plain = c.spelled_once.ensures.some t (response m a) c.version-version.ensures.good well (c.responses_fit.ensures t m a served c.requires.asks) in
    (frame_of h plain.0, (plain.0, plain.1, short_fits h (length plain.0) (c.responses_are_short.ensures t m a plain.0 served plain.1), refl))
