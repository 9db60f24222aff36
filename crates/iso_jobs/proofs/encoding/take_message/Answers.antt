use Rattle.std.proofs.Common.{refl}
use Rattle.iso_jobs.specs.Encoding.{target_of}
use Rattle.iso_jobs.proofs.EncodingLemmas.{takes_made, refuse_takes}
use Rattle.iso_jobs.proofs.encoding.take_message.Goals as goal

pub returns-in-Ok : goal.returns-in-Ok
returns-in-Ok c =
    let made = c.in-Ok.ensures in
    takes_made (target_of c.args.making) c.args.text.now c.args.pages.now _ made.0 made.1 made.2 refl

pub returns-in-Err : goal.returns-in-Err
returns-in-Err c =
    refuse_takes (target_of c.args.making) c.args.text.now c.make_unless.new.out.items c.args.pages.now c.refuse.new.pages
    c.in-Err.refusal c.refuse.result c.in-Err.ensures c.refuse.ensures.memory c.refuse.ensures.text c.refuse.ensures.refused
