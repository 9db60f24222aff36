use Rattle.iso_jobs.specs.Encoding.{target_of}
use Rattle.iso_jobs.proofs.EncodingLemmas.{made_used}
use Rattle.iso_jobs.proofs.encoding.make_unless.Goals as goal

pub returns : goal.returns
returns c =
    rw c.if-has_refused.false
    (made_used (target_of c.args.making) c.args.text.now c.args.out.now.items c.make-2.new.out.items c.make-2.result c.make-2.ensures)
