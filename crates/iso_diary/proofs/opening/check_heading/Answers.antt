use Rattle.std.proofs.Common.{◌∙◌, List, ℕ, sym, arith, subst}
use Rattle.sqlite_disk.specs.Disk.{Holds}
use Rattle.iso_diary.specs.Heading.{heading_bytes}
use Rattle.iso_diary.proofs.Scanned.{first_other}
use Rattle.iso_diary.proofs.opening.check_heading.Goals as goal

pub returns-in-Some-clause-fault : goal.returns-in-Some-clause-fault
returns-in-Some-clause-fault g c = λ clean.
    first_other c.slots.ensures (heading_bytes c.args.heading.now) (g.D.Disk.seen c.args.disk.now) c.read_at.new.buf c.in-Some.fault c.read_at.auto.buf
    (subst (λ (f : List ℕ). Holds f 0 c.read_at.new.buf) c.len.ensures.seen (c.in-Ok-read_at.ensures.read clean (omega arith)))
    (sym c.heading_fault.ensures.fault ∙ c.in-Some.is)
