use Rattle.std.proofs.Common.{◌≡◌, ◌∙◌, ap, arith, refl, sym, take, []}
use Rattle.std.proofs.lemmas.List.{take_all}
use Rattle.iso_log.specs.Slots.{is_whole}
use Rattle.iso_diary.specs.Heading.{magic, heading_bytes}
use Rattle.iso_diary.proofs.Written.{heading_put}
use Rattle.iso_diary.proofs.heading.heading_bytes.Goals as goal
use Rattle.iso_diary.proofs.heading.heading_bytes.Goals.{After-put-2}

bytes_are : (c : After-put-2) → c.put-2.new.bytes ≡ heading_bytes c.args.heading.now
unfolding magic
bytes_are c =
    sym (take_all 128 c.put-2.new.bytes (omega (arith, c.put-2.array_long)))
    ∙ heading_put c.args.heading.now [] (take 24 c.put.new.bytes) (take 28 c.put_number.new.bytes) (take 33 c.put_number-2.new.bytes) (take 44 c.put_number-3.new.bytes) (take 127 c.put_blanks.new.bytes) (take 128 c.put-2.new.bytes)
    refl c.put.ensures c.put_number.ensures c.put_number-2.ensures c.put_number-3.ensures c.put_blanks.ensures c.put-2.ensures

pub returns-clause-bytes : goal.returns-clause-bytes
returns-clause-bytes c = bytes_are c

pub returns-clause-whole : goal.returns-clause-whole
returns-clause-whole c = ap is_whole (bytes_are c) ∙ c.headings_are_whole.ensures c.args.heading.now
