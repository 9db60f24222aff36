use Rattle.std.proofs.Common.{◌≡◌, ◌∙◌, ap, arith, refl, sym, take, [], ◌++◌, ◌+◌, length}
use Rattle.std.proofs.lemmas.List.{take_all}
use Rattle.iso_log.specs.Slots.{is_whole}
use Rattle.iso_shared.specs.Heading.{magic, heading_bytes}
use Rattle.iso_shared.proofs.Headings.{heading_put, length-name}
use Rattle.iso_shared.proofs.heading.heading_bytes.Goals as goal
use Rattle.iso_shared.proofs.heading.heading_bytes.Goals.{After-put-5}

bytes_are : (c : After-put-5) → c.put-5.new.bytes ≡ heading_bytes c.args.heading.now
unfolding magic
bytes_are c =
    let lp : length c.place_digits.result ≡ 10 = ap length c.place_digits.ensures ∙ c.decimals.ensures.size 10 c.args.heading.now.place in
    let lw : length c.writer_digits-writer.result ≡ 32 = ap length c.writer_digits-writer.ensures.digits ∙ length-name c.args.heading.now.writer c.writer_digits-writer.ensures.writer in
    let two : take 38 c.put-2.new.bytes ≡ take 28 c.put.new.bytes ++ c.place_digits.result =
    ap (λ n. take (28 + n) c.put-2.new.bytes) (sym lp) ∙ c.put-2.ensures in
    let three : take 70 c.put-3.new.bytes ≡ take 38 c.put-2.new.bytes ++ c.writer_digits-writer.result =
    ap (λ n. take (38 + n) c.put-3.new.bytes) (sym lw) ∙ c.put-3.ensures in
    sym (take_all 128 c.put-5.new.bytes (omega (arith, c.put-5.array_long)))
    ∙ heading_put c.args.heading.now [] (take 28 c.put.new.bytes) (take 38 c.put-2.new.bytes) (take 70 c.put-3.new.bytes) (take 127 c.put-4.new.bytes) (take 128 c.put-5.new.bytes)
    c.place_digits.result c.writer_digits-writer.result refl c.put.ensures two three c.put-4.ensures c.put-5.ensures c.place_digits.ensures c.writer_digits-writer.ensures.digits

pub returns-clause-bytes : goal.returns-clause-bytes
returns-clause-bytes c = bytes_are c

pub returns-clause-whole : goal.returns-clause-whole
returns-clause-whole c = ap is_whole (bytes_are c) ∙ c.headings_are_whole.ensures c.args.heading.now c.writer_digits-writer.ensures.writer
