use Rattle.std.proofs.Common.{◌≡◌, ◌∙◌, ◌++◌, List, ℕ, arith, sym, ap}
use Rattle.std.proofs.lemmas.List.{take_all}
use Rattle.iso_log.specs.Slots.{is_whole}
use Rattle.iso_diary.specs.Line.{body, tail, line_bytes, IsLine}
use Rattle.iso_diary.proofs.writing.line_bytes.Goals as goal
use Rattle.iso_diary.proofs.writing.line_bytes.Goals.{After-put_tail}

bytes_are : (c : After-put_tail) → c.put_tail.new.bytes ≡ line_bytes c.args.line.now
unfolding line_bytes
bytes_are c =
    sym (take_all 128 c.put_tail.new.bytes (omega (arith, c.put_tail.array_long))) ∙ c.put_tail.ensures
    ∙ ap (λ (l : List ℕ). l ++ tail c.letter.result c.args.line.now.place) c.put_body.ensures.bytes
    ∙ ap (λ n. body c.args.line.now.note ++ tail n c.args.line.now.place) c.letter.ensures

is_line : (c : After-put_tail) → IsLine c.args.line.now
is_line c = record { place = omega arith; note = c.put_body.ensures.valid }

pub returns-clause-bytes : goal.returns-clause-bytes
returns-clause-bytes c = bytes_are c

pub returns-clause-line : goal.returns-clause-line
returns-clause-line c = is_line c

pub returns-clause-whole : goal.returns-clause-whole
returns-clause-whole c = ap is_whole (bytes_are c) ∙ c.lines_are_whole.ensures c.args.line.now (is_line c)
