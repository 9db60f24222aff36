use Rattle.std.proofs.Common.{◌∙◌, ◌++◌, List, ℕ, arith, sym, ap}
use Rattle.std.proofs.lemmas.List.{take_all}
use Rattle.iso_record.specs.Row.{answer_bytes}
use Rattle.iso_diary.specs.Line.{no_answer}
use Rattle.iso_diary.proofs.reading.without_answer.Goals as goal

pub returns : goal.returns
unfolding answer_bytes
returns c =
    sym (take_all 128 c.put.new.bytes (omega (arith, c.put.array_long))) ∙ c.put.ensures ∙ ap (λ (l : List ℕ). l ++ no_answer) c.put_order_of.ensures
