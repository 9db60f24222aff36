use Rattle.std.proofs.Common.{◌≡◌, ◌≤◌, drop, map}
use Rattle.iso_review.specs.RowText.{with_words}
use Rattle.iso_review.proofs.parsing.with_words.Given as goal

-- the change so far, and the words of the rest
abbrev pub invariant-loop-word : goal.invariant-loop-word
invariant-loop-word l = record {
  few : l.place ≤ l.word-index;
  rest : with_words l.place (map (λ word. word.now) (drop l.word-index l.words)) l.change ≡ with_words 0 (map (λ word. word.now) l.words) l.fn.change;
}
