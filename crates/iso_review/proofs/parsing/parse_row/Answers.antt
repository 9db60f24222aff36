use Rattle.std.proofs.Common.{◌≡◌, ◌≢◌, ◌∙◌, ℕ, List, map, Result, Ok, Err, Bor, ap, sym}
use Rattle.std.proofs.Math.Dec.{lit<}
use Rattle.std.specs.Prelude.{IfOk, IfErr}
use Rattle.std.proofs.lemmas.Iterator.Consumers.{map_from_collect}
use Rattle.std.proofs.lemmas.Iterator.Splits.{YieldsList-from_str_split}
use Rattle.iso_review.specs.declared.change.RowChange.{RowChange}
use Rattle.iso_review.specs.declared.change.RowFault.{RowFault}
use Rattle.iso_review.specs.declared.change.RowFault.TheVariants.{Memory}
use Rattle.iso_review.specs.RowText.{change_of, row_change}
use Rattle.iso_review.proofs.parsing.parse_row.Goals as goal

gives : (r s : Result RowChange RowFault) → r ≡ s → IfOk r (λ change. s ≡ Ok change)
gives (Ok x) s e = sym e
gives (Err x) s e = tt

refuses : (r s : Result RowChange RowFault) → r ≡ s → IfErr r (λ e. e ≢ Memory → s ≡ Err e)
refuses (Ok x) s e = tt
refuses (Err x) s e = λ other. sym e

pub returns-clause-ok : goal.returns-clause-ok
returns-clause-ok c =
    let words = map_from_collect {E = RowFault} (Ok c.in_ok-words.words) c.in_ok-words.ensures.ran (YieldsList-from_str_split 32 c.args.text.now (lit< tt) c.split.ensures.text c.split.ensures.has_more c.split.ensures.pattern) in
    gives c.change_of.result (row_change c.args.text.now) (c.change_of.ensures ∙ ap (λ (ws : List (Bor (List ℕ))). change_of (map (λ w. w.now) ws)) c.deref.ensures.value ∙ ap change_of words)

pub returns-clause-fault : goal.returns-clause-fault
returns-clause-fault c =
    let words = map_from_collect {E = RowFault} (Ok c.in_ok-words.words) c.in_ok-words.ensures.ran (YieldsList-from_str_split 32 c.args.text.now (lit< tt) c.split.ensures.text c.split.ensures.has_more c.split.ensures.pattern) in
    refuses c.change_of.result (row_change c.args.text.now) (c.change_of.ensures ∙ ap (λ (ws : List (Bor (List ℕ))). change_of (map (λ w. w.now) ws)) c.deref.ensures.value ∙ ap change_of words)
