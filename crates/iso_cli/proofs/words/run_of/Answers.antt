use Rattle.std.proofs.Common.{sym}
use Rattle.iso_cli.proofs.WordLemmas.{fourth, run_words}
use Rattle.iso_cli.proofs.words.run_of.Goals as goal

pub returns-in_ok-header_of_word-in-run-clause-found : goal.returns-in_ok-header_of_word-in-run-clause-found
returns-in_ok-header_of_word-in-run-clause-found c =
    (sym c.if-is_name.ensures, sym c.if-is_name-2.ensures, run_words _ _ _ c.in-run.len_at_least c.in-run.len_below c.in-run.is-run c.in_ok-header_of_word-in-run.ensures.found)

pub returns-in_err-header_of_word-in-run-clause-none : goal.returns-in_err-header_of_word-in-run-clause-none
returns-in_err-header_of_word-in-run-clause-none c =
    rw c.from_residual.ensures (λ table accounts header table_name accounts_name is. c.in_err-header_of_word-in-run.ensures.none header (fourth _ _ _ _ _ _ is))
