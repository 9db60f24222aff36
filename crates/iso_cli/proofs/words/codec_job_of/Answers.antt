-- The words of check, convert and show ask that very job, and words of no arm ask none.
use Rattle.std.proofs.Common.{sym, arith}
use Rattle.std.proofs.lemmas.Grind.{common_steps}
use Rattle.iso_cli.proofs.WordLemmas.{three_words, two_words}
use Rattle.iso_cli.proofs.words.codec_job_of.Goals as goal

pub returns-in-check-clause-found : goal.returns-in-check-clause-found
returns-in-check-clause-found c = (sym c.if-is_name.ensures, two_words _ _ _ c.in-check.len_at_least c.in-check.len_below c.in-check.is-check)

pub returns-in-convert-clause-found : goal.returns-in-convert-clause-found
returns-in-convert-clause-found c =
    (sym c.if-is_name-5.ensures, sym c.if-is_name-6.ensures, three_words _ _ _ c.in-convert.len_at_least c.in-convert.len_below c.in-convert.is-convert)

pub returns-in-show-clause-found : goal.returns-in-show-clause-found
returns-in-show-clause-found c = (sym c.if-is_name-2.ensures, two_words _ _ _ c.in-show.len_at_least c.in-show.len_below c.in-show.is-show)

pub returns-in_default-clause-none : goal.returns-in_default-clause-none
returns-in_default-clause-none c = grind (arith, common_steps)
