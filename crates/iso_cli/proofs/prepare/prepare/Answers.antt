use Rattle.iso_cli.proofs.ListeningLemmas.{told_words}
use Rattle.iso_cli.proofs.prepare.prepare.Goals as goal

pub returns-in-Err-clause-words : goal.returns-in-Err-clause-words
returns-in-Err-clause-words g c = λ two. c.in-Err.ensures.words (told_words _ _ c.in-Err.stop c.tell.result c.tell.ensures.line two)
