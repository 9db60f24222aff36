use Rattle.iso_cli.proofs.ListeningLemmas.{none_of_six}
use Rattle.iso_cli.proofs.WordLemmas.{serve_found, serve_words}
use Rattle.iso_cli.proofs.listening.listening_of.Goals as goal

pub returns-in-serve-clause-found : goal.returns-in-serve-clause-found
returns-in-serve-clause-found c =
    serve_found _ c.listening_by.result _ _ _ _ _ (serve_words _ _ c.in-serve.len_at_least c.in-serve.len_below c.in-serve.is-serve) c.listening_by.ensures.found

pub returns-in-serve-clause-none : goal.returns-in-serve-clause-none
returns-in-serve-clause-none c =
    none_of_six c.listening_by.result _ _ _ _ _ _ (serve_words _ _ c.in-serve.len_at_least c.in-serve.len_below c.in-serve.is-serve) c.listening_by.ensures.none
