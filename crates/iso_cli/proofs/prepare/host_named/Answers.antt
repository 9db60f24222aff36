use Rattle.std.proofs.Common.{Err, ap, rules}
use Rattle.std.proofs.lemmas.Result.{err_from_is_err_and}
use Rattle.iso_cli.proofs.ListeningLemmas.{refused_words}
use Rattle.iso_cli.proofs.prepare.host_named.Goals as goal

-- what is prepared is the host that the words name
pub returns-clause-prepared : goal.returns-clause-prepared
returns-clause-prepared c = search rules

pub returns-in_err-asked-clause-words : goal.returns-in_err-asked-clause-words
returns-in_err-asked-clause-words g c =
    let p = err_from_is_err_and c.from_residual.result c.from_residual.ensures.1 in
    rw (p.1) (λ is. c.in_err-asked.ensures.refused (ap Err (refused_words _ _ p.2 is)))
