use Rattle.std.proofs.Common.{◌≡◌, rules}
use Rattle.iso_cli.specs.declared.words.WordsFault.TheVariants.{Memory}
use Rattle.iso_cli.proofs.ListeningLemmas.{takes_asked}
use Rattle.iso_cli.proofs.listening.parse_serve.Goals as goal

pub returns-in-Err-clause-refused : goal.returns-in-Err-clause-refused
returns-in-Err-clause-refused c = λ is asked asks.
    let memory : c.in-Err.fault ≡ Memory = c.in-Err.ensures.passes (takes_asked _ asked asks) in
    let told = rw memory at is in
    search rules
