use Rattle.std.proofs.Common.{arith, map, drop}
use Rattle.std.proofs.lemmas.Grind.{common_steps}
use Rattle.iso_cli.proofs.ListeningLemmas.{serve_is_no_job}
use Rattle.iso_cli.proofs.arguments.act_or_serve.Goals as goal

pub returns-in-serve-clause-words : goal.returns-in-serve-clause-words
returns-in-serve-clause-words g c = λ two. record {
  job = serve_is_no_job _ (drop 1 (map (λ w. w.now) c.args.words.now)) (grind (arith, common_steps));
  host = c.serve_port.ensures.words two;
}
