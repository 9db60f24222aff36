use Rattle.std.proofs.Common.{◌≡◌, IfErr, map, subst, true}
use Rattle.clap.specs.Words.{App, takes}
use Rattle.iso_cli.specs.declared.words.WordsFault.{WordsFault}
use Rattle.iso_cli.specs.declared.words.WordsFault.TheVariants.{Memory}
use Rattle.iso_cli.proofs.subcommands.judge_words.Goals as goal

pub returns : goal.returns
returns c = record {
  passes = subst (λ (a : App). IfErr c.judge_by.result (λ (fault : WordsFault). takes a (map (λ w. w.now) c.args.words.now) ≡ true → fault ≡ Memory)) c.in-Ok.ensures.app_is c.judge_by.ensures.passes;
}
