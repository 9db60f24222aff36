use Rattle.std.proofs.Common.{◌≡◌, [], map, length, sym, ap, ◌∙◌, rules}
use Rattle.std.proofs.lemmas.Bool.{false≢true}
use Rattle.std.proofs.lemmas.List.{length-map}
use Rattle.iso_cli.specs.declared.words.WordsFault.TheVariants.{Memory}
use Rattle.iso_cli.proofs.CommandLemmas.{takes_asked}
use Rattle.iso_cli.proofs.words.parse.Goals as goal

pub returns-in-Err-clause-refused : goal.returns-in-Err-clause-refused
returns-in-Err-clause-refused c = λ is job asks.
    let some : map (λ w. w.now) c.args.words.now ≡ [] → ⊥ = λ e.
    let none : length c.args.words.now ≡ 0 = sym (length-map _ _) ∙ ap length e in
    false≢true (rw none at c.if-is_empty.ensures) in
    let memory : c.in-Err.fault ≡ Memory = c.in-Err.ensures.passes (takes_asked _ job some asks) in
    let told = rw memory at is in
    search rules
