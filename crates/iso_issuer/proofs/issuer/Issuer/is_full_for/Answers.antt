use Rattle.std.proofs.Common.{◌≡◌, ap, sym, ◌∙◌, Bool, true, false, ℕ}
use Rattle.std.specs.Prelude.{is_some, not, ◌&&◌, nat_le, length, map}
use Rattle.std.proofs.lemmas.List.{length-map}
use Rattle.iso_issuer.specs.declared.journal.Entry.{Entry}
use Rattle.iso_issuer.specs.Journal.{is_entered}
use Rattle.iso_issuer.proofs.Entries.{entered-found}
use Rattle.iso_issuer.proofs.issuer.Issuer.is_full_for.Goals as goal

pub returns-in-Some : goal.returns-in-Some
returns-in-Some c =
    let es = c.self.inside.journal in
    let orders = map (λ (e : Entry). e.order) es in
    let known : is_entered orders c.args.key.now ≡ true = entered-found es c.args.key.now ∙ ap is_some (sym c.in-Some.ensures) in
    rw (← c.self.view_is) (sym (ap (λ (b : Bool). not b && nat_le c.self.inside.limit (length orders)) known))

pub returns-in-None : goal.returns-in-None
returns-in-None c =
    let es = c.self.inside.journal in
    let orders = map (λ (e : Entry). e.order) es in
    let new : is_entered orders c.args.key.now ≡ false = entered-found es c.args.key.now ∙ ap is_some (sym c.in-None.ensures) in
    rw (← c.self.view_is)
    (ap (λ (n : ℕ). nat_le c.self.inside.limit n) (c.len.ensures ∙ sym (length-map es (λ (e : Entry). e.order)))
    ∙ sym (ap (λ (b : Bool). not b && nat_le c.self.inside.limit (length orders)) new))
