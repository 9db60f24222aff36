use Rattle.std.proofs.Common.{arith, sym, ap, ◌∙◌, ◌≡◌, ◌-◌, subst, slice_set}
use Rattle.std.specs.Prelude.{option_map}
use Rattle.std.proofs.lemmas.Option.{none-some, same_Some, slice_get_within}
use Rattle.iso_drive.specs.declared.made.Made.{Made}
use Rattle.iso_drive.specs.declared.made.Role.TheVariants.{Payment}
use Rattle.iso_drive.specs.Made.{made_of, IsTabled}
use Rattle.iso_acquirer.specs.Acquirer.{slots_at_stage}
use Rattle.iso_drive.proofs.Row.{below}
use Rattle.iso_drive.proofs.Tabled.{made-at, tabled-stage}
use Rattle.iso_drive.proofs.made.put_state.Goals as goal

pub returns-then-stan-eq0 : goal.returns-then-stan-eq0
returns-then-stan-eq0 c = λ slots s stage step t there is to. absurd (none-some s (sym (below slots 1 c.args.stan t.in_row (omega (arith, c.if-stan-eq0.true))) ∙ there))

pub bounds-made-place : goal.bounds-made-place
bounds-made-place c = slice_get_within c.args.made.now (c.args.stan - 1) c.in-Some.of (sym c.in-Some.ensures)

pub returns-in-Some : goal.returns-in-Some
returns-in-Some c = λ slots s stage step t there is to.
    let at = made-at c.args.made.now slots c.args.stan t (omega (arith, c.if-stan-eq0.false)) in
    let same : made_of s ≡ c.in-Some.of = same_Some (made_of s) c.in-Some.of (sym (ap (option_map made_of) there) ∙ sym at ∙ sym c.in-Some.ensures) in
    subst (λ (m : Made). IsTabled (slice_set c.args.made.now (c.args.stan - 1) (record { key = m.key; debit = m.debit; role = Payment c.args.state })) (slots_at_stage step c.args.stan slots)) same
    (tabled-stage c.args.made.now slots c.args.stan s stage step c.args.state t there is to)

pub returns-in_default : goal.returns-in_default
returns-in_default c = λ slots s stage step t there is to.
    let at = made-at c.args.made.now slots c.args.stan t (omega (arith, c.if-stan-eq0.false)) in
    absurd (none-some (made_of s) (sym c.in_default.is ∙ c.made_in.ensures ∙ at ∙ ap (option_map made_of) there))
