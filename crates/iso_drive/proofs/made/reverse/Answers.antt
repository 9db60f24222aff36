use Rattle.std.proofs.Common.{◌≡◌, List, refl, ap, sym, ◌∙◌, subst, length, ◌<◌}
use Rattle.std.proofs.lemmas.List.{with_items_is}
use Rattle.std.specs.Vec.{with_items}
use Rattle.iso_acquirer.specs.declared.slot.Stage.TheVariants as phase
use Rattle.iso_acquirer.specs.Acquirer.{slots_at_stage, next_reversal}
use Rattle.iso_drive.specs.declared.made.Made.{Made}
use Rattle.iso_drive.specs.Made.{IsTabled}
use Rattle.iso_drive.proofs.Tabled.{length-changed, made-length, tabled-reversed}
use Rattle.iso_drive.proofs.made.reverse.Goals as goal

pub returns : goal.returns
returns c = λ slots s stage t there is of.
    let u = next_reversal slots s.order in
    let own : c.args.of.now.key.stan ≡ s.order.key.stan = ap (λ (m : Made). m.key.stan) (sym of) in
    let lengths : length c.args.made.now.items ≡ length slots = made-length c.args.made.now.items slots t in
    let put : IsTabled c.put_state.new.made (slots_at_stage (λ _. phase.Reversing u.key.stan) c.args.of.now.key.stan slots) =
    c.put_state.ensures slots s stage (λ _. phase.Reversing u.key.stan) (subst (λ (l : List Made). IsTabled l slots) (sym c.deref_mut.ensures.value) t) there is refl in
    let mid : IsTabled c.put_state.new.made (slots_at_stage (λ _. phase.Reversing u.key.stan) s.order.key.stan slots) =
    subst (λ n. IsTabled c.put_state.new.made (slots_at_stage (λ _. phase.Reversing u.key.stan) n slots)) own put in
    let whole = with_items_is c.args.made.now c.put_state.new.made (c.put_state.auto.made ∙ c.deref_mut.ensures.len) in
    let same : length (with_items c.args.made.now c.put_state.new.made).items ≡ length slots =
    ap length whole ∙ made-length c.put_state.new.made _ mid ∙ length-changed (λ _. phase.Reversing u.key.stan) s.order.key.stan slots in
    tabled-reversed (with_items c.args.made.now c.put_state.new.made).items c.push_reversal.new.made.items slots s u
    (subst (λ (l : List Made). IsTabled l (slots_at_stage (λ _. phase.Reversing u.key.stan) s.order.key.stan slots)) (sym whole) mid) refl
    (subst (λ n. n < 999999) lengths c.requires.few)
    (c.push_reversal.ensures slots s same of)
