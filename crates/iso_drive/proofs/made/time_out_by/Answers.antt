use Rattle.std.proofs.Common.{◌≡◌, List, refl, ap, sym, ◌∙◌, subst}
use Rattle.std.proofs.lemmas.List.{with_items_is}
use Rattle.iso_acquirer.specs.declared.slot.Stage.TheVariants as phase
use Rattle.iso_acquirer.specs.Acquirer.{slots_at_stage, timeout_at_stage}
use Rattle.iso_restarts.specs.Diary.{slots_asked}
use Rattle.iso_drive.specs.declared.made.Made.{Made}
use Rattle.iso_drive.specs.Made.{IsTabled}
use Rattle.iso_drive.proofs.Tabled.{asked-once}
use Rattle.iso_drive.proofs.made.time_out_by.Goals as goal

pub returns-then-count-eq1 : goal.returns-then-count-eq1
returns-then-count-eq1 c = λ slots s stage t there is of waits.
    let own : c.args.of.now.key.stan ≡ s.order.key.stan = ap (λ (m : Made). m.key.stan) (sym of) in
    let put : IsTabled c.put_state.new.made (slots_at_stage (λ _. phase.Waiting 2) c.args.of.now.key.stan slots) =
    c.put_state.ensures slots s stage (λ _. phase.Waiting 2) (subst (λ (l : List Made). IsTabled l slots) (sym c.deref_mut.ensures.value) t) there is refl in
    let whole = with_items_is c.args.made.now c.put_state.new.made (c.put_state.auto.made ∙ c.deref_mut.ensures.len) in
    subst (λ (l : List Made). IsTabled l (slots_asked slots (timeout_at_stage slots s.order stage))) (sym whole)
    (subst (IsTabled c.put_state.new.made) (ap (λ n. slots_at_stage (λ _. phase.Waiting 2) n slots) own ∙ asked-once slots s stage c.in-Waiting.count (waits ∙ c.in-Waiting.is) c.if-count-eq1.true) put)
