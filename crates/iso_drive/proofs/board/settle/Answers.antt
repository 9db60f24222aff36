use Rattle.std.proofs.Common.{List, sym, subst, ◌∙◌}
use Rattle.std.proofs.lemmas.List.{with_items_is}
use Rattle.iso_acquirer.specs.Acquirer.{slots_after_answer}
use Rattle.iso_drive.specs.declared.made.Made.{Made}
use Rattle.iso_drive.specs.Made.{IsTabled}
use Rattle.iso_drive.proofs.Boarded.{board-closed}
use Rattle.iso_drive.proofs.board.settle.Goals as goal

pub returns-clause-board : goal.returns-clause-board
returns-clause-board c = λ slots key code b h.
    let old = c.args.board.now in
    let whole = with_items_is old.made c.close.new.made (c.close.auto.made ∙ c.deref_mut.ensures.len) in
    board-closed c.who_waits.ensures.who old _ slots key code c.args.stan c.args.state b h
    (subst (λ (l : List Made). IsTabled l (slots_after_answer slots key code)) (sym whole)
    (c.close.ensures slots key code (subst (λ (l : List Made). IsTabled l slots) (sym c.deref_mut.ensures.value) b.tabled) h))
    c.leave_out.ensures
