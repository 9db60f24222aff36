use Rattle.std.proofs.Common.{◌≡◌, ◌≤◌, List, [], refl, arith, ap, sym, ◌∙◌, subst, append-nil}
use Rattle.std.specs.List.{AllByRecursion}
use Rattle.std.proofs.lemmas.List.Elements.{All-from_recursion, recursion_from_All, All-weaker}
use Rattle.iso_restarts.specs.Diary.{Diary, in_memory, slots_after}
use Rattle.iso_waits.specs.declared.due.Due.{Due}
use Rattle.iso_drive.specs.Board.{IsBoard}
use Rattle.iso_waits.specs.Waits.{moment_after}
use Rattle.iso_drive.proofs.driver.Driver.start.Goals as goal

-- those that are due by the first moment of all are due at that moment
at-once : (waiting : List Due) → AllByRecursion (λ d. d.at ≤ 0) waiting → AllByRecursion (λ d. d.at ≡ 0) waiting
at-once waiting all =
    recursion_from_All (λ d. d.at ≡ 0) waiting
    (All-weaker (λ (d : Due). d.at ≤ 0) (λ (d : Due). d.at ≡ 0) (λ d h. omega (arith, h)) waiting (All-from_recursion (λ d. d.at ≤ 0) waiting all))

pub returns-in-Ok-start-clause-driving : goal.returns-in-Ok-start-clause-driving
returns-in-Ok-start-clause-driving g c = λ opened.
    let diary = c.in-Ok-start.ensures.diary opened in
    record {
      consistent = c.in-Ok-start.ensures.consistent opened;
      own = sym (ap (λ (d : Diary). d.id) diary);
      board = subst (IsBoard c.in-Ok.board) (sym (ap (λ (d : Diary). (in_memory d).slots) diary ∙ ap (slots_after []) (append-nil c.args.notes.now))) c.in-Ok.ensures.board;
      in_time = c.who_waits.ensures.in_time.later 0 (moment_after 0 c.args.patience) c.in-Ok.board.waiting.items (omega arith) c.in-Ok.ensures.time;
    }

pub returns-in-Ok-start-clause-started : goal.returns-in-Ok-start-clause-started
returns-in-Ok-start-clause-started g c = λ opened. record {
  diary = c.in-Ok-start.ensures.diary opened;
  due = at-once c.in-Ok.board.waiting.items c.in-Ok.ensures.time.none_later;
  waits = refl;
  begins = refl;
}
