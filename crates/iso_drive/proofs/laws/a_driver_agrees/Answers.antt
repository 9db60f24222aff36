use Rattle.std.proofs.Common.{◌≡◌, refl, ap, sym, ◌∙◌, List, [], ◌∷◌, ◌++◌}
use Rattle.std.specs.Prelude.{Option}
use Rattle.iso_acquirer.specs.declared.event.Event.TheVariants.{Timeout}
use Rattle.iso_acquirer.specs.declared.event.Given.{Given}
use Rattle.iso_acquirer.specs.Acquirer.{debit_of}
use Rattle.iso_outages.specs.World.{Passes}
use Rattle.iso_restarts.specs.Diary.{Diary, in_memory, unsent, begins, hears, keeps}
use Rattle.iso_restarts.specs.World.{World, Goes, happens, run, is_told}
use Rattle.iso_waits.specs.declared.due.Due.{Due}
use Rattle.iso_drive.specs.Driving.{times_out_all}
use Rattle.iso_waits.specs.Waits.{due_by}
use Rattle.iso_drive.specs.Laws.{time_outs}
use Rattle.iso_drive.proofs.laws.a_driver_agrees.Goals as goal

run-time-outs : (w : World) (ts : List Due) → (run (time_outs ts) w).acquirer ≡ times_out_all w.acquirer ts
run-time-outs w [] = refl
run-time-outs w (t ∷ ts) = run-time-outs (happens w (Goes (Passes (Timeout t.stan)))) ts

pub returns-clause-calls : goal.returns-clause-calls
returns-clause-calls c = record {
  begin = λ w d pan amount currency sent is. sym (ap (λ (x : Diary). begins x (debit_of (in_memory x) pan amount currency sent)) is);
  wake = λ w d is. run-time-outs w (due_by d.clock d.waiting) ∙ ap (λ (x : Diary). times_out_all x (due_by d.clock d.waiting)) (sym is);
  heard_new = λ w d place g stan state is there.
      ap (λ (f : Option Given). (is_told w f).acquirer) there ∙ ap (λ (x : Diary). hears x g.key g.answer.code) (sym is);
  keep = λ w d is. ap keeps (sym is);
  sent = λ w d is. ap (λ (x : Diary). w.sent ++ unsent x) (sym is);
}
