-- What was told of the bytes of a message.
use Rattle.std.proofs.Common.{◌≡◌, ◌≢◌, ◌++◌, ◌≤◌, ℕ, true, List, [], length, take, drop, Result, Ok, Err, inr, sym, subst, ◌∙◌, append-nil}
use Rattle.std.specs.Prelude.{IfErr, OnOk}
use Rattle.iso_jobs.specs.Outputs.{Text}
use Rattle.iso_jobs.specs.Telling.{Grows}
use Rattle.iso_jobs.specs.Work.{Task, Tells, TellsGood, IsBad, IsRefused, TellsFault, TellsBody}
use Rattle.iso_jobs.specs.declared.refusal.Refusal.{Refusal}
use Rattle.iso_jobs.specs.declared.refusal.Refusal.TheVariants as refusals
use Rattle.iso_jobs.specs.declared.refusal.Trouble.{Trouble}

-- what is refused isn't want of memory
refused_is_not : (trouble : Trouble) → refusals.Refused trouble ≢ refusals.Memory
refused_is_not trouble = λ is. refused_of is
  where
    is_refused : Refusal → Type 0
    is_refused (refusals.Refused t) = Unit {0}
    is_refused refusals.Memory = ⊥

    refused_of : refusals.Refused trouble ≡ refusals.Memory → ⊥
    refused_of is = subst is_refused is tt

-- of the bytes behind those that are skipped in a body
module _ (task : Task) (body front b : List ℕ) (out : Text) (fits : task.form.skip ≤ length body)
    (front_is : front ≡ take task.form.skip body) (behind_is : b ≡ drop task.form.skip body) where
  good_body : (text : List ℕ) → TellsGood task.work task.form front b text → Tells task body (true, text)
  good_body text good =
      let Good : List ℕ → Type 0 = λ front. TellsGood task.work task.form front (drop task.form.skip body) text in
      (fits, subst Good front_is (subst (λ (b : List ℕ). TellsGood task.work task.form front b text) behind_is good))

  bad_body : IsBad task.work task.form front b → IsRefused task body
  bad_body bad =
      let Bad : List ℕ → Type 0 = λ front. IsBad task.work task.form front (drop task.form.skip body) in
      inr (subst Bad front_is (subst (λ (b : List ℕ). IsBad task.work task.form front b) behind_is bad))

  -- where nothing is appended for what is refused
  pub silent : (r : Result (Unit {0}) Refusal) → TellsFault task.work []
      → OnOk r ((text : List ℕ) × TellsGood task.work task.form front b text × (out.new ≡ out.old ++ text))
      → IfErr r (λ e. e ≢ refusals.Memory → IsBad task.work task.form front b) → IfErr r (λ e. e ≢ refusals.Memory → out.new ≡ out.old)
      → TellsBody task body out r
  silent (Ok done) none told refused same = (told.0, good_body told.0 told.1, told.2)
  silent (Err (refusals.Refused trouble)) none told refused same =
      ([], bad_body (refused (refused_is_not trouble)), none, same (refused_is_not trouble) ∙ sym (append-nil out.old))
  silent (Err refusals.Memory) none told refused same = tt

  -- where a text is appended in any case
  pub told_anyway : (r : Result (Unit {0}) Refusal) → {X : Type 0} → ((text : List ℕ) → TellsFault task.work text)
      → (X → (text : List ℕ) → TellsGood task.work task.form front b text) → OnOk r X
      → IfErr r (λ e. e ≢ refusals.Memory → IsBad task.work task.form front b) → Grows out.old out.new r → TellsBody task body out r
  told_anyway (Ok done) any good x refused grown = (grown.0, good_body grown.0 (good x grown.0), grown.1)
  told_anyway (Err (refusals.Refused trouble)) any good x refused grown =
      (grown.0, bad_body (refused (refused_is_not trouble)), any grown.0, grown.1)
  told_anyway (Err refusals.Memory) any good x refused grown = tt
