-- Messages that are made of texts.
use Rattle.std.proofs.Common.{◌≡◌, ◌≢◌, ◌++◌, ◌||◌, ◌∙◌, OnOk, ℕ, List, [], Bool, true, false, Result, Ok, Err, refl, sym, inr, append-nil}
use Rattle.iso_jobs.specs.Encoding.{OutcomeUnless, Takes, Target, unless}
use Rattle.iso_jobs.specs.Making.{Makes, Outcome, Refuses}
use Rattle.iso_jobs.specs.declared.making.MakeRefusal.{MakeRefusal}
use Rattle.iso_jobs.specs.declared.making.MakeRefusal.TheVariants as refusals
use Rattle.iso_jobs.specs.declared.pages.Pages.{Pages}
use Rattle.std.specs.declared.alloc.AllocError.{AllocError}

-- what is made is added where nothing was
pub made_used : (target : Target) (text old new : List ℕ) (r : Result (Unit {0}) MakeRefusal)
    → Outcome target.table target.form text (record { old = old; new = new }) r
    → OutcomeUnless target false text (record { old = old; new = new }) r
made_used target text old new (Ok done) made = made
made_used target text old new (Err refusals.Memory) made = tt
made_used target text old new (Err (refusals.Complaints cs)) made = made
made_used target text old new (Err (refusals.TooLong n)) made = made

-- whatever stands before, nothing is left of nothing
pub unless_nothing : (refused : Bool) (l : List ℕ) → l ++ unless refused [] ≡ l
unless_nothing true l = append-nil l
unless_nothing false l = append-nil l

pub or_false : (b : Bool) → b ≡ (b || false)
or_false true = refl
or_false false = refl

pub or_true : (b : Bool) → true ≡ (b || true)
or_true true = refl
or_true false = refl

-- a text from which a message was made was taken
pub takes_made : (target : Target) (text : List ℕ) (old new : Pages) (out : List ℕ) → Makes target.table target.form text out
    → new.text.items ≡ old.text.items ++ unless old.has_refused out → new.has_refused ≡ old.has_refused → Takes target text old new
takes_made target text old new out makes added same = record {
  ok = true;
  out = out;
  makes = inr makes;
  added = added;
  refused = same ∙ or_false old.has_refused;
}

-- a text that was refused was taken
pub takes_refused : (target : Target) (text : List ℕ) (old new : Pages) → Refuses target.table target.form text
    → new.text.items ≡ old.text.items → new.has_refused ≡ true → Takes target text old new
takes_refused target text old new why same refused = record {
  ok = false;
  out = [];
  makes = (inr why, refl);
  added = same ∙ sym (unless_nothing old.has_refused old.text.items);
  refused = refused ∙ or_true old.has_refused;
}

-- so it was where its refusal was told
pub refuse_takes : (target : Target) (text mid : List ℕ) (old new : Pages) (refusal : MakeRefusal) (r : Result (Unit {0}) AllocError)
    → OutcomeUnless target old.has_refused text (record { old = old.text.items; new = mid }) (Err refusal) → OnOk r (refusal ≢ refusals.Memory) → new.text.items ≡ mid
    → OnOk r (new.has_refused ≡ true) → OnOk r (Takes target text old new)
refuse_takes target text mid old new refusal (Err e) made some same refused = tt
refuse_takes target text mid old new refusals.Memory (Ok done) made some same refused = absurd (some refl)
refuse_takes target text mid old new (refusals.Complaints cs) (Ok done) made some same refused =
    takes_refused target text old new made.0 (same ∙ made.1) refused
refuse_takes target text mid old new (refusals.TooLong n) (Ok done) made some same refused =
    takes_refused target text old new made.0 (same ∙ made.1) refused
