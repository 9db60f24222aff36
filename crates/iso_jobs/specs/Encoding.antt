-- The steps by which messages are made of the texts of an input.
use Rattle.std.specs.Prelude.{◌≡◌, ℕ, ◌||◌, not, Bool, true, false, if◌then◌else◌, List, [], ◌++◌, Result, Ok, Err}
use Rattle.std.specs.Io.KnownBytes.{Appends, Consumes}
use Rattle.iso_table.specs.Layout.{Layout}
use Rattle.iso_jobs.specs.Frames.{Progress, Waits}
use Rattle.iso_jobs.specs.Making.{IsText, Makes, MakesOne, Refuses}
use Rattle.iso_jobs.specs.Outputs.{Output, Text}
use Rattle.iso_jobs.specs.declared.encoding.Making.{Making}
use Rattle.iso_jobs.specs.declared.form.Form.{Form}
use Rattle.iso_jobs.specs.declared.making.MakeRefusal.{MakeRefusal}
use Rattle.iso_jobs.specs.declared.making.MakeRefusal.TheVariants as refusals
use Rattle.iso_jobs.specs.declared.pages.Pages.{Pages}

-- bytes that are written unless something was refused before them
abbrev pub unless : Bool → List ℕ → List ℕ
unless refused out = if refused then [] else out

-- what messages are made for: the table that they are written by, and how they lie in the output
pub record Target : Type 0 where
  pub table : Layout
  pub form : Form

-- what it is in a making
abbrev pub target_of : Making → Target
target_of making = record { table = making.table.now; form = making.form }

-- what is made of a text is added
pub record Takes (target : Target) (text : List ℕ) (old new : Pages) : Type 0 where
  pub ok : Bool
  pub out : List ℕ
  pub makes : MakesOne target.table target.form text (ok, out)
  pub added : new.text.items ≡ old.text.items ++ unless old.has_refused out
  pub refused : new.has_refused ≡ (old.has_refused || not ok)

-- what came of a text that says something; nothing is said where memory ran out
abbrev pub OutcomeUnless : Target → Bool → List ℕ → Text → Result (Unit {0}) MakeRefusal → Type 0
OutcomeUnless target refused text body (Ok done) =
    (out : List ℕ) × Makes target.table target.form text out
    × (body.new ≡ body.old ++ unless refused out)
OutcomeUnless target refused text body (Err refusals.Memory) = Unit {0}
OutcomeUnless target refused text body (Err e) =
    Refuses target.table target.form text × (body.new ≡ body.old)

-- a text is taken out of the input, and what is made of it added; or none is whole
abbrev pub Cuts : Target → Progress → Progress → Bool → Type 0
Cuts target before after true =
    (text : List ℕ) × IsText text × Consumes before.window.ahead after.window.ahead text
    × Takes target text before.pages after.pages
Cuts target before after false = Waits before after × IsText before.window.held

-- what is made of the last text is added, and all of it written
pub record Closes (target : Target) (rest : List ℕ) (pages : Pages) (output : Output)
    (good : Bool) : Type 0 where
  pub last : Pages
  pub takes : Takes target rest pages last
  pub written : Appends output.old output.new last.text.items
  pub all_good : good ≡ not last.has_refused
