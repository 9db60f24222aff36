-- The steps by which the frames of an input are worked on.
use Rattle.std.specs.Prelude.{◌≡◌, ℕ, ◌≤◌, ◌||◌, Bool, true, false, not, List, [], ◌++◌, length, IfSome}
use Rattle.std.specs.Io.KnownBytes.{Appends, Consumes}
use Rattle.iso_wire.specs.Framing.{NeedsMore, NoFrame, frame_of, largest}
use Rattle.iso_wire.specs.declared.header.Header.{Header}
use Rattle.iso_input.specs.Window.{Ahead}
use Rattle.iso_jobs.specs.Outputs.{Output}
use Rattle.iso_jobs.specs.Work.{Task, Tells}
use Rattle.iso_jobs.specs.declared.frames.Front.{Front}
use Rattle.iso_jobs.specs.declared.frames.Front.TheVariants as fronts
use Rattle.iso_jobs.specs.declared.pages.Pages.{Pages}

-- how far an input is worked on: what is ahead, and what was told and isn't written yet
pub record Progress : Type 0 where
  pub window : Ahead
  pub pages : Pages

-- a body is taken out of the input, and what is told of it added
pub record TakesFrame (task : Task) (h : Header) (before after : Progress) : Type 0 where
  pub body : List ℕ
  pub good : Bool
  pub text : List ℕ
  pub fits : length body ≤ largest h
  pub taken : Consumes before.window.ahead after.window.ahead (frame_of h body)
  pub tells : Tells task body (good, text)
  pub added : after.pages.text.items ≡ before.pages.text.items ++ text
  pub refused : after.pages.has_refused ≡ (before.pages.has_refused || not good)

-- nothing is taken
pub record Waits (before after : Progress) : Type 0 where
  pub window : after.window ≡ before.window
  pub text : after.pages.text.items ≡ before.pages.text.items
  pub refused : after.pages.has_refused ≡ before.pages.has_refused

-- a frame is taken; or none stands whole at the front; or none ever will
abbrev pub Steps : Task → Header → Progress → Progress → Front → Type 0
Steps task h before after fronts.Frame = TakesFrame task h before after
Steps task h before after fronts.Part = Waits before after × NeedsMore h before.window.held
Steps task h before after fronts.Bad = Waits before after
    × IfSome before.window.ahead (NoFrame h)

-- all that was told is written, and perhaps more if there is a rest
pub record Ends (has_rest : Bool) (output : Output) (pages : Pages) (good : Bool) : Type 0 where
  pub last : List ℕ
  pub written : Appends output.old output.new (pages.text.items ++ last)
  pub all_good : good ≡ true → (pages.has_refused ≡ false) × (has_rest ≡ false) × (last ≡ [])
