-- What is done with the messages of an input.
use Rattle.std.specs.Prelude.{◌≡◌, ◌⊎◌, ℕ, ◌<◌, ◌≤◌, Bool, true, false, List, [], ◌∷◌, ◌++◌, length, take, drop, None, is_some}
use Rattle.std.specs.Prelude.{Result, Ok, Err}
use Rattle.std.specs.List.{flat_map, list_all}
use Rattle.std.specs.Io.KnownBytes.{Appends}
use Rattle.iso_wire.specs.Contents.{Contents}
use Rattle.iso_wire.specs.Framing.{Splits}
use Rattle.iso_wire.specs.Spelling.{Spelling}
use Rattle.iso_wire.specs.declared.header.Header.{Header}
use Rattle.iso_jobs.specs.Outputs.{Output, Text}
use Rattle.iso_jobs.specs.Telling.{TellsLines, TellsJson, TellsConverted, IsNotConverted}
use Rattle.iso_jobs.specs.Whole.{IsNoMessage}
use Rattle.iso_jobs.specs.declared.form.Form.{Form}
use Rattle.iso_jobs.specs.declared.job.Job.{Job}
use Rattle.iso_jobs.specs.declared.refusal.Refusal.{Refusal}
use Rattle.iso_jobs.specs.declared.refusal.Refusal.TheVariants as refusals
use Rattle.iso_jobs.specs.declared.work.Work.{Work}
use Rattle.iso_jobs.specs.declared.work.Work.TheVariants as works

-- ---- what is done, and with messages in which form

-- what is done with messages, and how these lie in an input and in an output
pub record Task : Type 0 where
  pub work : Work
  pub form : Form

-- the task of a job
abbrev pub task_of : Job → Task
task_of job = record { work = job.work; form = job.form }

-- ---- one message, behind the bytes that are skipped

-- the bytes are a message, and this is told of it
abbrev pub TellsGood : Work → Form → List ℕ → List ℕ → List ℕ → Type 0
TellsGood (works.Lines t names c) form front b text =
    TellsLines t.now
    (record { names = names.now; is_clear = c; is_framed = is_some form.header }) b text
TellsGood (works.Json t c) form front b text = TellsJson t.now c b text
TellsGood (works.Explain t names style) form front b text = (m : Contents) × Spelling t.now m b
TellsGood (works.ExplainJson t names c) form front b text = (m : Contents) × Spelling t.now m b
TellsGood (works.Convert f t) form front b text =
    TellsConverted (record { from = f.now; to = t.now }) form front b text

-- the bytes are no message, or one that has no bytes under the second table
abbrev pub IsBad : Work → Form → List ℕ → List ℕ → Type 0
IsBad (works.Lines t names c) form front b = IsNoMessage t.now b
IsBad (works.Json t c) form front b = IsNoMessage t.now b
IsBad (works.Explain t names style) form front b = IsNoMessage t.now b
IsBad (works.ExplainJson t names c) form front b = IsNoMessage t.now b
IsBad (works.Convert f t) form front b =
    IsNotConverted (record { from = f.now; to = t.now }) form front b

-- what is told of bytes that are bad: nothing, but for an explanation
abbrev pub TellsFault : Work → List ℕ → Type 0
TellsFault (works.Lines t names c) text = text ≡ []
TellsFault (works.Json t c) text = text ≡ []
TellsFault (works.Explain t names style) text = Unit {0}
TellsFault (works.ExplainJson t names c) text = Unit {0}
TellsFault (works.Convert f t) text = text ≡ []

-- what stands for a body that is refused: in a stream of JSON an object, else nothing
abbrev pub TellsNone : Work → Form → List ℕ → Type 0
TellsNone (works.Lines t names c) form text = text ≡ []
TellsNone (works.Json t c) form text = form.header ≡ None → text ≡ []
TellsNone (works.Explain t names style) form text = text ≡ []
TellsNone (works.ExplainJson t names c) form text = text ≡ []
TellsNone (works.Convert f t) form text = text ≡ []

-- what is told of what is refused: nothing, but for an explanation, and for an object in a stream of JSON
abbrev pub TellsBad : Work → Form → List ℕ → Type 0
TellsBad (works.Lines t names c) form text = text ≡ []
TellsBad (works.Json t c) form text = form.header ≡ None → text ≡ []
TellsBad (works.Explain t names style) form text = Unit {0}
TellsBad (works.ExplainJson t names c) form text = Unit {0}
TellsBad (works.Convert f t) form text = text ≡ []

-- ---- one body

-- the body is too short, or bad behind the bytes that are skipped
abbrev pub IsRefused : Task → List ℕ → Type 0
IsRefused task body = (length body < task.form.skip)
    ⊎ IsBad task.work task.form (take task.form.skip body) (drop task.form.skip body)

-- what is told of a body: whether it is good, and the text
abbrev pub Tells : Task → List ℕ → Bool × List ℕ → Type 0
Tells task body (true, text) = (task.form.skip ≤ length body)
    × TellsGood task.work task.form (take task.form.skip body) (drop task.form.skip body) text
Tells task body (false, text) = IsRefused task body × TellsBad task.work task.form text

-- what was told of a body so far; nothing is said where memory ran out
abbrev pub TellsBody : Task → List ℕ → Text → Result (Unit {0}) Refusal → Type 0
TellsBody task body out (Ok done) = (text : List ℕ) × Tells task body (true, text)
    × (out.new ≡ out.old ++ text)
TellsBody task body out (Err (refusals.Refused trouble)) =
    (text : List ℕ) × IsRefused task body × TellsFault task.work text
    × (out.new ≡ out.old ++ text)
TellsBody task body out (Err refusals.Memory) = Unit {0}

-- ---- all bodies of a stream

-- what is told of each body, in their order
abbrev pub TellsEach : Task → List (List ℕ) → List (Bool × List ℕ) → Type 0
TellsEach task [] told = told ≡ []
TellsEach task (body ∷ bodies) told =
    (first : Bool × List ℕ) × (later : List (Bool × List ℕ)) × Tells task body first
    × TellsEach task bodies later × (told ≡ first ∷ later)

-- the texts, one after another
abbrev pub text_of : List (Bool × List ℕ) → List ℕ
text_of told = flat_map (λ x. x.1) told

-- whether all are good
abbrev pub are_good : List (Bool × List ℕ) → Bool
are_good told = list_all (λ x. x.0) told

-- the output grows by what is told of each body of the stream, and perhaps of a rest that is no frame; all is well only where
-- each body is good, and no rest is there
pub record WorksOn (task : Task) (h : Header) (all : List ℕ) (output : Output)
    (good : Bool) : Type 0 where
  pub bodies : List (List ℕ)
  pub rest : List ℕ
  pub told : List (Bool × List ℕ)
  pub last : List ℕ
  pub splits : Splits h all bodies rest
  pub each : TellsEach task bodies told
  pub written : Appends output.old output.new (text_of told ++ last)
  pub all_good : good ≡ true → (are_good told ≡ true) × (rest ≡ []) × (last ≡ [])
