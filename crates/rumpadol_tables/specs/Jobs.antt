-- What is done where a job about tables ends with a status.
use Rattle.std.specs.Prelude.{◌≡◌, Bool, if◌then◌else◌, ℕ, List, map}
use Rattle.std.specs.Io.KnownBytes.{Appends}
use Rattle.rumpadol_tables.specs.Streams.{Output, Sources}
use Rattle.rumpadol_tables.specs.Tables.{TellsGoodTable, Compares, ListsBuiltIn, WritesMadeTable}
use Rattle.rumpadol_tables.specs.declared.words.TableJob.{TableJob}
use Rattle.rumpadol_tables.specs.declared.words.TableJob.TheVariants as jobs

-- what the output gains and with which status, by the job; of two tables the status says whether they differ
abbrev pub Does : TableJob → Sources → Output → ℕ → Type 0
Does (jobs.Check word) sources output status = (status ≡ 0)
    × TellsGoodTable sources word.now output
Does (jobs.Show word names) sources output status = (status ≡ 0)
    × ((lines : List ℕ) × Appends output.old output.new lines)
Does jobs.List sources output status = (status ≡ 0) × ListsBuiltIn output
Does (jobs.New words) sources output status =
    (status ≡ 0) × WritesMadeTable sources words.from.now words.drops.items
    (map (λ row. row.now) words.rows.items) output
Does (jobs.Diff first second) sources output status =
    (differ : Bool) × (status ≡ (if differ then 1 else 0))
    × Compares sources first.now second.now output differ
