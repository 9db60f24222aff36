-- What is done where a job ends with a status.
use Rattle.std.specs.Prelude.{◌≡◌, ℕ, ⊤}
use Rattle.rumpadol_tables.specs.Jobs.{Does}
use Rattle.rumpadol_tables.specs.Streams.{Output, Sources}
use Rattle.rumpadol_jobs.specs.declared.job.Job.{Job}
use Rattle.rumpadol_jobs.specs.declared.job.Job.TheVariants as all

-- what the output gains and with which status, of a job about tables; of one about messages, a run or a journal nothing is said here, and of a
-- host or a front that it served to its end
abbrev pub Performs : Job → Sources → Output → ℕ → Type 0
Performs (all.Tables job) sources output status = Does job sources output status
Performs (all.Messages job) sources output status = ⊤
Performs (all.Host words) sources output status = status ≡ 0
Performs (all.Front job) sources output status = status ≡ 0
Performs (all.Drive words) sources output status = ⊤
Performs (all.Books job) sources output status = ⊤
Performs (all.Page words) sources output status = ⊤
Performs (all.Import words) sources output status = ⊤
