use Rattle.std.proofs.Common.{◌≡◌, drop}
use Rattle.iso_jobs.specs.Making.{is_json}
use Rattle.iso_jobs.proofs.making.is_json.Given as goal

-- the rest is JSON exactly where the text is
abbrev pub invariant-loop-b : goal.invariant-loop-b
invariant-loop-b l = is_json (drop l.b-index l.text) ≡ is_json l.text
