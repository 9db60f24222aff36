-- Beside the lines of JSON, what was counted of both lists of bodies is given.
use Rattle.std.proofs.Common.{rules}
use Rattle.iso_compare.proofs.json.append_differences_json.Goals as goal

pub returns-clause-counts : goal.returns-clause-counts
returns-clause-counts c = search rules
