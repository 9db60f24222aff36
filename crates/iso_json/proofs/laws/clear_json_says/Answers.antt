use Rattle.iso_json.proofs.Returning.{clear_says}
use Rattle.iso_json.proofs.laws.clear_json_says.Goals as goal

pub returns : goal.returns
returns c = clear_says
