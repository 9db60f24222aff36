use Rattle.iso_json.proofs.Returning.{comes_back}
use Rattle.iso_json.proofs.reading.read_json.Goals as goal

pub returns-clause-comes_back : goal.returns-clause-comes_back
returns-clause-comes_back c = λ m clear.
    comes_back c.args.table.now c.args.text.now m c.read_text.result (c.clear_json_says.ensures c.args.table.now m c.args.text.now clear) c.read_text.ensures.ok c.read_text.ensures.refused
