use Rattle.iso_json.proofs.Encodes.{appended_said, clear_again, refused_memory}
use Rattle.iso_json.proofs.encoding.encode_json.Goals as goal

pub returns-in-Ok-clause-appended : goal.returns-in-Ok-clause-appended
returns-in-Ok-clause-appended c =
    appended_said c.args.table.now c.args.text.now c.args.out.now.items c.append_bytes.new.out.items c.in-Ok.read c.append_bytes.result c.in-Ok.ensures.ok c.append_bytes.ensures.appended

pub returns-in-Ok-clause-refused : goal.returns-in-Ok-clause-refused
returns-in-Ok-clause-refused c = refused_memory c.args.table.now c.args.text.now c.append_bytes.result c.append_bytes.ensures.memory

pub returns-in-Ok-clause-comes_back : goal.returns-in-Ok-clause-comes_back
returns-in-Ok-clause-comes_back c = λ m clear.
    clear_again c.args.table.now c.args.out.now.items c.append_bytes.new.out.items m c.in-Ok.read c.append_bytes.result (c.in-Ok.ensures.comes_back m clear) c.append_bytes.ensures.appended c.append_bytes.ensures.memory

pub returns-in-Err-clause-comes_back : goal.returns-in-Err-clause-comes_back
returns-in-Err-clause-comes_back c = λ m clear. c.in-Err.ensures.comes_back m clear
