use Rattle.iso_json.proofs.Encodes.{appended_some}
use Rattle.iso_json.proofs.encoding.encode_fields.Goals as goal

pub returns-in-Ok-clause-appended : goal.returns-in-Ok-clause-appended
returns-in-Ok-clause-appended c = appended_some c.args.table.now c.args.out.now.items c.append_bytes.new.out.items c.in-Ok.message c.append_bytes.result c.append_bytes.ensures.appended
