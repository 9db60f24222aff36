use Rattle.std.proofs.Common.{Err, rules}
use Rattle.iso_wire.proofs.FirstRefusals.{refused_first}
use Rattle.iso_wire.proofs.Packs.{is_written, appended_again}
use Rattle.iso_wire.proofs.packing.append_message.Goals as goal

pub returns-in-Ok-clause-again : goal.returns-in-Ok-clause-again
returns-in-Ok-clause-again c =
    appended_again c.reads_spellings.ensures.exact c.args.table.now c.args.message.now c.args.out.now.items c.append_spelling.new.out.items c.in-Ok.ensures.good c.in-Ok.ensures.bytes c.in-Ok.ensures.packed

pub returns-in-Err-clause-only : goal.returns-in-Err-clause-only
returns-in-Err-clause-only c = is_written {T = Unit {0}} c.args.table.now c.args.message.now (Err c.in-Err.fault) c.in-Err.ensures.fault

pub returns-in-Err-clause-unchanged : goal.returns-in-Err-clause-unchanged
returns-in-Err-clause-unchanged c = search rules

pub returns-in-Err-clause-first : goal.returns-in-Err-clause-first
returns-in-Err-clause-first c = refused_first c.args.table.now c.args.message.now c.in-Err.fault c.in-Err.ensures.fault
