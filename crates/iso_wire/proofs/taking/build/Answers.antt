use Rattle.std.proofs.Common.{ℕ, ap, ◌∙◌, arith}
use Rattle.iso_wire.specs.Reading.{message_at, whole}
use Rattle.iso_wire.proofs.Feeds.{goes_behind, ends_within, only_memory}
use Rattle.iso_wire.proofs.taking.build.Goals as goal

pub overflow_sub-result : goal.overflow_sub-result
overflow_sub-result c = goes_behind c.reads_spellings.ensures.exact c.args.table.now c.args.bytes.now c.args.before c.in-Ok.message c.in-Ok.end c.build_judged.ensures.good (λ i. omega (arith, c.type_inv.bytes i)) c.requires.short c.in-Ok.ensures.exact

pub returns-in-Ok-clause-exact : goal.returns-in-Ok-clause-exact
returns-in-Ok-clause-exact c =
    let behind = goes_behind c.reads_spellings.ensures.exact c.args.table.now c.args.bytes.now c.args.before c.in-Ok.message c.in-Ok.end c.build_judged.ensures.good (λ i. omega (arith, c.type_inv.bytes i)) c.requires.short c.in-Ok.ensures.exact in
    c.in-Ok.ensures.exact ∙ ap (λ (k : ℕ). whole c.in-Ok.message k) (omega (arith, behind))

pub returns-in-Ok-clause-room : goal.returns-in-Ok-clause-room
returns-in-Ok-clause-room c =
    let within = ends_within c.reads_spellings.ensures.exact c.args.table.now c.args.bytes.now c.in-Ok.message c.in-Ok.end c.build_judged.ensures.good (λ i. omega (arith, c.type_inv.bytes i)) c.in-Ok.ensures.exact in
    omega (arith, within)

pub returns-in-Err-clause-exact : goal.returns-in-Err-clause-exact
returns-in-Err-clause-exact c = only_memory (message_at c.args.table.now c.args.bytes.now) c.in-Err.fault c.requires.read c.in-Err.ensures.exact
