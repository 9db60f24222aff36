use Rattle.std.proofs.Common.{◌≡◌, ◌+◌, ◌∙◌, ℕ, length, ap, [], Option}
use Rattle.iso_wire.specs.declared.fault.UnpackFault.{UnpackFault}
use Rattle.iso_wire.specs.Unpacker.{Feeding}
use Rattle.iso_host.proofs.GatherLemmas.{bytes_append, emptied, holds_behind, holds_fault}
use Rattle.iso_host.proofs.gathering.feed_piece.Goals as goal

pub returns-in-Ok-Done-clause-holds : goal.returns-in-Ok-Done-clause-holds
returns-in-Ok-Done-clause-holds c =
    let u = c.args.unpacker.now in
    let piece = c.args.piece.now in
    let none = c.requires.none in
    let read = rw c.in-Ok-Done.field-0-is at (c.in-Ok-Done.ensures.exact none) in
    let found = rw c.in-Ok-Done.field-0-is at (c.in-Ok-Done.ensures.found none) in
    let state = rw c.in-Ok-Done.field-0-is at (c.in-Ok-Done.ensures.state none) in
    holds_behind c.reads_spellings.ensures.stays u c.feed.new.self _ _ (length u.taken + c.in-Ok-Done.used) (c.held-before.result + c.in-Ok-Done.used)
    (state ∙ ap (λ (s : Option UnpackFault). record { table = u.table; taken = []; stopped = s }) none) c.requires.good (bytes_append u.taken piece c.requires.bytes c.are_bytes.ensures) read found.0
    (ap (λ (n : ℕ). n + c.in-Ok-Done.used) c.held-before.ensures.held)

pub returns : goal.returns
returns c =
    let u = c.args.unpacker.now in
    let none = c.requires.none in
    let exact = c.in-Err.ensures.exact none in
    let state = c.in-Err.ensures.state none in
    let is : c.reset.new.self ≡ emptied u = c.reset.ensures ∙ ap emptied (state.1 c.in_default.not-Memory) in
    record {
      holds = holds_fault c.reads_spellings.ensures.stays u c.reset.new.self _ c.in-Err.fault is c.requires.good (bytes_append u.taken c.args.piece.now c.requires.bytes c.are_bytes.ensures) (exact.0.1 c.in_default.not-Memory) exact.1;
      unchanged = tt;
      table = ap (λ (f : Feeding). f.table) is;
    }
