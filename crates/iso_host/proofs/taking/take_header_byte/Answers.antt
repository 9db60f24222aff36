use Rattle.std.proofs.Common.{◌≡◌, ◌≢◌, ◌==◌, ◌<◌, ℕ, List, length, length-take, refl, sym, arith, true, false}
use Rattle.std.proofs.lemmas.Bool.{eqb-true, eq-eqb}
use Rattle.iso_wire.specs.Framing.{header_size}
use Rattle.iso_host.specs.Beginning.{head_of}
use Rattle.iso_host.proofs.PeerLemmas.{bad_behind, empty_frame, ends_empty, first_of, none_of, refuses_empty, takes_empty, takes_none}
use Rattle.iso_host.proofs.taking.take_header_byte.Goals as goal

some_of : (bytes : List ℕ) → false ≡ (length bytes == 0) → length bytes ≢ 0
some_of bytes differ e = let same : (length bytes == 0) ≡ true = eq-eqb (length bytes) 0 e in absurd cc

pub returns-then-is_empty-clause-took : goal.returns-then-is_empty-clause-took
returns-then-is_empty-clause-took c =
    rw c.inside.ensures (takes_none c.frames.ensures c.args.table.now c.args.header c.args.begun.now c.args.issuer.now c.args.bytes.now c.args.out.now.items c.requires.outside
    (none_of c.args.bytes.now (eqb-true (length c.args.bytes.now) 0 (sym c.if-is_empty.ensures))))

pub returns-in-Err-clause-refused : goal.returns-in-Err-clause-refused
returns-in-Err-clause-refused c =
    let bytes = c.args.bytes.now in
    let told = c.in-Err.ensures in
    (refl, bad_behind c.splits_once.ensures.stays c.args.header (head_of c.args.begun.now) _ bytes _ c.with_header_byte-grown.ensures.head (first_of bytes (some_of bytes c.if-is_empty.ensures)) told.1)

pub returns-in-Ok-Some-clause-took : goal.returns-in-Ok-Some-clause-took
returns-in-Ok-Some-clause-took c =
    let h = c.args.header in
    let begun = c.args.begun.now in
    let bytes = c.args.bytes.now in
    let head = head_of c.with_header_byte-grown.result in
    let short : length (head_of begun) < header_size h = omega (arith, c.requires.outside.short, length-take begun.count begun.head) in
    let told = rw c.in-Ok-Some.field-0-is at c.in-Ok-Some.ensures in
    let whole = empty_frame h (head_of begun) head _ c.in-Ok-Some.n c.with_header_byte-grown.ensures.head short told.0 c.if-n-eq0.true in
    takes_empty c.args.table.now h (head_of begun) begun c.answer_empty.new.begun c.args.issuer.now c.answer_empty.new.issuer bytes c.args.out.now.items c.answer_empty.new.out.items _ c.answer_empty.new.told
    c.answer_empty.result whole (first_of bytes (some_of bytes c.if-is_empty.ensures)) c.answer_empty.ensures.step c.answer_empty.ensures.answered c.answer_empty.ensures.handled c.answer_empty.ensures.none

pub returns-in-Ok-Some-clause-refused : goal.returns-in-Ok-Some-clause-refused
returns-in-Ok-Some-clause-refused c =
    let h = c.args.header in
    let begun = c.args.begun.now in
    let bytes = c.args.bytes.now in
    let head = head_of c.with_header_byte-grown.result in
    let short : length (head_of begun) < header_size h = omega (arith, c.requires.outside.short, length-take begun.count begun.head) in
    let told = rw c.in-Ok-Some.field-0-is at c.in-Ok-Some.ensures in
    let whole = empty_frame h (head_of begun) head _ c.in-Ok-Some.n c.with_header_byte-grown.ensures.head short told.0 c.if-n-eq0.true in
    let joined = ends_empty h (head_of begun) bytes _ whole (first_of bytes (some_of bytes c.if-is_empty.ensures)) in
    refuses_empty c.args.table.now h (head_of begun) c.args.issuer.now c.answer_empty.new.issuer bytes c.answer_empty.result joined c.answer_empty.ensures.fault c.answer_empty.ensures.memory
