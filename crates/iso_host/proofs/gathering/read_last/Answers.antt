use Rattle.std.proofs.Common.{◌≡◌, ◌≢◌, ◌++◌, length, length-append, arith}
use Rattle.iso_host.proofs.GatherLemmas.{bytes_append, reads_behind, reads_whole}
use Rattle.iso_host.proofs.gathering.read_last.Goals as goal

pub returns-then-used-before-clause-read : goal.returns-then-used-before-clause-read
returns-then-used-before-clause-read c =
    let u = c.args.unpacker.now in
    let piece = c.args.piece.now in
    let all : c.in-Ok.used ≡ length (u.taken ++ piece) = omega (arith, c.if-used-before.true, c.held-before.ensures.held, length-append u.taken piece) in
    reads_whole c.reads_spellings.ensures.exact u.table (u.taken ++ piece) c.read_through.new.into c.in-Ok.used c.requires.good (bytes_append u.taken piece c.requires.bytes c.are_bytes.ensures) c.in-Ok.ensures.exact all

pub returns-else-used-before-clause-read : goal.returns-else-used-before-clause-read
returns-else-used-before-clause-read c =
    let u = c.args.unpacker.now in
    let piece = c.args.piece.now in
    let other : c.in-Ok.used ≢ length (u.taken ++ piece) = λ e. c.if-used-before.false (omega (arith, e, c.held-before.ensures.held, length-append u.taken piece)) in
    reads_behind c.reads_spellings.ensures.exact u.table (u.taken ++ piece) c.read_through.new.into c.read_through.new.into c.in-Ok.used c.requires.good (bytes_append u.taken piece c.requires.bytes c.are_bytes.ensures) c.in-Ok.ensures.exact other
