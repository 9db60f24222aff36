use Rattle.std.proofs.Common.{◌≡◌, refl, arith}
use Rattle.iso_cli.proofs.StreamingLemmas.{known_file, known_long}
use Rattle.iso_cli.proofs.documents.document_at.Goals as goal

pub returns-clause-text : goal.returns-clause-text
returns-clause-text g c =
    known_file (g.S.Source.file c.args.source.now c.args.path.now) c.in_ok-text.text.items (λ held. held ≡ c.in_ok-text.text.items) c.in_ok-text.ensures.bytes
    (omega (arith, c.len.ensures, c.if-len.false)) refl

pub returns-then-len-clause-stop : goal.returns-then-len-clause-stop
returns-then-len-clause-stop g c = λ _.
    known_long (g.S.Source.file c.args.source.now c.args.path.now) c.in_ok-text.text.items c.in_ok-text.ensures.bytes
    (omega (arith, c.len.ensures, c.if-len.true))
