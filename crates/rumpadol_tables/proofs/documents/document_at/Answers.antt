use Rattle.rumpadol_tables.proofs.KnownLemmas.{kept_whole, refused_long}
use Rattle.rumpadol_tables.proofs.documents.document_at.Goals as goal

pub returns-in-Ok-clause-text : goal.returns-in-Ok-clause-text
returns-in-Ok-clause-text g c =
    kept_whole c.short_enough.result c.in-Ok.text (g.S.Source.file c.args.source.now c.args.path.now) c.in-Ok.ensures.bytes c.short_enough.ensures.text

pub returns-in-Ok-clause-stop : goal.returns-in-Ok-clause-stop
returns-in-Ok-clause-stop g c =
    refused_long c.short_enough.result c.in-Ok.text (g.S.Source.file c.args.source.now c.args.path.now) c.in-Ok.ensures.bytes c.short_enough.ensures.stop
