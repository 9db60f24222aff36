use Rattle.rumpadol_tables.proofs.KnownLemmas.{kept_whole, refused_long}
use Rattle.rumpadol_tables.proofs.documents.document_on.Goals as goal

pub returns-in-Ok-clause-text : goal.returns-in-Ok-clause-text
returns-in-Ok-clause-text g c =
    kept_whole c.short_enough.result c.in-Ok.text (g.I.Read.remaining c.args.input.now) c.in-Ok.ensures c.short_enough.ensures.text

pub returns-in-Ok-clause-stop : goal.returns-in-Ok-clause-stop
returns-in-Ok-clause-stop g c =
    refused_long c.short_enough.result c.in-Ok.text (g.I.Read.remaining c.args.input.now) c.in-Ok.ensures c.short_enough.ensures.stop
