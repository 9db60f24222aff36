use Rattle.iso_issuer.proofs.Texts.{texts-apart}
use Rattle.iso_issuer.proofs.document.texts_apart.Goals as goal

pub returns : goal.returns
returns c = texts-apart
