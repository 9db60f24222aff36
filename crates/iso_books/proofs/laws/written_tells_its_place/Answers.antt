use Rattle.iso_books.proofs.Places.{tells_its_place}
use Rattle.iso_books.proofs.laws.written_tells_its_place.Goals as goal

pub returns : goal.returns
returns c = tells_its_place c.journals_grow.ensures.orders c.journals_grow.ensures.found
