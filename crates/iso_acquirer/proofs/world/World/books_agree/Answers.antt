use Rattle.std.proofs.Common.{subst}
use Rattle.iso_acquirer.specs.Agreement.{BooksAgree}
use Rattle.iso_acquirer.proofs.Settled.{books-agree}
use Rattle.iso_acquirer.proofs.world.World.books_agree.Goals as goal

pub returns : goal.returns
returns c =
    subst BooksAgree c.self.view_is
    (books-agree c.journals_grow.ensures.orders c.journals_grow.ensures.found c.granted_stands.ensures.whole c.granted_stands.ensures.declined c.granted_stands.ensures.nothing
    c.reversals_stay.ensures.none c.stands_no_more.ensures c.reversed_never_stands.ensures _ c.self.invariant)
