use Rattle.iso_wire.proofs.StopsLaws.{view_stops, stop_is_viewed}
use Rattle.iso_wire.proofs.Views.{is_viewed, viewed_only, never_memory, view_refused, view_settled, SpellsBodies-Parts}
use Rattle.iso_wire.proofs.viewing.view.Goals as goal

pub returns-clause-found : goal.returns-clause-found
returns-clause-found c = is_viewed c.parts.ensures c.reads_spellings.ensures.exact c.args.table.now c.args.bytes.now c.view_of.result c.view_of.ensures.good c.view_of.ensures.fits c.view_of.ensures.exact

pub returns-clause-only : goal.returns-clause-only
returns-clause-only c = viewed_only c.reads_spellings.ensures.exact c.args.table.now c.args.bytes.now c.view_of.result c.view_of.ensures.good c.view_of.ensures.fits c.view_of.ensures.exact

pub returns-clause-memory : goal.returns-clause-memory
returns-clause-memory c = never_memory c.args.table.now c.args.bytes.now c.view_of.result c.view_of.ensures.exact

pub returns-clause-stops : goal.returns-clause-stops
returns-clause-stops c = view_stops c.stops.ensures.exact c.args.table.now c.args.bytes.now c.view_of.result c.view_of.ensures.good c.view_of.ensures.fits c.view_of.ensures.exact

pub returns-clause-told : goal.returns-clause-told
returns-clause-told c = stop_is_viewed c.stops.ensures.exact c.args.table.now c.args.bytes.now c.view_of.result c.view_of.ensures.good c.view_of.ensures.fits c.view_of.ensures.exact

pub returns-clause-refused : goal.returns-clause-refused
returns-clause-refused c = view_refused c.reads_spellings.ensures.exact c.args.table.now c.args.bytes.now c.view_of.result c.view_of.ensures.good c.view_of.ensures.fits c.view_of.ensures.exact

pub returns-clause-settled : goal.returns-clause-settled
returns-clause-settled c = view_settled c.reads_spellings.ensures.exact c.reads_spellings.ensures.stays c.args.table.now c.args.bytes.now c.view_of.result c.view_of.ensures.good c.view_of.ensures.fits c.view_of.ensures.exact

pub returns-clause-parts : goal.returns-clause-parts
returns-clause-parts c = λ es ws b h. SpellsBodies-Parts c.args.table.now.rows es ws b h
