use Rattle.iso_wire.proofs.taking.take_piece.Goals as goal

pub returns-then-is_empty-clause-exact : goal.returns-then-is_empty-clause-exact
returns-then-is_empty-clause-exact c = c.take_first.ensures.exact

pub returns-else-is_empty-clause-exact : goal.returns-else-is_empty-clause-exact
returns-else-is_empty-clause-exact c = c.take_further.ensures.exact

pub returns-then-is_empty-clause-kept : goal.returns-then-is_empty-clause-kept
returns-then-is_empty-clause-kept c = c.take_first.ensures.kept

pub returns-else-is_empty-clause-kept : goal.returns-else-is_empty-clause-kept
returns-else-is_empty-clause-kept c = c.take_further.ensures.kept

pub returns-then-is_empty-clause-resumed : goal.returns-then-is_empty-clause-resumed
returns-then-is_empty-clause-resumed c = c.take_first.ensures.resumed

pub returns-else-is_empty-clause-resumed : goal.returns-else-is_empty-clause-resumed
returns-else-is_empty-clause-resumed c = c.take_further.ensures.resumed

pub returns-then-is_empty-clause-good : goal.returns-then-is_empty-clause-good
returns-then-is_empty-clause-good c = c.take_first.ensures.good

pub returns-else-is_empty-clause-good : goal.returns-else-is_empty-clause-good
returns-else-is_empty-clause-good c = c.take_further.ensures.good

pub take_further-requires-clause-short : goal.take_further-requires-clause-short
take_further-requires-clause-short c = c.requires.short

pub take_further-requires-clause-resumed : goal.take_further-requires-clause-resumed
take_further-requires-clause-resumed c = c.requires.resumed
