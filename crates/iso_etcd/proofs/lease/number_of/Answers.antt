-- The standard library tells which texts are numerals, and what each is.
use Rattle.iso_etcd.proofs.lease.number_of.Goals as goal

pub returns-in-Ok-clause-found : goal.returns-in-Ok-clause-found
returns-in-Ok-clause-found c = c.in-Ok.ensures.value.0

pub returns-in-Err-clause-none : goal.returns-in-Err-clause-none
returns-in-Err-clause-none c = λ _ number writes. c.in-Err.ensures.value.0 writes.0
