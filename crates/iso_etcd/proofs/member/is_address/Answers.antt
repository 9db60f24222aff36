-- The standard library tells which texts are addresses.
use Rattle.iso_etcd.proofs.member.is_address.Goals as goal

pub returns-in-Ok-clause-found : goal.returns-in-Ok-clause-found
returns-in-Ok-clause-found c = λ _. (c.in-Ok.field-0, c.in-Ok.ensures.value)

pub returns-in-Err-clause-none : goal.returns-in-Err-clause-none
returns-in-Err-clause-none c = λ _ address. c.in-Err.ensures.value address
