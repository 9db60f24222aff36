use Rattle.iso_order.proofs.requests.add.Goals as goal

pub returns-in-7 : goal.returns-in-7
returns-in-7 c = rw c.in-7.is c.add_number.ensures
