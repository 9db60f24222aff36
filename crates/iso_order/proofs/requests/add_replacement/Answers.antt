use Rattle.iso_order.proofs.requests.add_replacement.Goals as goal

pub returns-in-Some : goal.returns-in-Some
returns-in-Some c = rw (← c.in-Some.ensures, ← c.replacement_amounts.ensures) c.append.ensures.ok
