use Rattle.iso_order.proofs.requests.add_original.Goals as goal

pub returns-in-Some : goal.returns-in-Some
returns-in-Some c = rw (← c.in-Some.ensures, ← c.original_data.ensures) c.append.ensures.ok
