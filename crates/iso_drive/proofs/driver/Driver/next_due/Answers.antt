use Rattle.iso_drive.proofs.driver.Driver.next_due.Goals as goal

pub returns-in-Some-clause-none_before : goal.returns-in-Some-clause-none_before
returns-in-Some-clause-none_before g c = λ is. c.who_waits.ensures.in_time.first c.args.self.now.board.waiting.items c.in-Some.first c.in-Some.ensures is.in_time.in_order
