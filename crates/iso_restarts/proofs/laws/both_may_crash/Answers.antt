use Rattle.iso_restarts.proofs.Agreed.{without, without-any, sent-over, agree-over, balance-over, closed-over, calls-are-events}
use Rattle.iso_restarts.specs.World.{run, unused}
use Rattle.iso_restarts.proofs.Startable.{run-startable, left-startable}
use Rattle.iso_restarts.proofs.laws.both_may_crash.Goals as goal

pub returns-clause-without : goal.returns-clause-without
returns-clause-without c = λ id accounts limit events own can. without id accounts limit events own can

pub returns-clause-without_any : goal.returns-clause-without_any
returns-clause-without_any c = λ id accounts limit events own can. without-any id accounts limit events own can c.crashes_only_lose.ensures.without

pub returns-clause-agree : goal.returns-clause-agree
returns-clause-agree c = λ id accounts limit events own can. agree-over id accounts limit events own can c.crashes_only_lose.ensures.agree

pub returns-clause-closed : goal.returns-clause-closed
returns-clause-closed c = λ id accounts limit events own can more can_more.
    closed-over id accounts limit events own can c.crashes_only_lose.ensures.closed more can_more

pub returns-clause-books : goal.returns-clause-books
returns-clause-books c = λ id accounts limit events own can. balance-over id accounts limit events own can c.crashes_only_lose.ensures.books

pub returns-clause-numbers : goal.returns-clause-numbers
returns-clause-numbers c = λ id accounts limit events own can.
    sent-over id accounts limit events own can c.crashes_only_lose.ensures.without c.runs_agree.ensures.sent

pub returns-clause-starts : goal.returns-clause-starts
returns-clause-starts c = λ id accounts limit events own can notes left.
    let w = run events (unused id accounts limit) in
    left-startable w.acquirer notes (run-startable events (unused id accounts limit) tt) left

pub returns-clause-calls : goal.returns-clause-calls
returns-clause-calls c = calls-are-events
