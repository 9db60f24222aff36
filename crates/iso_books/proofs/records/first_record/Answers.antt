use Rattle.std.proofs.Common.{◌≤◌, List, ℕ, length, sym, subst}
use Rattle.iso_books.proofs.Fronts.{front_held}
use Rattle.iso_books.proofs.records.first_record.Goals as goal

pub returns-clause-front : goal.returns-clause-front
returns-clause-front g c =
    let long = subst (λ (l : List ℕ). 128 ≤ length l) (sym c.held.ensures.held) (c.in_ok-fill.ensures.full c.if-not-branch.false) in
    front_held c.held.result.now c.record_of.result c.fill.new.window.ahead long c.record_of.ensures c.held.ensures.front
