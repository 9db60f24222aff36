use Rattle.std.proofs.Common.{◌≡◌, ◌++◌, take, map}
use Rattle.iso_review.specs.Complaints.{complaint_at}
use Rattle.iso_review.proofs.document.push_all.Given as goal

-- a complaint for each finding so far
abbrev pub invariant-loop-finding : goal.invariant-loop-finding
invariant-loop-finding l = l.out.items ≡ l.fn.out.items ++ map (complaint_at l.place) (take l.finding-index l.findings)
