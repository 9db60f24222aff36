-- Which plans a run takes.
use Rattle.std.specs.Prelude.{ℕ, Bool, true, not, ◌==◌, ◌&&◌, nat_le, nat_lt, List, length, Option, Some, None, if◌then◌else◌}
use Rattle.std.specs.List.{list_all}
use Rattle.iso_mix.specs.Mix.{is_fair}
use Rattle.iso_order.specs.Order.{most_amount, is_currency}
use Rattle.iso_plan.specs.declared.plan.Buyer.{Buyer}
use Rattle.iso_plan.specs.declared.plan.Faults.{Faults}
use Rattle.iso_plan.specs.declared.plan.Plan.{Plan}
use Rattle.iso_plan.specs.declared.plan.PlanFault.{PlanFault}
use Rattle.iso_plan.specs.declared.plan.PlanFault.TheVariants as fault

-- its currency is three letters or digits (element 49)
abbrev pub has_currency : Buyer → Bool
has_currency b = is_currency b.currency

-- there is one at least, and for each there are two trace numbers (element 11), and each has a currency
abbrev pub are_buyers : List Buyer → Bool
are_buyers buyers =
    nat_lt 0 (length buyers) && nat_le (length buyers) 499999 && list_all has_currency buyers

-- chances in millionths, and a range of delays
abbrev pub are_faults : Faults → Bool
are_faults f =
    nat_le f.lose 1000000 && nat_le f.repeat 1000000 && nat_le f.cut 1000000
    && nat_le f.delay.0 f.delay.1

-- some purchases begin in a second, or as many as may be open
abbrev pub is_rate : Option ℕ → Bool
is_rate None = true
is_rate (Some n) = nat_lt 0 n

-- amounts that can be moved, the least first
abbrev pub are_amounts : ℕ → ℕ → Bool
are_amounts least most = nat_le 1 least && nat_le least most && nat_le most most_amount

-- what is wrong with a plan: the first of these
abbrev pub plan_fault : Plan → Option PlanFault
plan_fault p =
    if nat_lt 99999999999 p.acquirer then Some fault.Acquirer
    else if p.peers == 0 then Some fault.Peers
    else if p.most_open == 0 then Some fault.Open
    else if not (is_rate p.rate) then Some fault.Rate
    else if not (are_amounts p.least p.most) then Some fault.Amounts
    else if not (is_fair p.mix) then Some fault.Mix
    else if not (are_faults p.faults) then Some fault.Faults
    else if not (are_buyers p.buyers.now) then Some fault.Buyers
    else None
