use Rattle.iso_durable.proofs.Entered.{enter}
use Rattle.iso_durable.proofs.laws.orders_enter.Goals as goal

pub returns : goal.returns
returns c = enter (record {
  go_on = c.firsts_go_on.ensures;
  stay = c.firsts_stay.ensures;
  known = c.keys_stay_distinct.ensures.known;
  last = c.keys_stay_distinct.ensures.new;
  distinct = c.keys_stay_distinct.ensures.distinct;
})
