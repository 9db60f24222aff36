use Rattle.iso_etcd.proofs.KeyLemmas.{in_order, distinct, within, heading_behind, active_before}
use Rattle.iso_etcd.proofs.laws.keys.Goals as goal

pub returns : goal.returns
returns c = record {
  in_order = in_order;
  distinct = distinct;
  within = within;
  heading_behind = heading_behind;
  active_before = active_before;
}
