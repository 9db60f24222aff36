use Rattle.std.proofs.Common.{◌≡◌, ◌+◌, ◌++◌, length, map, option_map}
use Rattle.serde_json.specs.View.{items_view}
use Rattle.iso_etcd.specs.Keys.{name_text}
use Rattle.iso_etcd.specs.Answers.{batches_from}
use Rattle.iso_etcd.proofs.page.batches_from.Given as goal

abbrev pub invariant-loop-rest : goal.invariant-loop-rest
invariant-loop-rest l = record {
  told : option_map (λ bs. map (λ b. b.items) l.batches.items ++ bs) (batches_from (name_text l.name) l.place (items_view l.rest))
      ≡ batches_from (name_text l.name) l.first (items_view l.pairs);
  place : l.place + length l.rest ≡ l.first + length l.pairs;
}

abbrev pub decreases-loop-rest : goal.decreases-loop-rest
decreases-loop-rest l = length l.rest
