use Rattle.iso_log.proofs.Behind.{length-slots, next_slot, same_slot, same_slots}
use Rattle.iso_log.proofs.laws.slots.Goals as goal

pub returns : goal.returns
returns c = record {
  many = length-slots;
  next = next_slot;
  same_slot = same_slot;
  same_slots = same_slots;
}
