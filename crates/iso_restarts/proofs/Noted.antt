-- What follows from notes, where more notes follow.
use Rattle.std.proofs.Common.{◌≡◌, refl, ap, sym, ◌∙◌, List, [], ◌∷◌, ◌++◌, append_assoc}
use Rattle.iso_order.specs.Order.{Instruction}
use Rattle.iso_acquirer.specs.declared.slot.Slot.{Slot}
use Rattle.iso_restarts.specs.declared.note.Note.{Note}
use Rattle.iso_restarts.specs.Diary.{slots_noted, orders_noted, slots_after, orders_after}

pub slots-join : (slots : List Slot) (xs ys : List Note) → slots_after slots (xs ++ ys) ≡ slots_after (slots_after slots xs) ys
slots-join slots [] ys = refl
slots-join slots (n ∷ xs) ys = slots-join (slots_noted slots n) xs ys

pub orders-join : (slots : List Slot) (xs ys : List Note) → orders_after slots (xs ++ ys) ≡ orders_after slots xs ++ orders_after (slots_after slots xs) ys
orders-join slots [] ys = refl
orders-join slots (n ∷ xs) ys =
    ap (λ (l : List Instruction). orders_noted slots n ++ l) (orders-join (slots_noted slots n) xs ys)
    ∙ sym (append_assoc (orders_noted slots n) (orders_after (slots_noted slots n) xs) (orders_after (slots_after (slots_noted slots n) xs) ys))
