-- Notes that are gone through again.
use Rattle.std.proofs.Common.{◌≡◌, ◌<◌, ◌+◌, ℕ, Bool, true, false, refl, arith, ap, sym, ◌∙◌, subst, List, [], ◌∷◌, ◌++◌, length, take, drop, get_or, take-append-drop}
use Rattle.std.specs.Prelude.{◌&&◌, nat_le}
use Rattle.std.proofs.lemmas.List.{take_more, drop_more}
use Rattle.std.proofs.lemmas.Bool.Decides.{nat_tests}
use Rattle.iso_order.specs.declared.act.Act.{Act}
use Rattle.iso_order.specs.declared.act.Act.TheVariants.{Debit}
use Rattle.iso_order.specs.declared.act.Money.{Money}
use Rattle.iso_order.specs.Key.{is_valid_key}
use Rattle.iso_order.specs.Order.{Instruction, is_valid, is_valid_act, is_payment, has_amount, is_account, is_currency, most_amount}
use Rattle.iso_order.specs.Pan.{is_pan}
use Rattle.iso_acquirer.specs.declared.slot.Slot.{Slot}
use Rattle.iso_acquirer.specs.Acquirer.{IsFair}
use Rattle.iso_restarts.specs.declared.note.Note.{Note}
use Rattle.iso_restarts.specs.Diary.{slots_after, party_after}
use Rattle.iso_restarts.specs.Replayed.{party_noted, CanNote, CanBeWritten}
use Rattle.iso_restarts.proofs.Noted.{slots-join}

-- ---- a debit that is valid can begin

right : (a b : Bool) → (a && b) ≡ true → b ≡ true
right true b h = h
right false b h = cc

left : (a b : Bool) → (a && b) ≡ true → a ≡ true
left true b h = refl
left false b h = cc

pub fair-valid : (o : Instruction) (m : Money) → o.act ≡ Debit m → is_valid o ≡ true → IsFair m.amount m.currency o.key.sent
unfolding is_valid
fair-valid o m asks valid =
    let key = left (is_valid_key o.key) (is_valid_act o.key o.act) valid in
    let act = right (is_valid_key o.key) (is_valid_act o.key o.act) valid in
    let debit : is_valid_act o.key (Debit m) ≡ true = subst (λ (a : Act). is_valid_act o.key a ≡ true) asks act in
    let moved : has_amount m ≡ true = right (is_payment o.key) (has_amount m) debit in
    let most : nat_le m.amount most_amount ≡ true = right (is_account m && nat_le 1 m.amount) (nat_le m.amount most_amount) moved in
    let some : (is_account m && nat_le 1 m.amount) ≡ true = left (is_account m && nat_le 1 m.amount) (nat_le m.amount most_amount) moved in
    let least : nat_le 1 m.amount ≡ true = right (is_account m) (nat_le 1 m.amount) some in
    let sent : nat_le o.key.sent 9999999999 ≡ true = grind (arith, key) in
    record {
      least = grind (arith, nat_tests, least);
      most = grind (arith, nat_tests, most);
      currency_fits = right (is_pan m.pan) (is_currency m.currency) (left (is_account m) (nat_le 1 m.amount) some);
      sent_fits = grind (arith, nat_tests, sent);
    }

-- ---- one note more

pub party-next : (id : ℕ) (notes : List Note) (i : ℕ) (n : Note) → i < length notes → n ≡ get_or notes i n → party_after id (take (i + 1) notes) ≡ party_noted (party_after id (take i notes)) n
party-next id notes i n lt is =
    let one : take (i + 1) notes ≡ take i notes ++ n ∷ [] = take_more notes i n lt ∙ ap (λ (x : Note). take i notes ++ x ∷ []) (sym is) in
    ap (λ (l : List Slot). record { id = id; slots = l }) (ap (slots_after []) one ∙ slots-join [] (take i notes) (n ∷ []))

-- ---- notes that an acquirer can have written

pub can-split : (id : ℕ) (slots : List Slot) (xs ys : List Note) (n : Note) → CanBeWritten (record { id = id; slots = slots }) (xs ++ n ∷ ys) → CanNote (record { id = id; slots = slots_after slots xs }) n
can-split id slots [] ys n can = can.0
can-split id slots (x ∷ xs) ys n can = can-split id (party_noted (record { id = id; slots = slots }) x).slots xs ys n can.1

pub can-at : (id : ℕ) (notes : List Note) (i : ℕ) (n : Note) → i < length notes → n ≡ get_or notes i n → CanBeWritten (party_after id []) notes → CanNote (party_after id (take i notes)) n
can-at id notes i n lt is can =
    let split : notes ≡ take i notes ++ n ∷ drop (i + 1) notes =
    sym (take-append-drop i notes) ∙ ap (λ (l : List Note). take i notes ++ l) (drop_more notes i n lt ∙ ap (λ (x : Note). x ∷ drop (i + 1) notes) (sym is)) in
    can-split id [] (take i notes) (drop (i + 1) notes) n (subst (CanBeWritten (party_after id [])) split can)
