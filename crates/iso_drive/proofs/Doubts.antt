-- The transactions to look at, as the driver has them.
use Rattle.std.proofs.Common.{◌≡◌, Bool, true, false, refl, ap, ◌∙◌, List, [], ◌∷◌, cond}
use Rattle.std.specs.Prelude.{◌&&◌, map, filter}
use Rattle.iso_order.specs.declared.act.Act.{Act}
use Rattle.iso_order.specs.declared.act.Act.TheVariants.{Debit, Credit, Inquiry, Undo, Complete}
use Rattle.iso_order.specs.Pan.{AccountNumber}
use Rattle.iso_acquirer.specs.declared.slot.Slot.{Slot}
use Rattle.iso_drive.specs.declared.made.Made.{Made}
use Rattle.iso_drive.specs.Doubtful.{is_doubtful, takes_from, is_doubtful_of, doubtful_of, debit_is_of, made_is_doubtful, doubtful_in}
use Rattle.iso_acquirer.specs.Acquirer.{state_in_role}
use Rattle.iso_drive.specs.Counts.{is_such}
use Rattle.iso_drive.specs.Made.{made_of, debit_in}
use Rattle.iso_drive.proofs.Counted.{role-such}

debit-same : (pan : AccountNumber) (act : Act) → debit_is_of (debit_in act) pan ≡ takes_from pan act
debit-same pan (Debit m) = refl
debit-same pan (Credit m) = refl
debit-same pan (Inquiry m) = refl
debit-same pan (Undo original left) = refl
debit-same pan (Complete m hold) = refl

doubt-same : (pan : AccountNumber) (s : Slot) → made_is_doubtful pan (made_of s) ≡ is_doubtful_of pan s
doubt-same pan s =
    ap (λ (b : Bool). b && debit_is_of (debit_in s.order.act) pan) (role-such is_doubtful s.role)
    ∙ ap (λ (b : Bool). is_such is_doubtful (state_in_role s.role) && b) (debit-same pan s.order.act)

-- one more in front, or not
head : (b : Bool) (m : Made) (s : Slot) (ms : List Made) (ss : List Slot) → m.key.stan ≡ s.order.key.stan →
    map (λ (x : Made). x.key.stan) ms ≡ map (λ (x : Slot). x.order.key.stan) ss →
    map (λ (x : Made). x.key.stan) (cond b (m ∷ ms) ms) ≡ map (λ (x : Slot). x.order.key.stan) (cond b (s ∷ ss) ss)
head true m s ms ss same ih = cc
head false m s ms ss same ih = ih

pub doubts-same : (pan : AccountNumber) (slots : List Slot) → doubtful_in pan (map made_of slots) ≡ doubtful_of pan slots
doubts-same pan [] = refl
doubts-same pan (s ∷ ss) =
    let ms : List Made = filter (made_is_doubtful pan) (map made_of ss) in
    ap (λ (b : Bool). map (λ (x : Made). x.key.stan) (cond b (made_of s ∷ ms) ms)) (doubt-same pan s)
    ∙ head (is_doubtful_of pan s) (made_of s) s ms (filter (is_doubtful_of pan) ss) refl (doubts-same pan ss)
