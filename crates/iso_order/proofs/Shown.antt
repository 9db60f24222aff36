-- Where a balance is shown, the message has a currency.
use Rattle.std.proofs.Common.{◌≡◌, Bool, true, false, ◌&&◌, List, [], ◌∷◌, ◌++◌, length, refl, sym}
use Rattle.std.specs.Prelude.{ℤ, Option, Some, not, if◌then◌else◌, ◌==◌, nat_le, unsigned_abs}
use Rattle.std.specs.List.{list_all}
use Rattle.std.proofs.lemmas.Bool.{and_parts, eqb-true}
use Rattle.iso_wire.specs.Contents.{Contents}
use Rattle.iso_order.specs.declared.verdict.Verdict.{Verdict}
use Rattle.iso_order.specs.declared.verdict.Verdict.TheVariants.{Reply}
use Rattle.iso_order.specs.Fields.{text}
use Rattle.iso_order.specs.Order.{is_currency, is_letter_or_digit}
use Rattle.iso_order.specs.Response.{is_balance_inquiry, is_showable}
use Rattle.iso_wire.specs.Decimal.{are_digits}
use Rattle.iso_order.specs.Verdict.{first_of, answered_lines, network_lines, key_lines, reversal_lines, completion_lines, act_lines, amount_lines, credit_verdict, verdict}

abbrev Lines : Type 0
Lines = List (Bool × Verdict)

refused_by : (t : Bool) (v w : Verdict) → is_balance_inquiry (if t then v else w) ≡ true → is_balance_inquiry v ≡ false → (t ≡ false) × (is_balance_inquiry w ≡ true)
refused_by true v w h none = absurd cc
refused_by false v w h none = (refl, h)

not_true : (b : Bool) → not b ≡ true → b ≡ false
not_true true h = sym h
not_true false h = refl

pub not_false : (b : Bool) → not b ≡ false → b ≡ true
not_false true h = refl
not_false false h = sym h

-- lines of other verdicts
behind_lines : (lines rest : Lines) (last : Verdict) → list_all (λ (l : Bool × Verdict). not (is_balance_inquiry l.1)) lines ≡ true → is_balance_inquiry (first_of (lines ++ rest) last) ≡ true → is_balance_inquiry (first_of rest last) ≡ true
behind_lines [] rest last none h = h
behind_lines (l ∷ lines) rest last none h =
    let parts = and_parts (not (is_balance_inquiry l.1)) (list_all (λ (k : Bool × Verdict). not (is_balance_inquiry k.1)) lines) none in
    behind_lines lines rest last parts.1 (refused_by l.0 l.1 (first_of (lines ++ rest) last) h (not_true (is_balance_inquiry l.1) parts.0)).1

-- an inquiry has passed the line that asks for a currency
pub balance_inquiry-currency : (m : Contents) → is_balance_inquiry (verdict m) ≡ true → is_currency (text m 49) ≡ true
unfolding verdict
balance_inquiry-currency m h =
    let digits = are_digits 1 19 (text m 2) && are_digits 6 6 (text m 3) in
    let fields : Bool × Verdict = (not (digits && is_currency (text m 49)), Reply 30) in
    let front = answered_lines m ++ network_lines m ++ key_lines m ++ reversal_lines m ++ completion_lines m in
    let behind = behind_lines front (fields ∷ (act_lines m ++ amount_lines m)) (credit_verdict m) refl h in
    let refused = (refused_by (not (digits && is_currency (text m 49))) (Reply 30) (first_of (act_lines m ++ amount_lines m) (credit_verdict m)) behind refl).0 in
    (and_parts digits (is_currency (text m 49)) (not_false (digits && is_currency (text m 49)) refused)).1

pub shown-currency : (m : Contents) (s : Option ℤ) (z : ℤ) → s ≡ Some z → is_showable m s ≡ true → length (text m 49) ≡ 3
shown-currency m s z is h =
    let some : is_showable m (Some z) ≡ true = rw is at h in
    let asks = (and_parts (nat_le (unsigned_abs z) 999999999999) (is_balance_inquiry (verdict m)) some).1 in
    let currency = balance_inquiry-currency m asks in
    eqb-true (length (text m 49)) 3 (and_parts (length (text m 49) == 3) (list_all is_letter_or_digit (text m 49)) currency).0
