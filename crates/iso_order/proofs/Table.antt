-- How the verdict table is read, block by block.
use Rattle.std.proofs.Common.{◌≡◌, ◌≢◌, ℕ, arith, length, Bool, true, false, not, refl, ap, ◌∙◌, List, ◌++◌}
use Rattle.std.specs.Prelude.{Some, None, option_map, if◌then◌else◌, ◌⊎◌, ◌==◌, ◌&&◌, ◌||◌, nat_lt}
use Rattle.iso_wire.specs.Contents.{Contents}
use Rattle.iso_order.specs.declared.act.Act.TheVariants.{Undo}
use Rattle.iso_order.specs.declared.verdict.Verdict.{Verdict}
use Rattle.iso_order.specs.declared.verdict.Verdict.TheVariants.{Reply}
use Rattle.iso_order.specs.Fields.{version, class, function, origin, text, has_key, original_mti, original_of, is_original, is_own, is_completion, is_hold, is_replacement, left_of}
use Rattle.iso_parts.specs.Mti.{is_answered}
use Rattle.iso_order.specs.Order.{is_currency}
use Rattle.iso_order.specs.Pan.{AccountNumber, pan_of}
use Rattle.iso_wire.specs.Decimal.{are_digits, number}
use Rattle.std.proofs.lemmas.Bool.Decides.{nat_tests}
use Rattle.iso_order.specs.Verdict.{first_of, answered_lines, network_lines, key_lines, reversal_lines, original_lines, completion_lines, account_lines, order_verdict}

module _ (m : Contents) (lines : List (Bool × Verdict)) (last : Verdict) where
  pub not_reversal : (class m == 4) ≡ false → first_of (reversal_lines m ++ lines) last ≡ first_of lines last
  not_reversal h = rw h refl

  pub not_network : (class m == 8) ≡ false → first_of (network_lines m ++ lines) last ≡ first_of lines last
  not_network h = rw h refl

  pub with_key : (class m == 1 || class m == 2 || class m == 4) ≡ true → has_key m ≡ true → first_of (key_lines m ++ lines) last ≡ first_of lines last
  with_key h k = rw (h, k) refl

  pub without_key : (class m == 1 || class m == 2 || class m == 4) ≡ true → has_key m ≡ false → first_of (key_lines m ++ lines) last ≡ Reply 30
  without_key h k = rw (h, k) refl

  pub past_answered : (version m == 0 && is_answered (function m)) ≡ true → nat_lt 5 (origin m) ≡ false → first_of (answered_lines m ++ lines) last ≡ first_of lines last
  past_answered h k = rw (h, k) refl

  pub with_account : are_digits 1 19 (text m 2) ≡ true → are_digits 6 6 (text m 3) ≡ true → is_currency (text m 49) ≡ true → first_of (account_lines m ++ lines) last ≡ first_of lines last
  with_account a p c = rw (a, p, c) refl

  pub no_original : (class m == 4) ≡ true → are_digits 42 42 (text m 90) ≡ false → first_of (original_lines m ++ lines) last ≡ Reply 30
  no_original h d = rw (h, d) refl

  pub of_another_type : (class m == 4) ≡ true → are_digits 42 42 (text m 90) ≡ true → is_original (original_mti m) ≡ false → first_of (original_lines m ++ lines) last ≡ Reply 12
  of_another_type h d o = rw (h, d, o) refl

  pub of_another_acquirer : (class m == 4) ≡ true → are_digits 42 42 (text m 90) ≡ true → is_original (original_mti m) ≡ true → is_own m ≡ false → first_of (original_lines m ++ lines) last ≡ Reply 12
  of_another_acquirer h d o a = rw (h, d, o, a) refl

  pub with_original : (class m == 4) ≡ true → are_digits 42 42 (text m 90) ≡ true → is_original (original_mti m) ≡ true → is_own m ≡ true → first_of (original_lines m ++ lines) last ≡ order_verdict m (Undo (original_of m) (left_of m))
  with_original h d o a = rw (h, d, o, a) refl

  pub not_completing : is_completion m ≡ false → first_of (completion_lines m ++ lines) last ≡ first_of lines last
  not_completing h = rw h refl

  pub no_hold : is_completion m ≡ true → are_digits 42 42 (text m 90) ≡ false → first_of (completion_lines m ++ lines) last ≡ Reply 30
  no_hold h d = rw (h, d) refl

  pub hold_of_another_type : is_completion m ≡ true → are_digits 42 42 (text m 90) ≡ true → is_hold (original_mti m) ≡ false → first_of (completion_lines m ++ lines) last ≡ Reply 12
  hold_of_another_type h d o = rw (h, d, o) refl

  pub hold_of_another_acquirer : is_completion m ≡ true → are_digits 42 42 (text m 90) ≡ true → is_hold (original_mti m) ≡ true → is_own m ≡ false → first_of (completion_lines m ++ lines) last ≡ Reply 12
  hold_of_another_acquirer h d o a = rw (h, d, o, a) refl

  pub with_hold : is_completion m ≡ true → are_digits 42 42 (text m 90) ≡ true → is_hold (original_mti m) ≡ true → is_own m ≡ true → first_of (completion_lines m ++ lines) last ≡ first_of lines last
  with_hold h d o a = rw (h, d, o, a) refl

  pub is_replaced : is_replacement m ≡ true → first_of (reversal_lines m ++ lines) last ≡ first_of (original_lines m ++ lines) last
  is_replaced h = ap (λ b. if class m == 4 && not b then Reply 30 else first_of (original_lines m ++ lines) last) h ∙ off (class m == 4) _
    where
      off : (b : Bool) (v : Verdict) → (if b && not true then Reply 30 else v) ≡ v
      off true v = refl
      off false v = refl

  pub not_replaced : class m ≡ 4 → is_replacement m ≡ false → first_of (reversal_lines m ++ lines) last ≡ Reply 30
  not_replaced four h =
      ap (λ b. if class m == 4 && not b then Reply 30 else first_of (original_lines m ++ lines) last) h
      ∙ ap (λ n. if n == 4 && not false then Reply 30 else first_of (original_lines m ++ lines) last) four

-- a flag whose `!` is known
pub turned : (p q : Bool) → not p ≡ q → p ≡ not q
turned true q h = ap not h
turned false q h = ap not h

-- nothing is there where a test fails
pub none_if : {X : Type 0} (t : Bool) (x : X) → None ≡ (if t then Some x else None) → t ≡ false
none_if true x h = absurd cc
none_if false x h = refl

-- a value that is there under a test
pub some_if : {X : Type 0} (t : Bool) (x y : X) → Some y ≡ (if t then Some x else None) → (t ≡ true) × (y ≡ x)
some_if true x y h = (refl, cc)
some_if false x y h = absurd cc

read_by : (t : Bool) (n len : ℕ) (p : AccountNumber) → Some p ≡ option_map (λ (d : ℕ). record { digits = d; len = len }) (if t then Some n else None) → t ≡ true
read_by true n len p h = refl
read_by false n len p h = absurd cc

pub read_digits : (text : List ℕ) (p : AccountNumber) → Some p ≡ pan_of text → are_digits 1 19 text ≡ true
read_digits text p h = read_by (are_digits 1 19 text) (number text) (length text) p h

-- the classes that are served
pub is_served : (n : ℕ) → (n ≡ 1) ⊎ (n ≡ 2) ⊎ (n ≡ 4) → (n == 1 || n == 2 || n == 4) ≡ true
is_served n h = grind (arith, nat_tests)

pub is_other : (n k : ℕ) → n ≢ k → (n == k) ≡ false
is_other n k h = grind (arith, nat_tests)
