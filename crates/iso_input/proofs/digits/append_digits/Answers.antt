use Rattle.std.proofs.Common.{◌≡◌, ℕ, ◌+◌, drop, get_or, List, Option, Some, Result, true, false, sym, ap, ◌∙◌, arith}
use Rattle.hex.specs.Hex.{hex_digit_value}
use Rattle.iso_input.specs.declared.fault.HexFault.{HexFault}
use Rattle.iso_input.specs.declared.place.Place.{Place}
use Rattle.iso_input.specs.declared.place.Digit.{Digit}
use Rattle.iso_input.specs.Digits.{behind_byte, is_spacing, with_digit, digits_at, after}
use Rattle.iso_input.proofs.Reading.{pairs_from, second, over_spacing, over_digit, behind_line, behind_column, kept_append}
use Rattle.iso_input.proofs.digits.append_digits.Goals as goal
use Rattle.iso_input.proofs.digits.append_digits.Goals.{in-None, in-Some+in_ok-push-in-Some}

pub loop-byte-preserved-then-is_spacing : goal.loop-byte-preserved-then-is_spacing
loop-byte-preserved-then-is_spacing c =
    let text = c.args.text.now in
    let i = c.loop-byte.byte-index in
    let spacing : is_spacing (get_or text i 0) ≡ true = sym c.is_spacing.ensures ∙ c.if-is_spacing.true in
    let over = over_spacing c.loop-byte.next text i c.loop-byte.half c.loop-byte-test.true spacing in
    let line = behind_line c.loop-byte.next (get_or text i 0) in
    let column = behind_column c.loop-byte.next (get_or text i 0) in
    rw c.behind_byte-next.ensures (record {
      read = c.loop-byte.invariant.read ∙ ap (λ (r : Result (List ℕ) HexFault). after c.loop-byte.out.items r) over;
      kept = c.loop-byte.invariant.kept;
      line = omega arith;
      column = omega arith;
      small = c.loop-byte.invariant.small;
    })

pub loop-byte-preserved : goal.loop-byte-preserved
loop-byte-preserved c =
    let text = c.args.text.now in
    let i = c.loop-byte.byte-index in
    let here = c.loop-byte.next in
    let spacing : is_spacing (get_or text i 0) ≡ false = sym c.is_spacing.ensures ∙ c.if-is_spacing.false in
    let digit = c.in_ok-digit.digit in
    let value : hex_digit_value (get_or text i 0) ≡ Some digit.value = c.in_ok-digit.ensures.digit.0 in
    let line = behind_line here (get_or text i 0) in
    let column = behind_column here (get_or text i 0) in
    let over = over_digit here text i digit.value c.loop-byte.half c.loop-byte-test.true spacing value in
    let whole : record { value = digit.value; place = here } ≡ digit = ap (λ (p : Place). record { value = digit.value; place = p }) (sym c.in_ok-digit.ensures.digit.1) in
    let read = c.loop-byte.invariant.read ∙ ap (λ (r : Result (List ℕ) HexFault). after c.loop-byte.out.items r) over
    ∙ ap (λ (d : Digit). after c.loop-byte.out.items (pairs_from c.loop-byte.half (with_digit d (digits_at (behind_byte here (get_or text i 0)) (drop (i + 1) text))))) whole in
    let rest = digits_at (behind_byte here (get_or text i 0)) (drop (i + 1) text) in
    elim c.match-half.branch [
      | in-None w ↦
          let first = ap (λ (half : Option Digit). after c.loop-byte.out.items (pairs_from half (with_digit digit rest))) w.in-None.is in
          rw (c.behind_byte-next.ensures, w.out-is, w.half-is) (record {
            read = read ∙ first;
            kept = c.loop-byte.invariant.kept;
            line = omega arith;
            column = omega arith;
            small = c.in_ok-digit.ensures.small;
          })
      | in-Some+in_ok-push-in-Some w ↦
          let both = ap (λ (half : Option Digit). after c.loop-byte.out.items (pairs_from half (with_digit digit rest))) w.in-Some.is in
          let appended = second c.loop-byte.out.items w.in-Some.high digit rest in
          rw (c.behind_byte-next.ensures, w.out-is, w.half-is, w.in_ok-push-in-Some.ensures.items) (record {
            read = read ∙ both ∙ appended;
            kept = kept_append c.args.out.now.items c.loop-byte.out.items _ c.loop-byte.invariant.kept;
            line = omega arith;
            column = omega arith;
            small = tt;
          })
    ]
