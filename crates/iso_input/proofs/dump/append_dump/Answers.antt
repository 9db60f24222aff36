use Rattle.std.proofs.Common.{◌≡◌, ℕ, ◌+◌, ◌-◌, ◌≤◌, ◌<◌, List, [], ◌∷◌, length, refl, length-take, drop, take, Result, Ok, sym, ap, ◌∙◌, arith, length-drop}
use Rattle.std.proofs.lemmas.Grind.{common_steps}
use Rattle.std.specs.List.{position_or_len, slice_split}
use Rattle.iso_input.specs.declared.fault.HexFault.{HexFault}
use Rattle.iso_input.specs.Digits.{after}
use Rattle.iso_input.specs.Dump.{is_newline, row_bytes, rows, dump_bytes}
use Rattle.iso_input.proofs.Reading.{after_fault}
use Rattle.iso_input.proofs.Lines.{longer, kept_after, rows_fault, rows_last, rows_next, behind_first}
use Rattle.iso_input.proofs.dump.append_dump.Goals as goal

empty : (xs : List ℕ) → length xs ≡ 0 → xs ≡ []
empty [] h = refl
empty (x ∷ xs) h = absurd (omega arith)

pub returns-in-Err-clause-fault : goal.returns-in-Err-clause-fault
returns-in-Err-clause-fault c =
    let rest = c.lines.rest.now in
    let size = position_or_len is_newline rest in
    let out = c.lines.out.items in
    let count = length out - length c.args.out.now.items in
    let here : c.split_at.result.0.now ≡ take size rest = c.split_at.ensures.front ∙ ap (λ n. take n rest) c.line_len.ensures.size in
    let counted : c.len.result - c.len-start.result ≡ count = grind (arith, common_steps) in
    let same : row_bytes c.lines.line (c.len.result - c.len-start.result) c.split_at.result.0.now ≡ row_bytes c.lines.line count (take size rest) =
    ap (λ n. row_bytes c.lines.line n c.split_at.result.0.now) counted ∙ ap (row_bytes c.lines.line count) here in
    λ fresh. after_fault c.args.out.now.items (dump_bytes c.args.text.now) c.in-Err.fault
    (c.lines.invariant.read ∙ ap (λ (r : Result (List ℕ) HexFault). after out r) (rows_fault c.lines.line count rest c.in-Err.fault (sym same ∙ c.in-Err.ensures.fault fresh)))

pub returns-in_default-behind-clause-appended : goal.returns-in_default-behind-clause-appended
returns-in_default-behind-clause-appended c =
    let rest = c.lines.rest.now in
    let size = position_or_len is_newline rest in
    let out = c.lines.out.items in
    let now = c.append_row.new.out.items in
    let count = length out - length c.args.out.now.items in
    let here : c.split_at.result.0.now ≡ take size rest = c.split_at.ensures.front ∙ ap (λ n. take n rest) c.line_len.ensures.size in
    let counted : c.len.result - c.len-start.result ≡ count = grind (arith, common_steps) in
    let same : row_bytes c.lines.line (c.len.result - c.len-start.result) c.split_at.result.0.now ≡ row_bytes c.lines.line count (take size rest) =
    ap (λ n. row_bytes c.lines.line n c.split_at.result.0.now) counted ∙ ap (row_bytes c.lines.line count) here in
    let appended : after out (row_bytes c.lines.line count (take size rest)) ≡ Ok now = ap (λ (r : Result (List ℕ) HexFault). after out r) (sym same) ∙ c.in_default.ensures.appended in
    let back : c.split_at.result.1.now ≡ drop size rest = c.split_at.ensures.back ∙ ap (λ n. drop n rest) c.line_len.ensures.size in
    let short : length (drop size rest) ≡ 0 = omega (arith, c.in_default-behind.len_below, ap length back) in
    c.lines.invariant.read ∙ rows_last out now c.lines.line count rest (empty (drop size rest) short) appended

pub lines-preserved : goal.lines-preserved
lines-preserved c =
    let rest = c.lines.rest.now in
    let size = position_or_len is_newline rest in
    let first = c.args.out.now.items in
    let out = c.lines.out.items in
    let now = c.append_row.new.out.items in
    let count = length out - length first in
    let here : c.split_at.result.0.now ≡ take size rest = c.split_at.ensures.front ∙ ap (λ n. take n rest) c.line_len.ensures.size in
    let counted : c.len.result - c.len-start.result ≡ count = grind (arith, common_steps) in
    let same : row_bytes c.lines.line (c.len.result - c.len-start.result) c.split_at.result.0.now ≡ row_bytes c.lines.line count (take size rest) =
    ap (λ n. row_bytes c.lines.line n c.split_at.result.0.now) counted ∙ ap (row_bytes c.lines.line count) here in
    let appended : after out (row_bytes c.lines.line count (take size rest)) ≡ Ok now = ap (λ (r : Result (List ℕ) HexFault). after out r) (sym same) ∙ c.in_default.ensures.appended in
    let back : c.split_at.result.1.now ≡ drop size rest = c.split_at.ensures.back ∙ ap (λ n. drop n rest) c.line_len.ensures.size in
    let more : size < length rest = omega (arith, c.in-len1-up.len_at_least, ap length back, length-drop size rest) in
    let tail : take (length c.split_at.result.1.now - 1) (drop 1 c.split_at.result.1.now) ≡ drop (size + 1) rest =
    ap (λ (b : List ℕ). take (length b - 1) (drop 1 b)) back ∙ behind_first rest size in
    let begun : length first ≤ length out = omega (arith, length-take (length first) out, ap length c.lines.invariant.kept) in
    let grown = longer out now (row_bytes c.lines.line count (take size rest)) appended in
    let whole : count + (length now - length out) ≡ length now - length first = omega arith in
    rw tail (record {
      read = c.lines.invariant.read ∙ rows_next out now c.lines.line count rest more appended
          ∙ ap (λ n. after now (rows (c.lines.line + 1) n (slice_split is_newline (drop (size + 1) rest)))) whole;
      kept = kept_after first out now (row_bytes c.lines.line count (take size rest)) c.lines.invariant.kept appended;
      lines = omega (arith, c.lines.invariant.lines, length-drop (size + 1) rest);
    })
