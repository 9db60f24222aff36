use Rattle.std.proofs.Common.{arith, ◌≡◌, ◌∙◌, true, false, drop, take, length, sym, ap}
use Rattle.std.proofs.lemmas.List.{take-append-drop}
use Rattle.iso_jobs.specs.Making.{is_json, is_blank}
use Rattle.iso_jobs.proofs.TextLemmas.{no_json_on, no_json_before}
use Rattle.iso_jobs.proofs.cutting.first_text.Goals as goal

pub returns-then-is_empty-clause-rest : goal.returns-then-is_empty-clause-rest
returns-then-is_empty-clause-rest c = λ json.
    let held = c.args.held.now in
    let line = take c.in-Some.size held in
    let full : is_blank line ≡ false = ap is_blank (sym c.split_at.ensures.front) ∙ sym c.if-is_blank.ensures in
    let none : is_json line ≡ false = ap is_json (sym c.split_at.ensures.front) ∙ sym c.if-is_json.ensures in
    let whole = no_json_on line (drop c.in-Some.size held) full none in
    let e : true ≡ false = sym json ∙ ap is_json (sym (take-append-drop c.in-Some.size held)) ∙ whole in
    absurd (grind arith)

pub returns-clause-text : goal.returns-clause-text
returns-clause-text c = λ json.
    let held = c.args.held.now in
    let line = take c.in-Some.size held in
    let full : is_blank line ≡ false = ap is_blank (sym c.split_at.ensures.front) ∙ sym c.if-is_blank.ensures in
    let none : is_json line ≡ false = ap is_json (sym c.split_at.ensures.front) ∙ sym c.if-is_json.ensures in
    let whole : is_json held ≡ false =
    ap is_json (sym (take-append-drop c.in-Some.size held)) ∙ no_json_on line (drop c.in-Some.size held) full none in
    let e : true ≡ false = sym json ∙ no_json_before (length c.split_fields.result.0.now) held whole in
    absurd (grind arith)
