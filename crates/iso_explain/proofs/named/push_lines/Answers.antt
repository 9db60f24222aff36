use Rattle.std.proofs.Common.{◌++◌, ◌∙◌, ℕ, List, [], refl, sym, ap, subst, append_assoc, append-nil}
use Rattle.iso_explain.specs.NamedLines.{NamedLines}
use Rattle.iso_explain.proofs.named.push_lines.Goals as goal

pub loop-n-preserved : goal.loop-n-preserved
loop-n-preserved c = λ rest h.
    let line = c.in_ok-push_line.ensures in
    let Named : List (ℕ × List ℕ) → Type 0 = λ es. NamedLines c.args.is_clear c.args.table.now.rows c.args.names.now es (line.0 ++ rest) in
    let all = c.loop-n.invariant (line.0 ++ rest) (subst Named (sym c.in-Some.ensures.steps) (line.0, rest, line.1, h, refl)) in
    (all.0, all.1, ap (λ (out : List ℕ). out ++ rest) line.2 ∙ append_assoc c.loop-n.out.items line.0 rest ∙ all.2)

pub returns : goal.returns
returns c =
    let Named : List (ℕ × List ℕ) → Type 0 = λ es. NamedLines c.args.is_clear c.args.table.now.rows c.args.names.now es [] in
    let all = c.loop-n.invariant [] (subst Named (sym c.in-None.ensures.steps.0) refl) in
    (all.0, all.1, sym (append-nil c.loop-n.out.items) ∙ all.2)
