use Rattle.std.proofs.Common.{ℕ, List, ◌++◌, ap, ◌∙◌}
use Rattle.std.specs.List.{flat_map}
use Rattle.iso_wire.specs.Describing.{clear_text}
use Rattle.iso_json.specs.Written.{escaped}
use Rattle.iso_json.proofs.Escapes.{escaped_pieces, value_pieces}
use Rattle.iso_json.proofs.writing.push_masked.Goals as goal

pub returns-clause-text : goal.returns-clause-text
returns-clause-text c =
    let shown = c.masked-shown in
    escaped_pieces c.args.out.now.items c.push_text.new.out.items c.push_stars.new.out.items c.push_text-2.new.out.items
    (clear_text c.args.class shown.result.front.now) (clear_text c.args.class shown.result.end.now) shown.result.hidden
    c.in_ok-push_text.ensures.text c.in_ok-push_stars.ensures.text c.in_ok-push_text-2.ensures.text
    ∙ ap (λ (x : List ℕ). c.args.out.now.items ++ flat_map escaped x)
    (value_pieces c.args.class c.args.n c.args.value.now shown.result.front.now shown.result.end.now shown.result.hidden shown.ensures.front shown.ensures.end shown.ensures.hidden)
