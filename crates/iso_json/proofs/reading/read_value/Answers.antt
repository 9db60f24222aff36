use Rattle.std.proofs.Common.{◌≡◌, ◌∙◌, ℕ, List, ap, subst, sym}
use Rattle.std.specs.Borrow.{Bor}
use Rattle.std.specs.declared.alloc.Global.{Global}
use Rattle.json.specs.Json.{Json, object}
use Rattle.json.specs.Value.{members_view, value_view}
use Rattle.json.proofs.Trees.{view-Object}
use Rattle.json.specs.declared.value.Value.{Value}
use Rattle.iso_json.specs.Said.{Reads}
use Rattle.iso_json.proofs.reading.read_value.Goals as goal

pub returns-in-Object : goal.returns-in-Object
returns-in-Object c =
    let same : value_view c.args.value.now ≡ object (members_view c.as_slice.result.now) =
    ap (λ (v : Value Global). value_view v) c.in-Object.is ∙ view-Object c.in-Object.members ∙ ap (λ (ms : List (Bor (List ℕ) × Value Global)). object (members_view ms)) (sym c.as_slice.ensures.value) in
    subst (λ (j : Json). Reads c.args.table.now j c.read_members.result) (sym same) c.read_members.ensures
