-- How many members an object has.
use Rattle.std.proofs.Common.{◌≡◌, ◌+◌, List, [], ◌∷◌, length, refl, ap, ◌∙◌, add-one}
use Rattle.std.specs.Prelude.{String}
use Rattle.std.specs.declared.alloc.Global.{Global}
use Rattle.serde_json.specs.View.{members_view}
use Rattle.serde_json.specs.declared.value.Value.{Value}
use Rattle.iso_table.specs.Members.{member_count}

pub count_members : (ms : List (String Global × Value)) → member_count (members_view ms) ≡ length ms
count_members [] = refl
count_members (m ∷ ms) = ap (λ n. n + 1) (count_members ms) ∙ add-one (length ms)
