-- Pages of a journal, and single values.
use Rattle.std.specs.Prelude.{◌≡◌, ℕ, List, Option, Some, map, codes}
use Rattle.serde_json.specs.Data.{Data}
use Rattle.iso_etcd.specs.Answers.{IsJson, is_true, value_in, batches_in}
use Rattle.iso_etcd.specs.declared.page.Page.{Page}

-- the answer is this page, from a place on
abbrev pub IsPage : List ℕ → ℕ → Data → Page → Type 0
IsPage name first answer page =
    (batches_in name first answer ≡ Some (map (λ batch. batch.items) page.batches.items))
    × (page.more ≡ is_true (codes "more") answer)

-- the body tells that this stands at a key, or that nothing does
abbrev pub IsValue : List ℕ → List ℕ → Option (List ℕ) → Type 0
IsValue key body value = (answer : Data) × IsJson body answer × (value_in key answer ≡ Some value)
