-- Objects of texts, bytes and numbers, and lists of one.
-- Inner: bodies and proofs cite it, and no public clause does.
use Rattle.std.specs.Prelude.{List, ℕ, [], ◌∷◌}
use Rattle.std.specs.Borrow.{Bor}
use Rattle.serde_json.specs.Data.{Data, Members, number, unsigned, string, put}
use Rattle.iso_etcd.specs.Questions.{base64}
use Rattle.iso_etcd.specs.declared.leaf.Leaf.{Leaf}

-- what stands in JSON for a leaf
abbrev pub leaf_data : Leaf → Data
leaf_data (Leaf.Text text) = string text.now
leaf_data (Leaf.Bytes bytes) = base64 bytes.now
leaf_data (Leaf.Number n) = number (unsigned n)

-- the members, with these leaves more
abbrev pub with_leaves : List (Bor (List ℕ) × Leaf) → Members → Members
with_leaves [] members = members
with_leaves (leaf ∷ leaves) members = with_leaves leaves (put leaf.0.now (leaf_data leaf.1) members)
