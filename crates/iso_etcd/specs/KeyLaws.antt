-- The keys of a journal.
use Rattle.std.specs.Prelude.{◌≡◌, ℕ, ◌<◌, ◌^◌, List}
use Rattle.std.specs.Ordering.{nat_cmp}
use Rattle.std.specs.Cmp.Lexicographic.{slice_cmp}
use Rattle.std.specs.declared.cmp.Ordering.TheVariants.{Less}
use Rattle.iso_etcd.specs.Keys.{batch_key, end_key, heading_key, active_key}

-- byte by byte, one key comes before another
abbrev pub IsBefore : List ℕ → List ℕ → Type 0
IsBefore one other = slice_cmp nat_cmp one other ≡ Less

-- what holds of the keys of each journal
pub record KeyLaws : Type 0 where
  -- the batches' keys are in the order of their places
  pub in_order : (name : List ℕ) (one other : ℕ) → one < other → other < 2 ^ 32
      → IsBefore (batch_key name one) (batch_key name other)
  -- distinct places have distinct keys
  pub distinct : (name : List ℕ) (one other : ℕ) → one < 2 ^ 32 → other < 2 ^ 32
      → batch_key name one ≡ batch_key name other → one ≡ other
  -- a range up to the end key has all of them, and neither what the journal is nor who is active
  pub within : (name : List ℕ) (place : ℕ) → IsBefore (batch_key name place) (end_key name)
  pub heading_behind : (name : List ℕ) → IsBefore (end_key name) (heading_key name)
  pub active_before : (name : List ℕ) (place : ℕ)
      → IsBefore (active_key name) (batch_key name place)
