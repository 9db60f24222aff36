-- A network's own names, laid over those of an edition.
use Rattle.std.specs.Prelude.{ℕ, ◌==◌, List, find, string_bytes, Option, option_map}
use Rattle.iso_names.specs.declared.own.OwnName.{OwnName}

-- an element and the network's own name of it
pub record Own : Type 0 where
  pub element : ℕ
  pub name : List ℕ

-- the names of a network: those of its own come before those of the version's edition
pub record NetworkNames : Type 0 where
  pub version : ℕ
  pub own : List Own

-- what is kept of an own name, without where it lies in memory
abbrev pub own_view : OwnName → Own
own_view o = record { element = o.element; name = string_bytes o.name }

-- the network's own name of an element, if it has one
abbrev pub own_name : List Own → ℕ → Option (List ℕ)
own_name own n = option_map (λ o. o.name) (find (λ o. o.element == n) own)
