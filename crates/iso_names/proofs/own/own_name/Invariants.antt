use Rattle.std.proofs.Common.{◌≡◌, drop, map}
use Rattle.iso_names.specs.Own.{own_view, own_name}
use Rattle.iso_names.proofs.own.own_name.Given as goal

-- the names so far are other elements'
abbrev pub invariant-loop-name : goal.invariant-loop-name
invariant-loop-name l = own_name (map own_view (drop l.name-index l.own)) l.element ≡ own_name (map own_view l.own) l.element
