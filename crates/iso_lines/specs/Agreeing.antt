-- What is agreed on with the peers of a line.
use Rattle.std.specs.Prelude.{◌≡◌}
use Rattle.iso_peers.specs.Connection.{ConnectionState}
use Rattle.iso_guard.specs.Guarding.{GuardedState, guard_of}
use Rattle.iso_lines.specs.declared.line.Line.{Line}

-- the bytes of a peer are read and written as its line says
abbrev pub IsOfLine : Line → ConnectionState → GuardedState → Type 0
IsOfLine line direct guarded =
    (direct.peer.table ≡ line.link.now.table) × (direct.peer.header ≡ line.link.now.header)
    × (guarded.guard ≡ guard_of line.link.now line.terms.now)
