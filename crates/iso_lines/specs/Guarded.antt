-- A line, and whether its frames are looked at before the host is given them.
use Rattle.std.specs.Prelude.{◌||◌, Bool, not, eqb, nat_lt, length}
use Rattle.iso_links.specs.declared.terms.Terms.{Terms}
use Rattle.iso_guard.specs.Guarding.{Guard, guard_of}
use Rattle.iso_lines.specs.declared.line.Line.{Line}

-- the table, the header, the acquirers and the bytes before each message, of a line
abbrev pub guard_at : Line → Guard
guard_at line = guard_of line.link.now line.terms.now

-- bytes stand before each message, or only some acquirers may be spoken for
abbrev pub is_guarded : Terms → Bool
is_guarded terms = nat_lt 0 terms.skip || not (eqb (length terms.acquirers.items) 0)
