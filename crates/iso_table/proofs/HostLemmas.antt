-- A table is ready for a host exactly where nothing is wrong with it.
use Rattle.std.specs.Option.{option_or}
use Rattle.std.proofs.Common.{◌≡◌, Bool, true, false, cond, eqb, List, [], ◌∷◌, Option, Some, None, refl, arith}
use Rattle.std.proofs.lemmas.Bool.Decides.{nat_tests}
use Rattle.iso_parts.specs.declared.spec.FieldSpec.{FieldSpec}
use Rattle.iso_table.specs.declared.host_ready.HostRow.{HostRow}
use Rattle.iso_table.specs.declared.fault.HostTableFault.{HostTableFault}
use Rattle.iso_table.specs.declared.fault.HostTableFault.TheVariants.{NoRow, RowShape}
use Rattle.iso_table.specs.Layout.{Layout, row_at}
use Rattle.iso_table.specs.HostReady.{is_shape, host_row_fault, host_rows_fault, host_rows, host_fault, IsHostRow, AreHostRows, IsHostReady}

none_of : (t : Bool) (e : HostTableFault) → cond t (Some e) None ≡ None → t ≡ false
none_of true e h = absurd cc
none_of false e h = refl

some_of : (t : Bool) (e : HostTableFault) → cond t None (Some e) ≡ None → t ≡ true
some_of true e h = refl
some_of false e h = absurd cc

pub row_good : (h : HostRow) (r : Option FieldSpec) → host_row_fault h r ≡ None → IsHostRow h r
row_good h None e = none_of h.needed (NoRow h.number) e
row_good h (Some s) e = some_of (is_shape h.shape s) (RowShape h.number) e

row_none : (h : HostRow) (r : Option FieldSpec) → IsHostRow h r → host_row_fault h r ≡ None
row_none h None good = rw good refl
row_none h (Some s) good = rw good refl

both_none : (a b : Option HostTableFault) → option_or a b ≡ None → (a ≡ None) × (b ≡ None)
both_none None b e = (refl, e)
both_none (Some x) b e = absurd cc

rows_good : (hs : List HostRow) (rows : List (Option FieldSpec)) → host_rows_fault hs rows ≡ None → AreHostRows hs rows
rows_good [] rows e = tt
rows_good (h ∷ hs) rows e =
    let p = both_none (host_row_fault h (row_at rows h.number)) (host_rows_fault hs rows) e in
    (row_good h (row_at rows h.number) p.0, rows_good hs rows p.1)

rows_none : (hs : List HostRow) (rows : List (Option FieldSpec)) → AreHostRows hs rows → host_rows_fault hs rows ≡ None
rows_none [] rows good = refl
rows_none (h ∷ hs) rows good = rw (row_none h (row_at rows h.number) good.0) (rows_none hs rows good.1)

-- nothing is wrong with a table that is ready
pub host_none : (t : Layout) → IsHostReady t → host_fault t ≡ None
host_none t ready = let v : eqb t.version 0 ≡ true = let e = ready.version in grind (arith, nat_tests) in rw v (rows_none host_rows t.rows ready.rows)

-- a table with nothing wrong is ready
pub host_good : (t : Layout) → t.version ≡ 0 → host_rows_fault host_rows t.rows ≡ None → IsHostReady t
host_good t version rows = record { version = version; rows = rows_good host_rows t.rows rows }
