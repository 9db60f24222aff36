-- The first fault among rows is that of one row, and nothing is wrong before it.
use Rattle.std.specs.Option.{option_or}
use Rattle.std.proofs.Common.{◌≡◌, List, [], ◌∷◌, ◌++◌, Option, Some, None, refl, ap, subst, ◌∙◌}
use Rattle.std.specs.Prelude.{is_some}
use Rattle.std.proofs.lemmas.List.{append_assoc, append-nil}
use Rattle.iso_parts.specs.declared.spec.FieldSpec.{FieldSpec}
use Rattle.iso_table.specs.declared.draft.Row.{Row}
use Rattle.iso_table.specs.declared.host_ready.HostRow.{HostRow}
use Rattle.iso_table.specs.declared.fault.TableFault.{TableFault}
use Rattle.iso_table.specs.declared.fault.HostTableFault.{HostTableFault}
use Rattle.iso_table.specs.Layout.{row_at}
use Rattle.iso_table.specs.Accepted.{row_of, row_fault, rows_fault, IsFirstFault}
use Rattle.iso_table.specs.HostReady.{host_row_fault, host_rows, host_rows_fault, AreHostRows, IsFirstHostFault}
use Rattle.iso_table.proofs.RowLemmas.{accepted_from_none}
use Rattle.iso_table.proofs.HostLemmas.{row_good}

-- ---- rows of a draft

-- a row has this fault behind earlier rows and others, and these have none
record IsBehind (earlier rows : List Row) (e : TableFault) : Type 0 where
  before : List Row
  bad : Row
  behind : List Row
  split : rows ≡ before ++ bad ∷ behind
  none : rows_fault earlier before ≡ None
  fault : row_fault (is_some (row_of (earlier ++ before) bad.number)) bad ≡ Some e

-- the row itself has the fault
here : (earlier : List Row) (r : Row) (rs : List Row) (e : TableFault)
    → row_fault (is_some (row_of earlier r.number)) r ≡ Some e → IsBehind earlier (r ∷ rs) e
here earlier r rs e h = record {
  before = [];
  bad = r;
  behind = rs;
  split = refl;
  none = refl;
  fault = rw (append-nil earlier) h;
}

-- a row behind one that is good has it
later : (earlier : List Row) (r : Row) (rs : List Row) (e : TableFault)
    → row_fault (is_some (row_of earlier r.number)) r ≡ None → IsBehind (earlier ++ r ∷ []) rs e → IsBehind earlier (r ∷ rs) e
later earlier r rs e good rest = record {
  before = r ∷ rest.before;
  bad = rest.bad;
  behind = rest.behind;
  split = ap (λ (qs : List Row). r ∷ qs) rest.split;
  none = rw good rest.none;
  fault = subst (λ (qs : List Row). row_fault (is_some (row_of qs rest.bad.number)) rest.bad ≡ Some e) (append_assoc earlier (r ∷ []) rest.before) rest.fault;
}

first_behind : (earlier rows : List Row) (e : TableFault) → rows_fault earlier rows ≡ Some e → IsBehind earlier rows e
first_behind earlier [] e h = absurd cc
first_behind earlier (r ∷ rs) e h = by (row_fault (is_some (row_of earlier r.number)) r) refl h (λ k. first_behind (earlier ++ r ∷ []) rs e k)
  where
    by : (o : Option TableFault) → row_fault (is_some (row_of earlier r.number)) r ≡ o → option_or o (rows_fault (earlier ++ r ∷ []) rs) ≡ Some e
        → (rows_fault (earlier ++ r ∷ []) rs ≡ Some e → IsBehind (earlier ++ r ∷ []) rs e) → IsBehind earlier (r ∷ rs) e
    by None is k rest = later earlier r rs e is (rest k)
    by (Some x) is k rest = here earlier r rs e (is ∙ k)

pub first_fault : (rows : List Row) (e : TableFault) → rows_fault [] rows ≡ Some e → IsFirstFault rows e
first_fault rows e h =
    let found = first_behind [] rows e h in
    let good = accepted_from_none [] found.before found.none in
    record {
      before = found.before;
      bad = found.bad;
      behind = found.behind;
      split = found.split;
      good = good.0;
      once = good.1;
      fault = found.fault;
    }

-- ---- rows that a host needs

-- one of these rows has this fault, and those before it are as they have to be
record IsFirstOf (hs : List HostRow) (rows : List (Option FieldSpec)) (e : HostTableFault) : Type 0 where
  before : List HostRow
  bad : HostRow
  behind : List HostRow
  split : hs ≡ before ++ bad ∷ behind
  good : AreHostRows before rows
  fault : host_row_fault bad (row_at rows bad.number) ≡ Some e

first_of : (hs : List HostRow) (rows : List (Option FieldSpec)) (e : HostTableFault) → host_rows_fault hs rows ≡ Some e → IsFirstOf hs rows e
first_of [] rows e h = absurd cc
first_of (q ∷ qs) rows e h = by (host_row_fault q (row_at rows q.number)) refl h (λ k. first_of qs rows e k)
  where
    by : (o : Option HostTableFault) → host_row_fault q (row_at rows q.number) ≡ o → option_or o (host_rows_fault qs rows) ≡ Some e
        → (host_rows_fault qs rows ≡ Some e → IsFirstOf qs rows e) → IsFirstOf (q ∷ qs) rows e
    by None is k behind =
        let rest = behind k in
        record {
          before = q ∷ rest.before;
          bad = rest.bad;
          behind = rest.behind;
          split = ap (λ (hs : List HostRow). q ∷ hs) rest.split;
          good = (row_good q (row_at rows q.number) is, rest.good);
          fault = rest.fault;
        }
    by (Some x) is k behind = record { before = []; bad = q; behind = qs; split = refl; good = tt; fault = is ∙ k }

pub first_host_fault : (rows : List (Option FieldSpec)) (e : HostTableFault) → host_rows_fault host_rows rows ≡ Some e → IsFirstHostFault rows e
first_host_fault rows e h =
    let found = first_of host_rows rows e h in
    record {
      before = found.before;
      bad = found.bad;
      behind = found.behind;
      split = found.split;
      good = found.good;
      fault = found.fault;
    }
