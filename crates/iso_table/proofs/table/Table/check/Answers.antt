use Rattle.std.proofs.Common.{rules, ◌≡◌, [], true, refl, sym, ap, subst, ◌∙◌, List, arith}
use Rattle.std.proofs.lemmas.Result.{err_from_is_err_and}
use Rattle.iso_table.specs.declared.draft.Row.{Row}
use Rattle.iso_table.specs.Layout.{is_version}
use Rattle.iso_table.specs.declared.fault.TableFault.{TableFault}
use Rattle.iso_table.specs.Accepted.{IsFirstFault, contents, row_of, rows_fault}
use Rattle.iso_table.proofs.FirstFaults.{first_fault}
use Rattle.iso_table.proofs.RowLemmas.{at_elements, table_made, accepted, refused}
use Rattle.iso_table.proofs.table.Table.check.Goals as goal

pub returns-in_err-places-clause-refused : goal.returns-in_err-places-clause-refused
returns-in_err-places-clause-refused c =
    let p = err_from_is_err_and c.from_residual.result c.from_residual.ensures.1 in
    let same : c.as_slice.result.now ≡ c.args.draft.rows.items = c.as_slice.ensures.value in
    rw p.1 (λ _. refused (contents c.args.draft) _ (ap (rows_fault []) (sym same) ∙ c.in_err-places.ensures.fault))

pub known_in-known-requires : goal.known_in-known-requires
known_in-known-requires c = let fine = c.in_ok-places.ensures in at_elements c.in_ok-places.places c.as_slice.result.now fine.rows fine.good

pub invariant_of-result : goal.invariant_of-result
invariant_of-result c = (rw c.in_ok-from_array.ensures.items c.known_in-known.ensures, tt)

pub invariant_of-result-2 : goal.invariant_of-result-2
invariant_of-result-2 c =
    let items = c.in_ok-from_array.ensures.items in
    let fine = c.in_ok-places.ensures in
    let version : is_version c.args.draft.version ≡ true = grind arith in
    table_made _ c.as_slice.result.now version (rw items fine.size) (λ n. rw items (fine.rows n)) fine.good

pub returns-clause-ok : goal.returns-clause-ok
returns-clause-ok c =
    let items = c.in_ok-from_array.ensures.items in
    let fine = c.in_ok-places.ensures in
    let same : c.as_slice.result.now ≡ c.args.draft.rows.items = c.as_slice.ensures.value in
    let version : is_version c.args.draft.version ≡ true = grind arith in (
      accepted (contents c.args.draft) version (ap (rows_fault []) (sym same) ∙ fine.good),
      record { version = refl; mti = refl; bitmap = refl; rows = λ n. rw items (fine.rows n ∙ ap (λ (rs : List Row). row_of rs n) same) },
    )

pub returns-clause-accepted : goal.returns-clause-accepted
returns-clause-accepted c =
    let items = c.in_ok-from_array.ensures.items in
    let fine = c.in_ok-places.ensures in
    let version : is_version c.args.draft.version ≡ true = grind arith in
    table_made _ c.as_slice.result.now version (rw items fine.size) (λ n. rw items (fine.rows n)) fine.good

pub returns-then-not-is_version-clause-refused : goal.returns-then-not-is_version-clause-refused
returns-then-not-is_version-clause-refused c = let other = c.if-not-is_version.true in search rules

pub returns-then-not-is_version-clause-fault : goal.returns-then-not-is_version-clause-fault
returns-then-not-is_version-clause-fault c = let other = c.if-not-is_version.true in search rules

pub returns-in_err-places-clause-first : goal.returns-in_err-places-clause-first
returns-in_err-places-clause-first c =
    let p = err_from_is_err_and c.from_residual.result c.from_residual.ensures.1 in
    let same : c.as_slice.result.now ≡ c.args.draft.rows.items = c.as_slice.ensures.value in
    let first = first_fault (contents c.args.draft).rows c.in_err-places.field-0.0 (ap (rows_fault []) (sym same) ∙ c.in_err-places.ensures.fault) in
    rw p.1 (λ _ _. subst (λ (e : TableFault). IsFirstFault (contents c.args.draft).rows e) (sym p.2) first)

pub returns-then-not-is_version-clause-first : goal.returns-then-not-is_version-clause-first
returns-then-not-is_version-clause-first c = λ _ version. absurd (let other = c.if-not-is_version.true in search rules)
