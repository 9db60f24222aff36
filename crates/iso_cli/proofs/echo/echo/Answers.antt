use Rattle.std.proofs.Common.{◌≡◌, List, ℕ, Some, inl, inr, subst, ap, arith}
use Rattle.std.proofs.lemmas.Result.{err_from_is_err_and}
use Rattle.std.specs.Io.KnownBytes.{Appends}
use Rattle.iso_parts.specs.declared.digits.Digits.TheVariants.{Ascii}
use Rattle.iso_table.specs.Layout.{Layout}
use Rattle.iso_table.specs.Edition87.{IsEdition87}
use Rattle.iso_wire.specs.Reading.{message_at}
use Rattle.iso_cli.specs.Echo.{Echoes}
use Rattle.iso_cli.specs.Refused.{echo_stop}
use Rattle.iso_cli.specs.Stop.{status_of}
use Rattle.iso_cli.specs.declared.stop.Stop.{Stop}
use Rattle.iso_cli.proofs.RefusedLemmas.{write_stops}
use Rattle.iso_cli.proofs.StreamingLemmas.{known_all, where_ok}
use Rattle.iso_cli.proofs.echo.echo.Goals as goal

pub returns-clause-text : goal.returns-clause-text
returns-clause-text g c =
    let table : Layout = c.in_ok-table.table in
    let bytes : List ℕ = c.in_ok-bytes.bytes.items in
    let text : List ℕ = c.in_ok-text.text.items in
    let old = g.O.Outlet.contents c.args.output.now in
    let new = g.O.Outlet.contents c.write_output.new.output in
    let echoes : Echoes table bytes text = subst (λ (l : List ℕ). Echoes table l text) c.deref.ensures.value c.in_ok-text.ensures.text in
    where_ok c.write_output.result (Appends old new c.deref-2.result.now) _
    (λ written. known_all (g.I.Inlet.remaining c.args.input.now) bytes
    (λ all. (t : Layout) × (b : List ℕ) × IsEdition87 Ascii t × Echoes t all b × Appends old new b)
    c.in_ok-bytes.ensures.bytes
    (table, text, c.in_ok-table.ensures, echoes, subst (λ (l : List ℕ). Appends old new l) c.deref-2.ensures.value written))
    c.write_output.ensures.written

pub returns-clause-stop : goal.returns-clause-stop
returns-clause-stop g c = write_stops c.write_output.result _ c.write_output.ensures.stop

pub returns-in_err-bytes-clause-stop : goal.returns-in_err-bytes-clause-stop
returns-in_err-bytes-clause-stop g c =
    let p = err_from_is_err_and c.from_residual.result c.from_residual.ensures.1 in
    rw (p.1, p.2) (λ one. inl (c.in_err-bytes.ensures.stop one))

pub returns-in_err-table-clause-stop : goal.returns-in_err-table-clause-stop
returns-in_err-table-clause-stop g c =
    let p = err_from_is_err_and c.from_residual-in_err-table.result c.from_residual-in_err-table.ensures.1 in
    rw (p.1) (λ one. absurd (omega (arith, one, ap status_of p.2)))

pub returns-in_err-text-clause-stop : goal.returns-in_err-text-clause-stop
returns-in_err-text-clause-stop g c =
    let p = err_from_is_err_and c.from_residual-in_err-text.result c.from_residual-in_err-text.ensures.1 in
    let table : Layout = c.in_ok-table.table in
    let stop : Stop = c.in_err-text.field-0.0 in
    rw (p.1, p.2) (λ one. inr (
      table,
      c.in_ok-table.ensures,
      known_all (g.I.Inlet.remaining c.args.input.now) c.in_ok-bytes.bytes.items
          (λ all. echo_stop table (message_at table all) ≡ Some stop)
          c.in_ok-bytes.ensures.bytes
          (subst (λ (l : List ℕ). echo_stop table (message_at table l) ≡ Some stop) c.deref.ensures.value (c.in_err-text.ensures.stop (λ memory. absurd (omega (arith, one, ap status_of memory))))),
    ))
