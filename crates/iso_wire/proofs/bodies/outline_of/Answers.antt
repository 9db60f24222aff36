use Rattle.std.proofs.Common.{◌≡◌, ℕ, List, drop, Result, Ok, Err, sym, ap, ◌∙◌}
use Rattle.std.specs.Borrow.{Bor}
use Rattle.std.proofs.lemmas.Result.{err_from_is_err_and}
use Rattle.iso_parts.specs.Mti.{mti_number}
use Rattle.iso_parts.specs.Numbers.{members}
use Rattle.iso_table.specs.Layout.{Layout}
use Rattle.iso_wire.specs.declared.bodies.Bodies.{Bodies}
use Rattle.iso_wire.specs.declared.fault.UnpackFault.{UnpackFault}
use Rattle.iso_wire.specs.Beginning.{beginning_at}
use Rattle.iso_wire.specs.Reading.{◌>>=◌}
use Rattle.iso_wire.specs.Bodies.{BeginsThere, starts_in, view_at, wires_at, wires_in}
use Rattle.iso_wire.proofs.Orders.{Values}
use Rattle.iso_wire.proofs.Views.{as_view, view_behind}
use Rattle.iso_wire.proofs.bodies.outline_of.Goals as goal

-- the bodies were found behind the beginning, and lie there
outlined : (t : Layout) (b : Bor (List ℕ)) (bodies : Bodies) (mti : ℕ) (ns : List ℕ) (at used : ℕ)
    → beginning_at t b.now ≡ Ok (mti, ns, at) → wires_at t.rows ns at (drop at b.now) ≡ Ok (wires_in b.now bodies ns, used) → BeginsThere t.rows at b.now bodies ns
    → view_at t b ≡ Ok (record { mti = mti; used = used; wires = wires_in b.now bodies ns; starts = starts_in bodies ns; bytes = b.now; address = b.ref_ptr })
outlined t b bodies mti ns at used begins found begin =
    ap (λ (r : Result (ℕ × List ℕ × ℕ) UnpackFault). r >>= view_behind t b) begins ∙ ap (λ (r : Result (Values × ℕ) UnpackFault). r >>= as_view t b mti at) found
    ∙ ap (λ (ss : List (ℕ × ℕ)). Ok (record { mti = mti; used = used; wires = wires_in b.now bodies ns; starts = ss; bytes = b.now; address = b.ref_ptr })) (sym begin)

pub returns-clause-exact : goal.returns-clause-exact
returns-clause-exact c =
    let x = c.in_ok-begun.begun in
    outlined c.args.table.now c.args.bytes c.find_bodies.new.bodies (mti_number x.mti) (members x.numbers) x.end c.in_ok-used.used c.in_ok-begun.ensures.exact c.in_ok-used.ensures.exact c.in_ok-used.ensures.begin

pub returns-in_err-begun-clause-exact : goal.returns-in_err-begun-clause-exact
returns-in_err-begun-clause-exact c =
    let handed = err_from_is_err_and c.from_residual.result c.from_residual.ensures.1 in
    let begins : beginning_at c.args.table.now c.args.bytes.now ≡ Err c.in_err-begun.field-0.0 = c.in_err-begun.ensures.exact.1 c.in_err-begun.ensures.no_memory in
    rw (handed.1, handed.2) (ap (λ (r : Result (ℕ × List ℕ × ℕ) UnpackFault). r >>= view_behind c.args.table.now c.args.bytes) begins)

pub returns-in_err-used-clause-exact : goal.returns-in_err-used-clause-exact
returns-in_err-used-clause-exact c =
    let handed = err_from_is_err_and c.from_residual-in_err-used.result c.from_residual-in_err-used.ensures.1 in
    let t = c.args.table.now in
    let x = c.in_ok-begun.begun in
    rw (handed.1, handed.2) (ap (λ (r : Result (ℕ × List ℕ × ℕ) UnpackFault). r >>= view_behind t c.args.bytes) c.in_ok-begun.ensures.exact ∙ ap (λ (r : Result (Values × ℕ) UnpackFault). r >>= as_view t c.args.bytes (mti_number x.mti) x.end) c.in_err-used.ensures.exact)
