use Rattle.std.proofs.Common.{◌≡◌, ℕ, List, ◌++◌, subst, sym, arith}
use Rattle.std.proofs.lemmas.Result.{err_from_is_err_and}
use Rattle.iso_wire.specs.Spelling.{AreBytes}
use Rattle.iso_wire.proofs.Bytes.{bytes_append, bytes_take}
use Rattle.iso_wire.proofs.Cuts.{done_early, refused_early, front_and_rest}
use Rattle.iso_wire.proofs.taking.+take_parts.Goals as goal

pub returns-in_default-2-clause-exact : goal.returns-in_default-2-clause-exact
returns-in_default-2-clause-exact t c =
    let old : List ℕ = c.args.taken.now.items in
    let piece : List ℕ = c.args.piece.now in
    let front : List ℕ = c.in-Some.front.now in
    let rest : List ℕ = c.in-Some.rest.now in
    let cut = c.in-Some.ensures.cases in
    let parts : piece ≡ front ++ rest = front_and_rest c.max-room.result piece front rest cut.1 cut.2 in
    let old_fits : AreBytes old = subst AreBytes c.deref.ensures.value c.are_bytes.ensures in
    let front_fits : AreBytes front = subst AreBytes (sym cut.1) (bytes_take c.max-room.result piece (λ i. omega (arith, c.type_inv.piece i))) in
    done_early c.reads_spellings.ensures.stays c.args.table.now old piece front rest c.in_ok-done.done c.take_next-2.ensures.good (bytes_append old front old_fits front_fits) parts c.in_default-2.not-More c.in_ok-done.ensures.exact

pub returns-in_err-done-clause-exact : goal.returns-in_err-done-clause-exact
returns-in_err-done-clause-exact t c =
    let old : List ℕ = c.args.taken.now.items in
    let piece : List ℕ = c.args.piece.now in
    let front : List ℕ = c.in-Some.front.now in
    let rest : List ℕ = c.in-Some.rest.now in
    let cut = c.in-Some.ensures.cases in
    let parts : piece ≡ front ++ rest = front_and_rest c.max-room.result piece front rest cut.1 cut.2 in
    let old_fits : AreBytes old = subst AreBytes c.deref.ensures.value c.are_bytes.ensures in
    let front_fits : AreBytes front = subst AreBytes (sym cut.1) (bytes_take c.max-room.result piece (λ i. omega (arith, c.type_inv.piece i))) in
    let exit = err_from_is_err_and c.from_residual.result c.from_residual.ensures.1 in
    rw (exit.1, exit.2) (refused_early c.reads_spellings.ensures.stays c.args.table.now old piece front rest _ c.take_next-2.ensures.good (bytes_append old front old_fits front_fits) parts c.in_err-done.ensures.exact)
