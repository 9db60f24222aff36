use Rattle.std.proofs.Common.{rules, ◌≡◌, refl, length}
use Rattle.std.specs.Prelude.{Some, slice_get}
use Rattle.std.proofs.lemmas.Option.{slice_get_read}
use Rattle.iso_issuer.proofs.Guessed.{guessed-at}
use Rattle.iso_issuer.proofs.balances.right_guess.Goals as goal

pub returns-then-eq : goal.returns-then-eq
returns-then-eq c =
    let rows = c.args.rows.now in
    let place = c.in_ok-place.place in
    let row = c.in_ok-row.row.now in
    let read = c.in_ok-row.ensures.lookup in
    let there : slice_get rows place ≡ Some row = slice_get_read rows (length rows) place row refl read.3.0 read.1 in
    let same : row.account.pan ≡ c.args.pan = search rules in
    guessed-at rows place row c.args.pan c.requires there same
