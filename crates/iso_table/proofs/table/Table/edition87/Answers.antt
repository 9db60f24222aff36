use Rattle.std.proofs.Common.{refl}
use Rattle.iso_table.proofs.EditionLemmas.{at_elements87, edition_made}
use Rattle.iso_table.proofs.table.Table.edition87.Goals as goal

pub known_in-known-requires : goal.known_in-known-requires
known_in-known-requires c = at_elements87 c.places87-places.result c.args.digits c.places87-places.ensures.rows

pub invariant_of-result : goal.invariant_of-result
invariant_of-result c = (rw c.in_ok-from_array.ensures.items c.known_in-known.ensures, tt)

pub invariant_of-result-2 : goal.invariant_of-result-2
invariant_of-result-2 c =
    let items = c.in_ok-from_array.ensures.items in
    let made = c.places87-places.ensures in
    edition_made _ c.args.digits refl (rw items made.size) (λ n. rw items (made.rows n))
