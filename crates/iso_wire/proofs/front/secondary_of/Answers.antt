-- A secondary bitmap without a third one is its word, if all its numbers have rows.
use Rattle.std.proofs.Common.{◌≡◌, rules}
use Rattle.iso_wire.specs.Reading.{secondary_at}
use Rattle.iso_wire.proofs.front.secondary_of.Goals as goal

pub returns-clause-exact : goal.returns-clause-exact
returns-clause-exact c =
    let known : c.known_word.result ≡ secondary_at c.args.table.now c.args.at c.args.bytes.now = search rules in
    known
