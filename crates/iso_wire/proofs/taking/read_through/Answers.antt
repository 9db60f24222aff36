use Rattle.std.proofs.Common.{◌≡◌, ℕ, ◌-◌, List, ◌++◌, length, subst, sym, ap, ◌∙◌, rules}
use Rattle.std.specs.Prelude.{is_ok}
use Rattle.iso_table.specs.Sizes.{max_bytes}
use Rattle.iso_wire.specs.Reading.{message_at, Unpacks}
use Rattle.iso_wire.specs.Spelling.{AreBytes}
use Rattle.iso_wire.specs.Taking.{IsPieceOrFront}
use Rattle.iso_wire.specs.Unpacking.{read_into}
use Rattle.iso_wire.proofs.Fronts.{front_tells, grown}
use Rattle.iso_wire.proofs.taking.read_through.Goals as goal

pub returns-clause-exact : goal.returns-clause-exact
returns-clause-exact c =
    let t = c.args.table.now in
    let old : List ℕ = c.args.taken.now.items in
    let piece : List ℕ = c.args.piece.now in
    let front : List ℕ = c.front_of-front.result.now in
    let before : c.len-already.result ≡ length old = search rules in
    let more : c.extend_from_slice.new.self.items ≡ old ++ front = grown (is_ok c.extend_from_slice.result) old front c.extend_from_slice.new.self.items c.extend_from_slice.ensures.items c.if-is_err.ensures.negation in
    let all : c.deref-2.result.now ≡ old ++ front = c.deref-2.ensures.value ∙ more in
    let bytes : AreBytes (old ++ front) = subst AreBytes (c.deref.ensures.value ∙ more) c.are_bytes.ensures in
    let first : IsPieceOrFront (max_bytes t - length old) piece front = subst (λ (n : ℕ). IsPieceOrFront (max_bytes t - n) piece front) before c.front_of-front.ensures in
    let tells = front_tells t old piece front c.parts.ensures c.reads_spellings.ensures.stays c.version-version.ensures.good bytes c.requires.small first in
    subst (Unpacks (read_into c.read_on-read.new.into c.read_on-read.result)) (ap (message_at t) all ∙ sym tells) c.read_on-read.ensures.exact
