use Rattle.std.proofs.Common.{List, ℕ, inl, inr, subst}
use Rattle.std.proofs.lemmas.Result.{err_from_is_err_and}
use Rattle.std.specs.Io.KnownBytes.{Appends}
use Rattle.iso_table.specs.Layout.{Layout}
use Rattle.iso_cli.specs.Tables.{IsNamed}
use Rattle.iso_wire.specs.Spelling.{Converts}
use Rattle.iso_cli.proofs.RefusedLemmas.{handed_ok, handed_turns, handed_words, write_stops, write_turns, write_words}
use Rattle.iso_cli.proofs.StreamingLemmas.{known_all, where_ok}
use Rattle.iso_cli.proofs.convert.convert.Goals as goal

pub returns-clause-packed : goal.returns-clause-packed
returns-clause-packed g c =
    let file = g.S.Source.file c.args.source.now in
    let from : Layout = c.in_ok-from.from in
    let to : Layout = c.in_ok-to.to in
    let bytes : List ℕ = c.in_ok-bytes.bytes.items in
    let packed : List ℕ = c.in_ok-packed.packed.items in
    let old = g.O.Outlet.contents c.args.output.now in
    let new = g.O.Outlet.contents c.write_output.new.output in
    let converts : Converts from to bytes packed = subst (λ (l : List ℕ). Converts from to l packed) c.deref.ensures.value c.in_ok-packed.ensures.packed in
    where_ok c.write_output.result (Appends old new c.deref-2.result.now) _
    (λ written. known_all (g.I.Inlet.remaining c.args.input.now) bytes
    (λ all. (f : Layout) × (t : Layout) × (b : List ℕ) × IsNamed file c.args.from.now f × IsNamed file c.args.to.now t × Converts f t all b × Appends old new b)
    c.in_ok-bytes.ensures.bytes
    (from, to, packed, c.in_ok-from.ensures.ok, c.in_ok-to.ensures.ok, converts, subst (λ (l : List ℕ). Appends old new l) c.deref-2.ensures.value written))
    c.write_output.ensures.written

pub returns-in_err-from-clause-stop : goal.returns-in_err-from-clause-stop
returns-in_err-from-clause-stop g c =
    let p = err_from_is_err_and c.from_residual.result c.from_residual.ensures.1 in
    rw (p.1, p.2) (λ one. inl (c.in_err-from.ensures.stop one))

pub returns-in_err-to-clause-stop : goal.returns-in_err-to-clause-stop
returns-in_err-to-clause-stop g c =
    let p = err_from_is_err_and c.from_residual-in_err-to.result c.from_residual-in_err-to.ensures.1 in
    rw (p.1, p.2) (λ one. inr (c.in_ok-from.from, c.in_ok-from.ensures.ok, inl (c.in_err-to.ensures.stop one)))

pub returns-in_err-bytes-clause-stop : goal.returns-in_err-bytes-clause-stop
returns-in_err-bytes-clause-stop g c =
    let p = err_from_is_err_and c.from_residual-in_err-bytes.result c.from_residual-in_err-bytes.ensures.1 in
    rw (p.1, p.2) (λ one. inr (c.in_ok-from.from, c.in_ok-from.ensures.ok, inr (c.in_ok-to.to, c.in_ok-to.ensures.ok, inl (c.in_err-bytes.ensures.stop one))))

pub returns-clause-stop : goal.returns-clause-stop
returns-clause-stop g c = write_stops c.write_output.result _ c.write_output.ensures.stop

pub returns-in_err-from-clause-words : goal.returns-in_err-from-clause-words
returns-in_err-from-clause-words g c = handed_words _ _ (err_from_is_err_and c.from_residual.result c.from_residual.ensures.1) c.in_err-from.ensures.words

pub returns-in_err-from-clause-turns : goal.returns-in_err-from-clause-turns
returns-in_err-from-clause-turns g c = handed_turns _ _ (err_from_is_err_and c.from_residual.result c.from_residual.ensures.1) c.in_err-from.ensures.turns

pub returns-in_err-from-clause-packed : goal.returns-in_err-from-clause-packed
returns-in_err-from-clause-packed g c = handed_ok _ _ (err_from_is_err_and c.from_residual.result c.from_residual.ensures.1) _

pub returns-in_err-to-clause-words : goal.returns-in_err-to-clause-words
returns-in_err-to-clause-words g c = handed_words _ _ (err_from_is_err_and c.from_residual-in_err-to.result c.from_residual-in_err-to.ensures.1) c.in_err-to.ensures.words

pub returns-in_err-to-clause-turns : goal.returns-in_err-to-clause-turns
returns-in_err-to-clause-turns g c = handed_turns _ _ (err_from_is_err_and c.from_residual-in_err-to.result c.from_residual-in_err-to.ensures.1) c.in_err-to.ensures.turns

pub returns-in_err-to-clause-packed : goal.returns-in_err-to-clause-packed
returns-in_err-to-clause-packed g c = handed_ok _ _ (err_from_is_err_and c.from_residual-in_err-to.result c.from_residual-in_err-to.ensures.1) _

pub returns-in_err-bytes-clause-words : goal.returns-in_err-bytes-clause-words
returns-in_err-bytes-clause-words g c = handed_words _ _ (err_from_is_err_and c.from_residual-in_err-bytes.result c.from_residual-in_err-bytes.ensures.1) c.in_err-bytes.ensures.words

pub returns-in_err-bytes-clause-turns : goal.returns-in_err-bytes-clause-turns
returns-in_err-bytes-clause-turns g c = handed_turns _ _ (err_from_is_err_and c.from_residual-in_err-bytes.result c.from_residual-in_err-bytes.ensures.1) c.in_err-bytes.ensures.turns

pub returns-in_err-bytes-clause-packed : goal.returns-in_err-bytes-clause-packed
returns-in_err-bytes-clause-packed g c = handed_ok _ _ (err_from_is_err_and c.from_residual-in_err-bytes.result c.from_residual-in_err-bytes.ensures.1) _

pub returns-in_err-packed-clause-words : goal.returns-in_err-packed-clause-words
returns-in_err-packed-clause-words g c = handed_words _ _ (err_from_is_err_and c.from_residual-in_err-packed.result c.from_residual-in_err-packed.ensures.1) c.in_err-packed.ensures.words

pub returns-in_err-packed-clause-turns : goal.returns-in_err-packed-clause-turns
returns-in_err-packed-clause-turns g c = handed_turns _ _ (err_from_is_err_and c.from_residual-in_err-packed.result c.from_residual-in_err-packed.ensures.1) c.in_err-packed.ensures.turns

pub returns-in_err-packed-clause-packed : goal.returns-in_err-packed-clause-packed
returns-in_err-packed-clause-packed g c = handed_ok _ _ (err_from_is_err_and c.from_residual-in_err-packed.result c.from_residual-in_err-packed.ensures.1) _

pub returns-clause-words : goal.returns-clause-words
returns-clause-words g c = write_words c.write_output.result c.write_output.ensures.stop

pub returns-clause-turns : goal.returns-clause-turns
returns-clause-turns g c = write_turns c.write_output.result c.write_output.ensures.stop
