use Rattle.std.proofs.Common.{arith, Some, None}
use Rattle.std.proofs.lemmas.Bool.Decides.{Decides-eqb}
use Rattle.std.proofs.lemmas.List.{append_cancel_left}
use Rattle.std.proofs.lemmas.Slice.Eq.{slice_eq-Decides, strip_prefix_is}
use Rattle.iso_site.proofs.asked.is_at.Goals as goal

pub returns-in-Some : goal.returns-in-Some
returns-in-Some c =
    let front = strip_prefix_is Decides-eqb c.args.address.now c.args.name.now (Some c.in-Some.rest) c.in-Some.ensures.cases in
    let rest = slice_eq-Decides Decides-eqb c.in-Some.rest.now c.args.port.now c.eq.result c.eq.ensures in
    let cancel = append_cancel_left c.args.name.now c.in-Some.rest.now c.args.port.now in
    grind (arith, front, rest, cancel)

pub returns-in-None : goal.returns-in-None
returns-in-None c =
    let none = strip_prefix_is Decides-eqb c.args.address.now c.args.name.now None c.in-None.ensures.cases in
    grind (arith, none)
