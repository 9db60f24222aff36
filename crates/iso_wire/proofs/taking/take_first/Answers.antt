use Rattle.std.proofs.Common.{◌≡◌, ℕ, List, [], ◌++◌, subst, sym, ap, ◌∙◌, rules}
use Rattle.iso_wire.specs.declared.fault.UnpackCause.TheVariants.{Short}
use Rattle.iso_wire.specs.declared.judging.ResumePoint.TheVariants as points
use Rattle.iso_wire.specs.Reading.{message_at}
use Rattle.iso_wire.specs.ReadingLaws.{IsShort}
use Rattle.iso_wire.specs.Judging.{IsResumed}
use Rattle.iso_wire.proofs.Feeds.{start_short, is_read}
use Rattle.iso_wire.proofs.Resumes.{at_start, resumed_more, resumed_read, resumed_fault, fault_no_memory}
use Rattle.iso_wire.proofs.taking.take_first.Goals as goal

pub returns-then-ne-clause-exact : goal.returns-then-ne-clause-exact
returns-then-ne-clause-exact c =
    let t = c.args.table.now in
    let piece : List ℕ = c.args.piece.now in
    let all : c.args.taken.now.items ++ piece ≡ piece = ap (λ (l : List ℕ). l ++ piece) c.requires.empty in
    let read = resumed_read t points.Type c.judge_from-reached.result.0 [] piece c.judge_from-reached.result.1 (at_start t []) c.judge_from-reached.ensures in
    let fault = ap (message_at t) all ∙ resumed_fault t piece c.in-Err.fault (read ∙ c.in-Err.is) in
    let other : c.in-Err.fault.cause ≡ Short → ⊥ = search rules in
    ((λ memory. absurd (fault_no_memory t (c.args.taken.now.items ++ piece) c.in-Err.fault fault memory), λ _. fault), other)

pub returns-in-Err-clause-exact : goal.returns-in-Err-clause-exact
returns-in-Err-clause-exact c =
    let t = c.args.table.now in
    let piece : List ℕ = c.args.piece.now in
    let all : c.args.taken.now.items ++ piece ≡ piece = ap (λ (l : List ℕ). l ++ piece) c.requires.empty in
    let read = resumed_read t points.Type c.judge_from-reached.result.0 [] piece c.judge_from-reached.result.1 (at_start t []) c.judge_from-reached.ensures in
    let fault = ap (message_at t) all ∙ resumed_fault t piece c.in-Err.fault (read ∙ c.in-Err.is) in
    let short : c.in-Err.fault.cause ≡ Short = search rules in
    subst IsShort (sym fault) short

pub build-requires-clause-short : goal.build-requires-clause-short
build-requires-clause-short c = start_short c.args.table.now

pub build-requires-clause-read : goal.build-requires-clause-read
build-requires-clause-read c =
    let t = c.args.table.now in
    let piece : List ℕ = c.args.piece.now in
    let read = resumed_read t points.Type c.judge_from-reached.result.0 [] piece c.judge_from-reached.result.1 (at_start t []) c.judge_from-reached.ensures in
    is_read (message_at t piece) c.in_default.field-0 (read ∙ c.in_default.is)

pub returns-in-Err-clause-resumed : goal.returns-in-Err-clause-resumed
returns-in-Err-clause-resumed c =
    let t = c.args.table.now in
    let piece : List ℕ = c.args.piece.now in
    let put : c.extend_from_slice.new.self.items ≡ c.args.taken.now.items ++ piece = rw c.if-is_err.ensures.negation at c.extend_from_slice.ensures.items in
    let more = put ∙ ap (λ (l : List ℕ). l ++ piece) c.requires.empty in
    let reached = c.judge_from-reached.result.0 in
    subst (λ (l : List ℕ). IsResumed t reached l) (sym more) (resumed_more t points.Type reached [] piece c.judge_from-reached.result.1 (at_start t []) c.judge_from-reached.ensures)
