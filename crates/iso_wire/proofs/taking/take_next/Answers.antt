use Rattle.std.proofs.Common.{◌≡◌, ℕ, List, ◌++◌, refl, subst, sym, ap, ◌∙◌, rules}
use Rattle.iso_wire.specs.declared.fault.UnpackCause.TheVariants.{Short}
use Rattle.iso_wire.specs.ReadingLaws.{IsShort}
use Rattle.iso_wire.specs.Reading.{message_at}
use Rattle.iso_wire.specs.Judging.{end_of, Resumes, IsResumed}
use Rattle.iso_wire.proofs.Feeds.{is_read}
use Rattle.iso_wire.proofs.Resumes.{resumed_read, resumed_more, resumed_fault, fault_no_memory}
use Rattle.iso_wire.proofs.taking.take_next.Goals as goal

pub returns-then-eq-clause-exact : goal.returns-then-eq-clause-exact
returns-then-eq-clause-exact c =
    let t = c.args.table.now in
    let old : List ℕ = c.args.taken.now.items in
    let piece = c.args.piece.now in
    let all : c.deref.result.now ≡ old ++ piece = c.deref.ensures.value ∙ c.in_ok-extend_from_slice.ensures.items in
    let reached = c.judge_from-reached.result.0 in
    let read = c.judge_from-reached.result.1 in
    let resumes = subst (λ (l : List ℕ). Resumes t c.args.point.now l reached read) all c.judge_from-reached.ensures in
    let fault = resumed_fault t (old ++ piece) c.in-Err.fault (resumed_read t c.args.point.now reached old piece read c.requires.resumed resumes ∙ c.in-Err.is) in
    let short : c.in-Err.fault.cause ≡ Short = search rules in
    subst IsShort (sym fault) short

pub returns-in-Err-clause-exact : goal.returns-in-Err-clause-exact
returns-in-Err-clause-exact c =
    let t = c.args.table.now in
    let old : List ℕ = c.args.taken.now.items in
    let piece = c.args.piece.now in
    let all : c.deref.result.now ≡ old ++ piece = c.deref.ensures.value ∙ c.in_ok-extend_from_slice.ensures.items in
    let reached = c.judge_from-reached.result.0 in
    let read = c.judge_from-reached.result.1 in
    let resumes = subst (λ (l : List ℕ). Resumes t c.args.point.now l reached read) all c.judge_from-reached.ensures in
    let fault = resumed_fault t (old ++ piece) c.in-Err.fault (resumed_read t c.args.point.now reached old piece read c.requires.resumed resumes ∙ c.in-Err.is) in
    let other : c.in-Err.fault.cause ≡ Short → ⊥ = search rules in
    ((λ memory. absurd (fault_no_memory t (old ++ piece) c.in-Err.fault fault memory), λ _. fault), other)

pub returns-in-Err-clause-kept : goal.returns-in-Err-clause-kept
returns-in-Err-clause-kept c =
    let t = c.args.table.now in
    let old : List ℕ = c.args.taken.now.items in
    let piece = c.args.piece.now in
    let all : c.deref.result.now ≡ old ++ piece = c.deref.ensures.value ∙ c.in_ok-extend_from_slice.ensures.items in
    let reached = c.judge_from-reached.result.0 in
    let read = c.judge_from-reached.result.1 in
    let resumes = subst (λ (l : List ℕ). Resumes t c.args.point.now l reached read) all c.judge_from-reached.ensures in
    let fault = resumed_fault t (old ++ piece) c.in-Err.fault (resumed_read t c.args.point.now reached old piece read c.requires.resumed resumes ∙ c.in-Err.is) in
    (λ memory. absurd (fault_no_memory t (old ++ piece) c.in-Err.fault fault memory), λ _. c.clear.ensures.items)

pub build_taken-requires-clause-read : goal.build_taken-requires-clause-read
build_taken-requires-clause-read c =
    let t = c.args.table.now in
    let old : List ℕ = c.args.taken.now.items in
    let piece : List ℕ = c.args.piece.now in
    let more : c.extend_from_slice.new.self.items ≡ old ++ piece = c.in_ok-extend_from_slice.ensures.items in
    let reached = c.judge_from-reached.result.0 in
    let answer = c.judge_from-reached.result.1 in
    let resumes = subst (λ (l : List ℕ). Resumes t c.args.point.now l reached answer) (c.deref.ensures.value ∙ more) c.judge_from-reached.ensures in
    let read = resumed_read t c.args.point.now reached old piece answer c.requires.resumed resumes in
    is_read (message_at t c.extend_from_slice.new.self.items) c.in_default.field-0 (ap (λ (l : List ℕ). end_of (message_at t l)) more ∙ read ∙ c.in_default.is)

pub returns-then-eq-clause-kept : goal.returns-then-eq-clause-kept
returns-then-eq-clause-kept c = c.in_ok-extend_from_slice.ensures.items

pub returns-in-Err-clause-resumed : goal.returns-in-Err-clause-resumed
returns-in-Err-clause-resumed c = (tt, λ x. refl)

pub returns-then-eq-clause-resumed : goal.returns-then-eq-clause-resumed
returns-then-eq-clause-resumed c =
    let t = c.args.table.now in
    let old : List ℕ = c.args.taken.now.items in
    let piece : List ℕ = c.args.piece.now in
    let more : c.extend_from_slice.new.self.items ≡ old ++ piece = c.in_ok-extend_from_slice.ensures.items in
    let reached = c.judge_from-reached.result.0 in
    let read = c.judge_from-reached.result.1 in
    let resumes = subst (λ (l : List ℕ). Resumes t c.args.point.now l reached read) (c.deref.ensures.value ∙ more) c.judge_from-reached.ensures in
    subst (λ (l : List ℕ). IsResumed t reached l) (sym more) (resumed_more t c.args.point.now reached old piece read c.requires.resumed resumes)
