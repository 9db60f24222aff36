use Rattle.std.proofs.lemmas.Result.{err_from_is_err_and}
use Rattle.iso_json.proofs.Pieces.{kept_behind_three}
use Rattle.iso_json.proofs.writing.push_member.Goals as goal

pub returns-in_err-push_shown-clause-kept : goal.returns-in_err-push_shown-clause-kept
returns-in_err-push_shown-clause-kept c =
    let p = err_from_is_err_and c.from_residual-in_err-push_shown.result c.from_residual-in_err-push_shown.ensures.1 in
    rw p.1 (kept_behind_three c.args.out.now.items c.extend_from_slice.new.self.items c.push_number.new.out.items c.extend_from_slice-2.new.self.items c.push_shown.new.out.items _ _ _
    c.in_ok-extend_from_slice.ensures.items c.in_ok-push_number.ensures.text c.in_ok-extend_from_slice-2.ensures.items c.in_err-push_shown.ensures.kept)
