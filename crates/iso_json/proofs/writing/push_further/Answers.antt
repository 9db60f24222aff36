use Rattle.std.proofs.lemmas.Result.{err_from_is_err_and}
use Rattle.iso_json.proofs.Pieces.{kept_behind_one}
use Rattle.iso_json.proofs.writing.push_further.Goals as goal

pub returns-in_err-push_member-clause-kept : goal.returns-in_err-push_member-clause-kept
returns-in_err-push_member-clause-kept c =
    let p = err_from_is_err_and c.from_residual-in_err-push_member.result c.from_residual-in_err-push_member.ensures.1 in
    rw p.1 (kept_behind_one c.args.out.now.items c.loop-n.out.items c.extend_from_slice.new.self.items c.push_member.new.out.items _ c.loop-n.invariant.kept c.in_ok-extend_from_slice.ensures.items c.in_err-push_member.ensures.kept)
