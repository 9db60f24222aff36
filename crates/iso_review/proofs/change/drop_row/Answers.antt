use Rattle.std.proofs.Common.{◌≡◌, List, ap, rules}
use Rattle.std.specs.Prelude.{◌==◌, not, filter}
use Rattle.std.proofs.lemmas.Fn.{filter_same}
use Rattle.iso_table.specs.declared.draft.Row.{Row}
use Rattle.iso_table.specs.Accepted.{DraftContents}
use Rattle.iso_review.proofs.change.drop_row.Goals as goal

pub returns-clause-rows : goal.returns-clause-rows
returns-clause-rows c =
    let draft = c.args.draft.now in
    let kept : c.retain.new.self.items ≡ filter (λ (r : Row). not (r.number == c.args.number)) draft.rows.items = filter_same _ (λ (r : Row). not (r.number == c.args.number)) _ (λ x b f' k. search rules) _ _ c.retain.ensures.filtered in
    let whole : List Row → DraftContents = λ rows. record { version = draft.version; mti = draft.mti; bitmap = draft.bitmap; rows = rows } in
    ap whole kept
