use Rattle.std.proofs.Common.{◌≡◌, ◌≤◌, List, Option, Some, sym, ap, subst, ◌∙◌}
use Rattle.serde_json.specs.Data.{Data, depth}
use Rattle.serde_json.specs.View.{view}
use Rattle.serde_json.specs.Written.{has_float, compact_text}
use Rattle.iso_parts.specs.declared.spec.FieldSpec.{FieldSpec}
use Rattle.iso_table.specs.Layout.{IsAccepted}
use Rattle.iso_table.specs.Document.{document}
use Rattle.iso_table.proofs.RoundTrip.{found_again, document_depth, document_float}
use Rattle.iso_table.proofs.table.Table.to_json.Goals as goal

pub returns-clause-text : goal.returns-clause-text
returns-clause-text c =
    let t = c.args.self.now in
    let same : view c.in_ok-value.value ≡ document t = c.in_ok-value.ensures ∙ ap (λ (rows : List (Option FieldSpec)). document (record { version = c.self.inside.version; mti = c.self.inside.mti; bitmap = c.self.inside.bitmap; rows = rows })) c.deref.ensures.value ∙ ap document c.self.view_is in
    c.in_ok-to_vec.ensures.text (ap has_float same ∙ document_float t) ∙ ap compact_text same

pub returns-clause-read_back : goal.returns-clause-read_back
returns-clause-read_back c =
    let t = c.args.self.now in
    let same : view c.in_ok-value.value ≡ document t = c.in_ok-value.ensures ∙ ap (λ (rows : List (Option FieldSpec)). document (record { version = c.self.inside.version; mti = c.self.inside.mti; bitmap = c.self.inside.bitmap; rows = rows })) c.deref.ensures.value ∙ ap document c.self.view_is in
    let found = found_again t (subst IsAccepted c.self.view_is c.self.invariant) in
    let written = c.in_ok-to_vec.ensures in
    let shallow = subst (λ (d : Data). depth d ≤ 127) (sym same) (document_depth t) in
    (document t, found.0, (written.utf8, written.reads_back shallow ∙ ap (λ (d : Data). Some d) same), found.1, found.2)
