-- What the fields tell is in the draft.
use Rattle.std.proofs.Common.{◌∙◌, ap, length, option_map, subst, sym}
use Rattle.serde_json.specs.View.{members_view, view}
use Rattle.iso_import.specs.Found.{draft_of, found}
use Rattle.iso_import.specs.Told.{AreLeft, IsToldBy}
use Rattle.iso_import.proofs.moov.specification_in.Goals as goal

pub returns-in-Some-clause-told : goal.returns-in-Some-clause-told
returns-in-Some-clause-told c =
    let fields = members_view c.in-Some.fields.now.entries in
    let draft = sym c.into_imported.ensures.draft in
    let taken = c.in_ok-taken_from-in-Some.field-0 in
    record {
      value = view c.in_ok-value.value;
      fields = fields;
      reads = c.in_ok-value.ensures.value;
      found = sym c.fields_of.ensures ∙ ap (option_map (λ fs. members_view fs.now.entries)) c.in-Some.is;
      told = subst (IsToldBy fields) draft (c.in_ok-taken_from-in-Some.ensures.told.told c.args.version);
      left = subst (λ d. AreLeft fields d (length c.into_imported.result.left.items)) draft
          (subst (λ ss. AreLeft fields (draft_of c.args.version (found taken)) (length ss)) (sym c.into_imported.ensures.left) (c.in_ok-taken_from-in-Some.ensures.told.others c.args.version));
    }
