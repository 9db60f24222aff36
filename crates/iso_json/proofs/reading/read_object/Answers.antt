use Rattle.std.proofs.Common.{Option, ◌++◌, ap, ◌∙◌}
use Rattle.std.specs.Prelude.{option_map}
use Rattle.json.specs.Find.{get}
use Rattle.json.specs.Value.{members_view, value_view}
use Rattle.iso_wire.specs.Contents.{Contents}
use Rattle.iso_json.specs.declared.complaint.Place.TheVariants as places
use Rattle.iso_json.specs.declared.complaint.Trouble.{Trouble}
use Rattle.iso_json.specs.Said.{elements_key, mti_key}
use Rattle.iso_json.specs.Heard.{complained, type_number}
use Rattle.iso_json.proofs.Readings.{object_complaints, object_message}
use Rattle.iso_json.proofs.reading.read_object.Goals as goal

pub returns-clause-message : goal.returns-clause-message
returns-clause-message c =
    object_message c.args.table.now (members_view c.args.members.now) (option_map (λ v. value_view v.now) c.get.result) (option_map (λ v. value_view v.now) c.get-2.result) (type_number c.type_of-read.result)
    c.args.complaints.now.items c.check_names.new.complaints.items c.complain_if.new.complaints.items c.read_elements.new.complaints.items c.new-message.result c.read_elements.new.message
    (record {
      mti_found = c.get.ensures ∙ ap (get mti_key) c.requires.same;
      elements_found = c.get-2.ensures ∙ ap (get elements_key) c.requires.same;
      type_read = c.type_of-read.ensures;
      none = c.requires.none;
      names = c.in_ok-check_names.ensures;
      type_told = c.in_ok-complain_if.ensures ∙ ap (λ (o : Option Trouble). c.check_names.new.complaints.items ++ complained places.Whole o) c.trouble_in.ensures;
      type_kept = ap (λ (m : Contents). m.mti) c.new-message.ensures ∙ c.or_no_type.ensures;
      empty = ap (λ (m : Contents). m.elements) c.new-message.ensures;
      same_type = c.in_ok-read_elements.ensures.mti;
      heard = c.in_ok-read_elements.ensures.heard;
    })

pub returns-clause-complaints : goal.returns-clause-complaints
returns-clause-complaints c =
    object_complaints c.args.table.now (members_view c.args.members.now) (option_map (λ v. value_view v.now) c.get.result) (option_map (λ v. value_view v.now) c.get-2.result) (type_number c.type_of-read.result)
    c.args.complaints.now.items c.check_names.new.complaints.items c.complain_if.new.complaints.items c.read_elements.new.complaints.items c.new-message.result c.read_elements.new.message
    (record {
      mti_found = c.get.ensures ∙ ap (get mti_key) c.requires.same;
      elements_found = c.get-2.ensures ∙ ap (get elements_key) c.requires.same;
      type_read = c.type_of-read.ensures;
      none = c.requires.none;
      names = c.in_ok-check_names.ensures;
      type_told = c.in_ok-complain_if.ensures ∙ ap (λ (o : Option Trouble). c.check_names.new.complaints.items ++ complained places.Whole o) c.trouble_in.ensures;
      type_kept = ap (λ (m : Contents). m.mti) c.new-message.ensures ∙ c.or_no_type.ensures;
      empty = ap (λ (m : Contents). m.elements) c.new-message.ensures;
      same_type = c.in_ok-read_elements.ensures.mti;
      heard = c.in_ok-read_elements.ensures.heard;
    })
