use Rattle.std.proofs.Common.{arith, sym, ◌∙◌}
use Rattle.iso_json.proofs.NameLemmas.{names_all, names_next}
use Rattle.iso_json.proofs.reading.check_names.Goals as goal

pub loop-member-preserved : goal.loop-member-preserved
loop-member-preserved c =
    record {
      place = omega (arith, c.loop-member.invariant.place);
      names = names_next c.loop-member.has_mti c.loop-member.has_elements c.is_seen-has_mti.result c.is_seen-has_elements.result c.args.members.now c.loop-member.member-index c.loop-member.at c.member-item.result
          c.loop-member.complaints.items c.complain_if.new.complaints.items _ _ c.loop-member-test.true c.member-item.is c.loop-member.invariant.place
          c.is_seen-has_mti.ensures c.is_seen-has_elements.ensures c.name_trouble.ensures c.in_ok-complain_if.ensures c.loop-member.invariant.names;
    }

pub returns : goal.returns
returns c =
    sym (names_all c.loop-member.has_mti c.loop-member.has_elements c.args.members.now c.loop-member.member-index c.loop-member.complaints.items c.loop-member-test.false) ∙ c.loop-member.invariant.names
