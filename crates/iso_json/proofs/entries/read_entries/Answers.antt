use Rattle.std.proofs.Common.{ℕ, Bool, ap, arith, rules, sym, ◌∙◌}
use Rattle.json.specs.Value.{members_view}
use Rattle.iso_parts.specs.Bitmap.{contains}
use Rattle.iso_json.specs.Heard.{heard, with_entries}
use Rattle.iso_json.proofs.EntryLemmas.{entries_all, entries_next, seen_none}
use Rattle.iso_json.proofs.entries.read_entries.Goals as goal

pub loop-member-init : goal.loop-member-init
loop-member-init c =
    let rows = c.args.table.now.rows in
    record {
      mti = search rules;
      place = search rules;
      heard = ap (λ (s : ℕ → Bool). with_entries rows s 0 (members_view c.args.members.now) (heard c.args.message.now c.args.complaints.now)) (seen_none c.new-seen.result c.new-seen.ensures);
    }

pub loop-member-preserved : goal.loop-member-preserved
loop-member-preserved c =
    let at = c.loop-member.member-index in
    record {
      mti = search rules;
      place = omega (arith, c.loop-member.invariant.place);
      heard = entries_next c.args.table.now.rows (contains c.loop-member.seen) (contains c.read_entry.new.seen) c.args.members.now at c.loop-member.at c.member-item.result
          (heard c.loop-member.message c.loop-member.complaints) (heard c.read_entry.new.message c.read_entry.new.complaints) _ c.loop-member-test.true c.member-item.is c.loop-member.invariant.place
          c.in_ok-read_entry.ensures.seen c.in_ok-read_entry.ensures.heard c.loop-member.invariant.heard;
    }

pub returns-clause-heard : goal.returns-clause-heard
returns-clause-heard c =
    sym (entries_all c.args.table.now.rows (contains c.loop-member.seen) c.args.members.now c.loop-member.member-index (heard c.loop-member.message c.loop-member.complaints) c.loop-member-test.false)
    ∙ c.loop-member.invariant.heard
