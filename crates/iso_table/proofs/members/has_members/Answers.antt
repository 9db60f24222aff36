use Rattle.std.proofs.Common.{◌≡◌, nat_eq, ap, ◌∙◌, sym}
use Rattle.serde_json.specs.View.{members_view}
use Rattle.iso_table.proofs.MemberLemmas.{count_members}
use Rattle.iso_table.specs.Members.{counts_to, member_count}
use Rattle.iso_table.proofs.members.has_members.Goals as goal

pub returns-in-Some : goal.returns-in-Some
returns-in-Some c =
    let size : c.len.result ≡ member_count (members_view c.in-Some.members.now.entries) = c.len.ensures.len ∙ sym (count_members c.in-Some.members.now.entries) in
    ap (λ n. nat_eq n c.args.size) size ∙ ap (counts_to c.args.size) c.in-Some.ensures
