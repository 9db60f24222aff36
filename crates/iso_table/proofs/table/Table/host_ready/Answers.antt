use Rattle.std.proofs.Common.{rules, ◌≡◌, None, Some, sym, ap, refl, ◌∙◌}
use Rattle.iso_table.specs.HostReady.{host_fault, host_rows, host_rows_fault}
use Rattle.iso_table.proofs.FirstFaults.{first_host_fault}
use Rattle.iso_table.proofs.HostLemmas.{host_good, host_none}
use Rattle.iso_table.proofs.table.Table.host_ready.Goals as goal

pub returns-in-Some-clause-ready : goal.returns-in-Some-clause-ready
returns-in-Some-clause-ready c = (λ e. absurd cc, λ ready. let wrong : host_fault c.args.self.now ≡ Some c.in-Some.fault = search rules in absurd (let no : None ≡ Some c.in-Some.fault = sym (host_none c.args.self.now ready) ∙ wrong in cc))

pub returns-in-None-clause-ready : goal.returns-in-None-clause-ready
returns-in-None-clause-ready c =
    let good : host_rows_fault host_rows c.self.inside.rows.items ≡ None = sym (c.host_rows_fault.ensures ∙ ap (host_rows_fault host_rows) c.deref.ensures.value) ∙ c.in-None.is in
    (λ _. rw (← c.self.view_is) (host_good _ c.if-self-ne0.false good), λ _. refl)

pub returns-in-Some-clause-first : goal.returns-in-Some-clause-first
returns-in-Some-clause-first c = λ _. first_host_fault c.args.self.now.rows c.in-Some.fault (search rules)
