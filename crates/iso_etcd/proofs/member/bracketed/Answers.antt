use Rattle.std.proofs.Common.{◌≡◌, ℕ, List, refl, subst}
use Rattle.std.specs.Net.Grammar.{IsIpv6Text}
use Rattle.iso_etcd.specs.Members.{IsPortBehind, behind}
use Rattle.iso_etcd.proofs.member.bracketed.Goals as goal

pub returns-then-not-is_address-clause-none : goal.returns-then-not-is_address-clause-none
returns-then-not-is_address-clause-none c = λ none host port written.
    let same : host ≡ c.in_ok-host.host.now = cc (written.1, c.in_ok-host.ensures.1, c.in_ok-host.host-is) in
    let address : IsIpv6Text c.in_ok-host.host.now written.2.0 =
    subst (λ (text : List ℕ). IsIpv6Text text written.2.0) same written.2.1 in
    c.is_address.ensures.none c.if-not-is_address.true written.2.0 address

pub returns-in-None-clause-none : goal.returns-in-None-clause-none
returns-in-None-clause-none c = λ none host port written.
    let same : behind 93 c.args.text.now ≡ c.in_ok-host.rest.now = cc (c.in_ok-host.ensures.2, c.in_ok-host.rest-is) in
    let port_behind : IsPortBehind c.in_ok-host.rest.now port =
    subst (λ (text : List ℕ). IsPortBehind text port) same written.3 in
    c.in-None.ensures.none refl port port_behind
