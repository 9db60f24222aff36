use Rattle.std.proofs.Common.{◌≡◌, ℕ, List, subst, arith, inl, inr}
use Rattle.iso_etcd.specs.Members.{IsBracketed, behind}
use Rattle.iso_etcd.proofs.member.host_and_port.Goals as goal

pub returns-in-Some-clause-none : goal.returns-in-Some-clause-none
returns-in-Some-clause-none c = λ none host port written.
    let same : behind 91 c.args.text.now ≡ c.in-Some.rest.now = cc (c.in-Some.ensures.2, c.in-Some.rest-is) in
    elim written as (λ _. ⊥) [
      | inl bracketed ↦ c.bracketed.ensures.none none host port
          (subst (λ (text : List ℕ). IsBracketed text host port) same bracketed.2)
      | inr named ↦ omega (arith, c.in-Some.ensures.0, named.0)
    ]
