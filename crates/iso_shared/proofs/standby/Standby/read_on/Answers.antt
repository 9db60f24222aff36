use Rattle.std.proofs.Common.{◌≡◌, ◌∙◌, ap, sym, subst, ℕ, ◌+◌, ◌-◌, List, arith}
use Rattle.std.specs.Prelude.{Some, slice_get}
use Rattle.iso_shared.specs.Standby.{IsTakeFault}
use Rattle.iso_shared.proofs.Follow.{follow_on, refusal}
use Rattle.iso_shared.proofs.standby.Standby.read_on.Goals as goal

pub returns-in-Ok-clause-following : goal.returns-in-Ok-clause-following
returns-in-Ok-clause-following g c = λ is.
    let kept = g.S.Store.kept in
    let old = c.args.self.now in
    let new = c.take.new.self in
    let e = c.in-Ok.ensures in
    let same : kept new.store ≡ kept c.look.new.self = ap kept e.store in
    let here : c.in-Some.place - 1 ≡ old.seen = omega (arith, c.in-Some.ensures) in
    let at : slice_get (kept new.store) old.seen ≡ Some c.deref.result.now =
    ap (λ (l : List (List ℕ)). slice_get l old.seen) same ∙ ap (slice_get (kept c.look.new.self)) (sym here) ∙ c.in-Found.ensures.looked
    ∙ ap (λ (l : List ℕ). Some l) (sym c.deref.ensures.value) in
    follow_on kept old new c.deref.result.now is (c.look.ensures.grows.0, same ∙ c.look.ensures.grows.1) at e.seen e.entered (e.start is.start)

pub returns-clause-fault : goal.returns-clause-fault
returns-clause-fault g c =
    let kept = g.S.Store.kept in
    let old = c.args.self.now in
    let new = c.take.new.self in
    let e = c.in-Err.ensures in
    let same : kept new.store ≡ kept c.look.new.self = ap kept e.store in
    let place : c.in-Some.place ≡ old.seen + 1 = omega (arith, c.in-Some.ensures) in
    let here : c.in-Some.place - 1 ≡ old.seen = omega (arith, place) in
    let at : slice_get (kept new.store) old.seen ≡ Some c.deref.result.now =
    ap (λ (l : List (List ℕ)). slice_get l old.seen) same ∙ ap (slice_get (kept c.look.new.self)) (sym here) ∙ c.in-Found.ensures.looked
    ∙ ap (λ (l : List ℕ). Some l) (sym c.deref.ensures.value) in
    refusal kept old new c.deref.result.now c.in-Err.error at (subst (λ (p : ℕ). IsTakeFault old.issuer p c.deref.result.now c.in-Err.error) place e.fault)
