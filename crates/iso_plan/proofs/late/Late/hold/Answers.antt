use Rattle.std.proofs.Common.{◌≡◌, ◌≤◌, ◌<◌, ℕ, arith, subst, sym, ap, ◌∙◌, List}
use Rattle.std.specs.List.{AllByRecursion}
use Rattle.std.proofs.lemmas.List.Elements.{All-weaker, All-from_recursion, recursion_from_All}
use Rattle.iso_plan.specs.declared.late.Held.{Held}
use Rattle.iso_plan.specs.Late.{Waiting, put, waits_of}
use Rattle.iso_plan.proofs.Putting.{put-insert, all-insert}
use Rattle.iso_plan.proofs.late.Late.hold.Goals as goal

all-weaker : {X : Type 0} (P Q : X → Type 0) (xs : List X) → ((x : X) → P x → Q x) → AllByRecursion P xs → AllByRecursion Q xs
all-weaker P Q xs f all = recursion_from_All Q xs (All-weaker P Q f xs (All-from_recursion P xs all))

pub invariant_of-self-2 : goal.invariant_of-self-2
invariant_of-self-2 c =
    let number : ℕ = c.saturating_add-number.result in
    let old : List ((ℕ × ℕ) × Held) = c.self.inside.by_moment.entries in
    let up : c.self.inside.count ≤ number = omega (arith, c.saturating_add-number.ensures, c.self.ranges) in
    subst (λ (es : List ((ℕ × ℕ) × Held)). AllByRecursion (λ e. e.0.1 ≤ number) es) (sym c.in_ok-insert.ensures.entries)
    (all-insert (λ k. k.1 ≤ number) (c.args.at, number) c.args.held old (omega arith)
    (all-weaker (λ (e : (ℕ × ℕ) × Held). e.0.1 ≤ c.self.inside.count) (λ e. e.0.1 ≤ number) old (λ e le. omega (arith, le, up)) c.self.invariant))

pub returns-clause-held : goal.returns-clause-held
returns-clause-held c = λ few.
    let number : ℕ = c.saturating_add-number.result in
    let old : List ((ℕ × ℕ) × Held) = c.self.inside.by_moment.entries in
    let same : c.self.inside.count ≡ c.args.self.now.count = ap (λ (w : Waiting). w.count) c.self.view_is in
    let up : c.self.inside.count < number = omega (arith, c.saturating_add-number.ensures, same, few) in
    ap waits_of c.in_ok-insert.ensures.entries
    ∙ put-insert c.args.at number c.args.held old
    (all-weaker (λ (e : (ℕ × ℕ) × Held). e.0.1 ≤ c.self.inside.count) (λ e. e.0.1 < number) old (λ e le. omega (arith, le, up)) c.self.invariant)
    ∙ ap (λ (w : Waiting). put c.args.at c.args.held w.waits) c.self.view_is
