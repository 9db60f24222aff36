-- Orders that come together, and the sync before their answers are given.
use Rattle.std.proofs.Common.{◌≡◌, ℕ, refl, ap, sym, ◌∙◌, subst, List, [], ◌∷◌, ◌++◌, append_assoc, append-nil}
use Rattle.std.specs.Prelude.{Option, Some}
use Rattle.iso_order.specs.Order.{Instruction}
use Rattle.iso_durable.specs.Durable.{comes, come_all, syncs, outcome, outcomes}
use Rattle.iso_acquirer.specs.declared.event.Given.{Given}
use Rattle.iso_outages.specs.World.{World, receives, run}
use Rattle.iso_outages.specs.Laws.{together, AreSentAt, under_keys}

-- what they leave, of the host and of the answers
abbrev Leaves : World → List Instruction → World → Type 0
Leaves w orders new = (new.host ≡ syncs (come_all w.host orders)) × (new.given ≡ w.given ++ (w.waiting ++ under_keys orders (outcomes w.host orders)))

pub calls-are-runs : (w : World) (places : List ℕ) (orders : List Instruction) → AreSentAt w.sent places orders → Leaves w orders (run (together places) w)
calls-are-runs w [] [] h = (refl, ap (λ (l : List Given). w.given ++ l) (sym (append-nil w.waiting)))
calls-are-runs w (place ∷ places) (o ∷ os) h =
    let answer : Given = record { key = o.key; answer = outcome w.host o } in
    let rest = calls-are-runs (receives w (Some o)) places os h.1 in
    subst (λ (f : Option Instruction). Leaves w (o ∷ os) (run (together places) (receives w f))) (sym h.0)
    (rest.0, rest.1 ∙ ap (λ (l : List Given). w.given ++ l) (append_assoc w.waiting (answer ∷ []) (under_keys os (outcomes (comes w.host o) os))))
calls-are-runs w [] (o ∷ os) h = absurd h
calls-are-runs w (place ∷ places) [] h = absurd h
