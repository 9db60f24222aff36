-- A host whose orders are all kept.
use Rattle.std.proofs.Common.{◌≡◌, ◌∙◌, ◌++◌, ℕ, refl, sym, ap, List, [], ◌∷◌, length, drop, append-nil}
use Rattle.iso_order.specs.Order.{Instruction}
use Rattle.iso_peers.specs.Host.{IsInStep, IsKept}
use Rattle.iso_peers.specs.declared.durable_host.DurableHost.{DurableHost}
use Rattle.std.specs.Prelude.{Err}
use Rattle.iso_service.specs.Serving.{UnlessLog}
use Rattle.iso_service.specs.declared.fault.ServiceFault.{ServiceFault}
use Rattle.iso_service.specs.declared.fault.ServiceFault.TheVariants.{Read, Write, BadHeader, CutFrame, Memory, Log}

drop_all : (xs : List Instruction) → drop (length xs) xs ≡ []
drop_all [] = refl
drop_all (x ∷ xs) = drop_all xs

module _ {L : Type 0} (is_ready : L → Type 0) (synced pending : L → List Instruction) where
  -- where all are kept, the log has them all
  pub synced_all : (h : DurableHost L) → IsInStep is_ready synced pending h → IsKept h → synced h.log ≡ h.host.orders
  synced_all h step kept =
      sym (step.same ∙ ap (λ (l : List Instruction). synced h.log ++ l) (ap (λ (n : ℕ). drop n h.host.orders) kept.count ∙ drop_all h.host.orders) ∙ append-nil (synced h.log))

-- what follows, follows unless the log failed
pub unless_log : (fault : ServiceFault) (P Q : Type 0) → (P → Q) → UnlessLog {T = Unit {0}} (Err fault) P → UnlessLog {T = Unit {0}} (Err fault) Q
unless_log Log P Q f is = tt
unless_log Write P Q f is = f is
unless_log Read P Q f is = f is
unless_log BadHeader P Q f is = f is
unless_log CutFrame P Q f is = f is
unless_log Memory P Q f is = f is
