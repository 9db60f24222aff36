-- Sent once and in this run, an order took the time since then.
use Rattle.std.proofs.Common.{rules}
use Rattle.iso_plan.proofs.sendings.Sendings.latency.Goals as goal

pub returns-then-self-stan : goal.returns-then-self-stan
returns-then-self-stan c = search rules
