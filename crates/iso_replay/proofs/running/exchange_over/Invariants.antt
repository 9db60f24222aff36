use Rattle.std.proofs.Common.{◌≡◌}
use Rattle.iso_replay.proofs.Turns.{SentSo, HeardSo}
use Rattle.iso_replay.proofs.running.exchange_over.Given as goal

abbrev pub invariant-loop : goal.invariant-loop
invariant-loop g l = record {
  sent : SentSo l.plan.frames.now (g.O.Write.contents l.initial.output) (g.O.Write.contents l.output) l.exchange;
  heard : HeardSo (g.I.Read.remaining l.initial.input) (g.I.Read.remaining l.input) l.exchange;
  header : l.exchange.heard.header ≡ l.plan.header;
  wanted : l.exchange.wanted ≡ l.plan.wanted;
}
