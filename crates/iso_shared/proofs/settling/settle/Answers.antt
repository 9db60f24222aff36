use Rattle.std.proofs.Common.{◌≡◌, ◌∙◌, false, sym, ap}
use Rattle.iso_shared.proofs.Sending.{sent_again, only_same, grows_on, grows_same}
use Rattle.iso_shared.proofs.settling.settle.Goals as goal
use Rattle.iso_shared.proofs.settling.settle.Goals.{in-Unknown, in-Unsent, else-loop-test, then-loop-test+then-not-may_go_on}

pub returns-in-Stands-clause-sent : goal.returns-in-Stands-clause-sent
returns-in-Stands-clause-sent g c = sent_again _ _ _ _ c.loop.invariant.sent c.in-Stands.ensures.sent

pub returns-in-Other-clause-sent : goal.returns-in-Other-clause-sent
returns-in-Other-clause-sent g c = sent_again _ _ _ _ c.loop.invariant.sent c.in-Other.ensures.sent

pub loop-preserved : goal.loop-preserved
loop-preserved g c =
    let old = g.S.Store.sent c.args.store.now in
    let now = g.S.Store.sent c.loop.store in
    let new = g.S.Store.sent c.ask.new.self in
    let is_same : c.match-ask.is_sent ≡ false → new ≡ old =
    elim c.match-ask.branch [ in-Unknown w ↦ (λ e. absurd (cc)) | in-Unsent w ↦ (λ e. w.in-Unsent.ensures.sent ∙ c.loop.invariant.unsent (sym w.is_sent-is ∙ e)) ] in
    record {
      grows = grows_on _ _ _ c.loop.invariant.grows c.ask.ensures.grows;
      sent =
          elim c.match-ask.branch [
            | in-Unknown w ↦ sent_again old now new c.args.bytes.now c.loop.invariant.sent w.in-Unknown.ensures.sent
            | in-Unsent w ↦ only_same old now new c.args.bytes.now c.loop.invariant.sent w.in-Unsent.ensures.sent
          ];
      unsent = is_same;
    }

pub returns-then-is_sent-clause-sent : goal.returns-then-is_sent-clause-sent
returns-then-is_sent-clause-sent g c =
    let old = g.S.Store.sent c.args.store.now in
    elim c.loop-test.branch [
      | else-loop-test w ↦ only_same old (g.S.Store.sent c.loop.store) (g.S.Store.sent c.loop-test.store) c.args.bytes.now c.loop.invariant.sent (ap g.S.Store.sent w.store-is)
      | then-loop-test+then-not-may_go_on w ↦
          only_same old (g.S.Store.sent w.ask.new.self) (g.S.Store.sent c.loop-test.store) c.args.bytes.now
          (elim w.match-ask.branch [
            | in-Unknown v ↦ sent_again old (g.S.Store.sent c.loop.store) (g.S.Store.sent w.ask.new.self) c.args.bytes.now c.loop.invariant.sent v.in-Unknown.ensures.sent
            | in-Unsent v ↦ only_same old (g.S.Store.sent c.loop.store) (g.S.Store.sent w.ask.new.self) c.args.bytes.now c.loop.invariant.sent v.in-Unsent.ensures.sent
          ]) (ap g.S.Store.sent w.store-is)
    ]

pub returns-else-is_sent-clause-grows : goal.returns-else-is_sent-clause-grows
returns-else-is_sent-clause-grows g c =
    let old = g.S.Store.kept c.args.store.now in
    elim c.loop-test.branch [
      | else-loop-test w ↦ grows_same old (g.S.Store.kept c.loop.store) (g.S.Store.kept c.loop-test.store) c.loop.invariant.grows (ap g.S.Store.kept w.store-is)
      | then-loop-test+then-not-may_go_on w ↦
          grows_same old (g.S.Store.kept w.ask.new.self) (g.S.Store.kept c.loop-test.store)
          (grows_on old (g.S.Store.kept c.loop.store) (g.S.Store.kept w.ask.new.self) c.loop.invariant.grows w.ask.ensures.grows) (ap g.S.Store.kept w.store-is)
    ]
