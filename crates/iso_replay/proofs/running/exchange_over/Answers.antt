use Rattle.std.proofs.Common.{◌∙◌, ap}
use Rattle.iso_replay.proofs.Endings.{ends_so}
use Rattle.iso_replay.proofs.Turns.{sent_more, still_sent, heard_more, still_heard}
use Rattle.iso_replay.proofs.running.exchange_over.Goals as goal

pub returns-in-Some-clause-ends : goal.returns-in-Some-clause-ends
returns-in-Some-clause-ends g c =
    rw c.outcome_of.ensures.ending (ends_so c.args.plan c.outcome_of.result c.loop.exchange _ c.in-Some.ending c.splits_once.ensures.some
    (record {
      header = c.loop.invariant.header;
      wanted = c.loop.invariant.wanted;
      came = c.outcome_of.ensures.came;
      unsent = c.outcome_of.ensures.unsent;
    })
    c.in-Some.ensures)

pub loop-preserved : goal.loop-preserved
loop-preserved g c =
    let before = c.loop.invariant in
    let sent = c.send-has_sent.ensures in
    let heard = c.in_ok-has_heard.ensures in
    let mid = c.send-has_sent.new.exchange in
    record {
      sent = still_sent _ _ _ mid _ (sent_more _ _ _ _ _ mid before.sent sent) heard.unsent;
      heard = heard_more _ _ _ mid _ (still_heard _ _ _ mid before.heard sent.heard) heard;
      header = heard.header ∙ ap (λ x. x.header) sent.heard ∙ before.header;
      wanted = heard.wanted ∙ sent.wanted ∙ before.wanted;
    }
