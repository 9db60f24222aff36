use Rattle.iso_shared.proofs.Events.{HostLaws}
use Rattle.iso_shared.proofs.Hosts.{appends_are_events, syncs_are_events, syncs_tell_the_log, sends_its_batch, others_leave_logs, starts_are_restarts, reading_is_an_event, readers_become_hosts}
use Rattle.iso_shared.proofs.laws.calls_are_events.Goals as goal

pub returns-clause-appends : goal.returns-clause-appends
returns-clause-appends g c =
    let laws : HostLaws = record {
      others = c.no_host_is_wrong.ensures.others;
      grow = c.no_host_is_wrong.ensures.grows;
      own = c.no_host_is_wrong.ensures.own;
      reads = c.no_host_is_wrong.ensures.reads;
      fenced = c.no_host_is_wrong.ensures.fenced;
    } in
    appends_are_events laws c.batches_come_back.ensures.back g.S.Store.kept g.S.Store.sent

pub returns-clause-syncs : goal.returns-clause-syncs
returns-clause-syncs g c =
    let laws : HostLaws = record {
      others = c.no_host_is_wrong.ensures.others;
      grow = c.no_host_is_wrong.ensures.grows;
      own = c.no_host_is_wrong.ensures.own;
      reads = c.no_host_is_wrong.ensures.reads;
      fenced = c.no_host_is_wrong.ensures.fenced;
    } in
    syncs_are_events laws c.batches_come_back.ensures.back g.S.Store.kept g.S.Store.sent

pub returns-clause-tells : goal.returns-clause-tells
returns-clause-tells g c =
    let laws : HostLaws = record {
      others = c.no_host_is_wrong.ensures.others;
      grow = c.no_host_is_wrong.ensures.grows;
      own = c.no_host_is_wrong.ensures.own;
      reads = c.no_host_is_wrong.ensures.reads;
      fenced = c.no_host_is_wrong.ensures.fenced;
    } in
    syncs_tell_the_log laws c.batches_come_back.ensures.back g.S.Store.kept g.S.Store.sent c.no_host_is_wrong.ensures.told

pub returns-clause-sends : goal.returns-clause-sends
returns-clause-sends g c =
    let laws : HostLaws = record {
      others = c.no_host_is_wrong.ensures.others;
      grow = c.no_host_is_wrong.ensures.grows;
      own = c.no_host_is_wrong.ensures.own;
      reads = c.no_host_is_wrong.ensures.reads;
      fenced = c.no_host_is_wrong.ensures.fenced;
    } in
    sends_its_batch laws c.batches_come_back.ensures.back g.S.Store.kept g.S.Store.sent

pub returns-clause-others : goal.returns-clause-others
returns-clause-others g c =
    let laws : HostLaws = record {
      others = c.no_host_is_wrong.ensures.others;
      grow = c.no_host_is_wrong.ensures.grows;
      own = c.no_host_is_wrong.ensures.own;
      reads = c.no_host_is_wrong.ensures.reads;
      fenced = c.no_host_is_wrong.ensures.fenced;
    } in
    others_leave_logs laws c.batches_come_back.ensures.back g.S.Store.kept g.S.Store.sent

pub returns-clause-starts : goal.returns-clause-starts
returns-clause-starts g c =
    let laws : HostLaws = record {
      others = c.no_host_is_wrong.ensures.others;
      grow = c.no_host_is_wrong.ensures.grows;
      own = c.no_host_is_wrong.ensures.own;
      reads = c.no_host_is_wrong.ensures.reads;
      fenced = c.no_host_is_wrong.ensures.fenced;
    } in
    starts_are_restarts laws g.S.Store.kept

pub returns-clause-reads : goal.returns-clause-reads
returns-clause-reads g c =
    let laws : HostLaws = record {
      others = c.no_host_is_wrong.ensures.others;
      grow = c.no_host_is_wrong.ensures.grows;
      own = c.no_host_is_wrong.ensures.own;
      reads = c.no_host_is_wrong.ensures.reads;
      fenced = c.no_host_is_wrong.ensures.fenced;
    } in
    reading_is_an_event laws g.S.Store.kept

pub returns-clause-becomes : goal.returns-clause-becomes
returns-clause-becomes g c =
    let laws : HostLaws = record {
      others = c.no_host_is_wrong.ensures.others;
      grow = c.no_host_is_wrong.ensures.grows;
      own = c.no_host_is_wrong.ensures.own;
      reads = c.no_host_is_wrong.ensures.reads;
      fenced = c.no_host_is_wrong.ensures.fenced;
    } in
    readers_become_hosts laws c.batches_come_back.ensures.back g.S.Store.kept g.S.Store.sent
