use Rattle.std.proofs.Common.{refl}
use Rattle.iso_hosts.proofs.Alone.{IssuerLaws}
use Rattle.iso_hosts.proofs.Runs.{all_told, agree, kept_once, no_gaps, seen_is_kept}
use Rattle.iso_hosts.proofs.Runs.{goes_on, late_is_lost}
use Rattle.iso_hosts.proofs.Reading.{own_is_told, fenced_says_nothing, reads_on, others_leave_it}
use Rattle.iso_hosts.proofs.Calls.{starts_are_events, sync_succeeds, calls_are_events}
use Rattle.iso_hosts.proofs.Answering.{calls_are_told}
use Rattle.iso_hosts.proofs.laws.no_host_is_wrong.Goals as goal

pub returns-clause-told : goal.returns-clause-told
returns-clause-told c = λ accounts limit kept events start.
    let laws : IssuerLaws = record {
      kept = c.answers_are_kept.ensures.entry;
      has = c.journals_grow.ensures.found;
      grow = c.journals_grow.ensures.grown;
      found = c.entries_are_found.ensures.new;
      self = λ o. (c.comparisons.ensures.orders o o).1 refl;
      one = λ o p. (c.comparisons.ensures.orders o p).0;
      last = c.keys_stay_distinct.ensures.new;
      distinct = c.keys_stay_distinct.ensures.distinct;
      starts = c.starts.ensures;
    } in
    all_told laws accounts limit kept events start

pub returns-clause-agree : goal.returns-clause-agree
returns-clause-agree c = λ accounts limit kept events start.
    let laws : IssuerLaws = record {
      kept = c.answers_are_kept.ensures.entry;
      has = c.journals_grow.ensures.found;
      grow = c.journals_grow.ensures.grown;
      found = c.entries_are_found.ensures.new;
      self = λ o. (c.comparisons.ensures.orders o o).1 refl;
      one = λ o p. (c.comparisons.ensures.orders o p).0;
      last = c.keys_stay_distinct.ensures.new;
      distinct = c.keys_stay_distinct.ensures.distinct;
      starts = c.starts.ensures;
    } in
    agree laws accounts limit kept events start

pub returns-clause-once : goal.returns-clause-once
returns-clause-once c = λ accounts limit kept events start.
    let laws : IssuerLaws = record {
      kept = c.answers_are_kept.ensures.entry;
      has = c.journals_grow.ensures.found;
      grow = c.journals_grow.ensures.grown;
      found = c.entries_are_found.ensures.new;
      self = λ o. (c.comparisons.ensures.orders o o).1 refl;
      one = λ o p. (c.comparisons.ensures.orders o p).0;
      last = c.keys_stay_distinct.ensures.new;
      distinct = c.keys_stay_distinct.ensures.distinct;
      starts = c.starts.ensures;
    } in
    kept_once laws accounts limit kept events start

pub returns-clause-gaps : goal.returns-clause-gaps
returns-clause-gaps c = λ accounts limit kept events start.
    let laws : IssuerLaws = record {
      kept = c.answers_are_kept.ensures.entry;
      has = c.journals_grow.ensures.found;
      grow = c.journals_grow.ensures.grown;
      found = c.entries_are_found.ensures.new;
      self = λ o. (c.comparisons.ensures.orders o o).1 refl;
      one = λ o p. (c.comparisons.ensures.orders o p).0;
      last = c.keys_stay_distinct.ensures.new;
      distinct = c.keys_stay_distinct.ensures.distinct;
      starts = c.starts.ensures;
    } in
    no_gaps laws accounts limit kept events start

pub returns-clause-seen : goal.returns-clause-seen
returns-clause-seen c = λ accounts limit kept events start.
    let laws : IssuerLaws = record {
      kept = c.answers_are_kept.ensures.entry;
      has = c.journals_grow.ensures.found;
      grow = c.journals_grow.ensures.grown;
      found = c.entries_are_found.ensures.new;
      self = λ o. (c.comparisons.ensures.orders o o).1 refl;
      one = λ o p. (c.comparisons.ensures.orders o p).0;
      last = c.keys_stay_distinct.ensures.new;
      distinct = c.keys_stay_distinct.ensures.distinct;
      starts = c.starts.ensures;
    } in
    seen_is_kept laws accounts limit kept events start

pub returns-clause-grows : goal.returns-clause-grows
returns-clause-grows c = λ w events. let on = goes_on w events in (on.more, on.kept)

pub returns-clause-late : goal.returns-clause-late
returns-clause-late c = late_is_lost

pub returns-clause-reads : goal.returns-clause-reads
returns-clause-reads c = reads_on

pub returns-clause-others : goal.returns-clause-others
returns-clause-others c = others_leave_it

pub returns-clause-starts : goal.returns-clause-starts
returns-clause-starts c = starts_are_events

pub returns-clause-own : goal.returns-clause-own
returns-clause-own c =
    let laws : IssuerLaws = record {
      kept = c.answers_are_kept.ensures.entry;
      has = c.journals_grow.ensures.found;
      grow = c.journals_grow.ensures.grown;
      found = c.entries_are_found.ensures.new;
      self = λ o. (c.comparisons.ensures.orders o o).1 refl;
      one = λ o p. (c.comparisons.ensures.orders o p).0;
      last = c.keys_stay_distinct.ensures.new;
      distinct = c.keys_stay_distinct.ensures.distinct;
      starts = c.starts.ensures;
    } in
    own_is_told laws

pub returns-clause-fenced : goal.returns-clause-fenced
returns-clause-fenced c =
    let laws : IssuerLaws = record {
      kept = c.answers_are_kept.ensures.entry;
      has = c.journals_grow.ensures.found;
      grow = c.journals_grow.ensures.grown;
      found = c.entries_are_found.ensures.new;
      self = λ o. (c.comparisons.ensures.orders o o).1 refl;
      one = λ o p. (c.comparisons.ensures.orders o p).0;
      last = c.keys_stay_distinct.ensures.new;
      distinct = c.keys_stay_distinct.ensures.distinct;
      starts = c.starts.ensures;
    } in
    fenced_says_nothing laws

pub returns-clause-succeeds : goal.returns-clause-succeeds
returns-clause-succeeds c =
    let laws : IssuerLaws = record {
      kept = c.answers_are_kept.ensures.entry;
      has = c.journals_grow.ensures.found;
      grow = c.journals_grow.ensures.grown;
      found = c.entries_are_found.ensures.new;
      self = λ o. (c.comparisons.ensures.orders o o).1 refl;
      one = λ o p. (c.comparisons.ensures.orders o p).0;
      last = c.keys_stay_distinct.ensures.new;
      distinct = c.keys_stay_distinct.ensures.distinct;
      starts = c.starts.ensures;
    } in
    sync_succeeds laws

pub returns-clause-calls : goal.returns-clause-calls
returns-clause-calls c =
    let laws : IssuerLaws = record {
      kept = c.answers_are_kept.ensures.entry;
      has = c.journals_grow.ensures.found;
      grow = c.journals_grow.ensures.grown;
      found = c.entries_are_found.ensures.new;
      self = λ o. (c.comparisons.ensures.orders o o).1 refl;
      one = λ o p. (c.comparisons.ensures.orders o p).0;
      last = c.keys_stay_distinct.ensures.new;
      distinct = c.keys_stay_distinct.ensures.distinct;
      starts = c.starts.ensures;
    } in
    calls_are_events laws

pub returns-clause-answers : goal.returns-clause-answers
returns-clause-answers c =
    let laws : IssuerLaws = record {
      kept = c.answers_are_kept.ensures.entry;
      has = c.journals_grow.ensures.found;
      grow = c.journals_grow.ensures.grown;
      found = c.entries_are_found.ensures.new;
      self = λ o. (c.comparisons.ensures.orders o o).1 refl;
      one = λ o p. (c.comparisons.ensures.orders o p).0;
      last = c.keys_stay_distinct.ensures.new;
      distinct = c.keys_stay_distinct.ensures.distinct;
      starts = c.starts.ensures;
    } in
    calls_are_told laws
