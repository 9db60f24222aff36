use Rattle.std.proofs.Common.{refl}
use Rattle.iso_outages.proofs.Carried.{IssuerLaws}
use Rattle.iso_outages.proofs.Agreed.{without, agree-over, balance-over, closed-over}
use Rattle.iso_outages.proofs.Called.{calls-are-runs}
use Rattle.iso_outages.proofs.laws.crashes_only_lose.Goals as goal

pub returns-clause-without : goal.returns-clause-without
returns-clause-without c = λ id accounts limit events own can.
    let laws : IssuerLaws = record {
      kept = c.answers_are_kept.ensures.entry;
      has = c.journals_grow.ensures.found;
      grow = c.journals_grow.ensures.grown;
      found = c.entries_are_found.ensures.new;
      self = λ o. (c.comparisons.ensures.orders o o).1 refl;
      known = c.keys_stay_distinct.ensures.known;
      last = c.keys_stay_distinct.ensures.new;
      distinct = c.keys_stay_distinct.ensures.distinct;
      starts = c.starts.ensures;
    } in
    without laws id accounts limit events own can

pub returns-clause-agree : goal.returns-clause-agree
returns-clause-agree c = λ id accounts limit events own can.
    let laws : IssuerLaws = record {
      kept = c.answers_are_kept.ensures.entry;
      has = c.journals_grow.ensures.found;
      grow = c.journals_grow.ensures.grown;
      found = c.entries_are_found.ensures.new;
      self = λ o. (c.comparisons.ensures.orders o o).1 refl;
      known = c.keys_stay_distinct.ensures.known;
      last = c.keys_stay_distinct.ensures.new;
      distinct = c.keys_stay_distinct.ensures.distinct;
      starts = c.starts.ensures;
    } in
    agree-over laws id accounts limit events own can c.runs_agree.ensures.agree

pub returns-clause-closed : goal.returns-clause-closed
returns-clause-closed c = λ id accounts limit events own can more can_more.
    let laws : IssuerLaws = record {
      kept = c.answers_are_kept.ensures.entry;
      has = c.journals_grow.ensures.found;
      grow = c.journals_grow.ensures.grown;
      found = c.entries_are_found.ensures.new;
      self = λ o. (c.comparisons.ensures.orders o o).1 refl;
      known = c.keys_stay_distinct.ensures.known;
      last = c.keys_stay_distinct.ensures.new;
      distinct = c.keys_stay_distinct.ensures.distinct;
      starts = c.starts.ensures;
    } in
    closed-over laws id accounts limit events own can c.runs_agree.ensures.closed more can_more

pub returns-clause-books : goal.returns-clause-books
returns-clause-books c = λ id accounts limit events own can.
    let laws : IssuerLaws = record {
      kept = c.answers_are_kept.ensures.entry;
      has = c.journals_grow.ensures.found;
      grow = c.journals_grow.ensures.grown;
      found = c.entries_are_found.ensures.new;
      self = λ o. (c.comparisons.ensures.orders o o).1 refl;
      known = c.keys_stay_distinct.ensures.known;
      last = c.keys_stay_distinct.ensures.new;
      distinct = c.keys_stay_distinct.ensures.distinct;
      starts = c.starts.ensures;
    } in
    balance-over laws id accounts limit events own can c.runs_agree.ensures.books

pub returns-clause-calls : goal.returns-clause-calls
returns-clause-calls c = calls-are-runs
