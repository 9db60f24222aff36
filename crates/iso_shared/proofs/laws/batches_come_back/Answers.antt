use Rattle.iso_shared.proofs.Batches.{RecordLaws, batch_back, batch_only, batches_differ}
use Rattle.iso_shared.proofs.laws.batches_come_back.Goals as goal

pub returns-clause-back : goal.returns-clause-back
returns-clause-back c =
    let laws : RecordLaws = record {
      rows_back = c.rows_come_back.ensures;
      rows_whole = c.rows_are_whole.ensures;
      rows_only = c.nothing_else.ensures;
      heads_back = c.headings_come_back.ensures;
      heads_whole = c.headings_are_whole.ensures;
      heads_only = c.no_other_heading.ensures;
    } in
    batch_back laws

pub returns-clause-only : goal.returns-clause-only
returns-clause-only c =
    let laws : RecordLaws = record {
      rows_back = c.rows_come_back.ensures;
      rows_whole = c.rows_are_whole.ensures;
      rows_only = c.nothing_else.ensures;
      heads_back = c.headings_come_back.ensures;
      heads_whole = c.headings_are_whole.ensures;
      heads_only = c.no_other_heading.ensures;
    } in
    batch_only laws

pub returns-clause-differ : goal.returns-clause-differ
returns-clause-differ c =
    let laws : RecordLaws = record {
      rows_back = c.rows_come_back.ensures;
      rows_whole = c.rows_are_whole.ensures;
      rows_only = c.nothing_else.ensures;
      heads_back = c.headings_come_back.ensures;
      heads_whole = c.headings_are_whole.ensures;
      heads_only = c.no_other_heading.ensures;
    } in
    batches_differ laws
