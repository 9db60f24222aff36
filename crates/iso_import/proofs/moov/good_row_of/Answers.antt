-- A row with something wrong is no good one.
use Rattle.std.proofs.Common.{◌∙◌, ap, sym}
use Rattle.iso_table.specs.Members.{◌>>=◌}
use Rattle.iso_import.specs.Told.{good_row}
use Rattle.iso_import.proofs.Telling.{no-good-row}
use Rattle.iso_import.proofs.moov.good_row_of.Goals as goal

pub returns-else-is_ok-clause-none : goal.returns-else-is_ok-clause-none
returns-else-is_ok-clause-none c =
    ap (λ laid. laid >>= good_row) c.in_ok-spec.ensures.row ∙ no-good-row c.in_ok-spec.spec c.good.result (sym c.if-is_ok.ensures.value) c.good.ensures.fault
