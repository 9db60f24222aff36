-- What a field tells is found where no earlier one told it.
use Rattle.std.proofs.Common.{subst, sym}
use Rattle.serde_json.specs.View.{view}
use Rattle.iso_import.specs.Fields.{mti_coded}
use Rattle.iso_import.specs.Found.{found, TakesFront}
use Rattle.iso_import.specs.Step.{TakesField}
use Rattle.iso_import.proofs.Telling.{front-taken, left-out, no-number, no-number-read, number-read, on-ok, on-ok-as, row-joined}
use Rattle.iso_import.proofs.moov.take_field.Goals as goal

pub returns-in_default-clause-told : goal.returns-in_default-clause-told
returns-in_default-clause-told c =
    let key = c.args.key.now in
    let field = view c.args.field.now in
    let none = no-number key field (found c.args.taken.now) (no-number-read key c.in_default.ensures.value.0) in
    on-ok c.leave.result (subst (TakesField key field (found c.args.taken.now)) (sym c.leave.ensures.found) none)

pub returns-then-take_front-clause-told : goal.returns-then-take_front-clause-told
returns-then-take_front-clause-told c =
    let key = c.args.key.now in
    let field = view c.args.field.now in
    let number = c.in-Ok.number in
    let old = found c.args.taken.now in
    let new = found c.take_front.new.self in
    let by-mti = subst (λ m. TakesFront old new m c.bitmap_coded.result c.take_front.result) c.mti_coded.ensures c.take_front.ensures.front in
    let front = subst (λ b. TakesFront old new (mti_coded number field) b c.take_front.result) c.bitmap_coded.ensures by-mti in
    front-taken key field number (number-read key number c.in-Ok.ensures.value.0) old new c.take_front.result front c.if-take_front.true

pub returns-in-Err-clause-told : goal.returns-in-Err-clause-told
returns-in-Err-clause-told c =
    let key = c.args.key.now in
    let field = view c.args.field.now in
    let number = c.in-Ok.number in
    let old = found c.args.taken.now in
    let mid = found c.take_front.new.self in
    let by-mti = subst (λ m. TakesFront old mid m c.bitmap_coded.result c.take_front.result) c.mti_coded.ensures c.take_front.ensures.front in
    let front = subst (λ b. TakesFront old mid (mti_coded number field) b c.take_front.result) c.bitmap_coded.ensures by-mti in
    let left = left-out key field number (number-read key number c.in-Ok.ensures.value.0) old mid c.take_front.result front c.in-Err.ensures.none in
    on-ok c.leave-in-Err.result (subst (TakesField key field old) (sym c.leave-in-Err.ensures.found) left)

pub returns-in-Ok-free_row-clause-told : goal.returns-in-Ok-free_row-clause-told
returns-in-Ok-free_row-clause-told c =
    let key = c.args.key.now in
    let field = view c.args.field.now in
    let number = c.in-Ok.number in
    let old = found c.args.taken.now in
    let mid = found c.take_front.new.self in
    let by-mti = subst (λ m. TakesFront old mid m c.bitmap_coded.result c.take_front.result) c.mti_coded.ensures c.take_front.ensures.front in
    let front = subst (λ b. TakesFront old mid (mti_coded number field) b c.take_front.result) c.bitmap_coded.ensures by-mti in
    let joined = row-joined key field number (number-read key number c.in-Ok.ensures.value.0) old mid c.take_front.result front c.in-Ok-free_row.spec c.in-Ok-free_row.ensures.row in
    on-ok-as c.add.result (λ row. subst (TakesField key field old) (sym row) joined) c.add.ensures.row
