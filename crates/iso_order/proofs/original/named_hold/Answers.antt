use Rattle.std.proofs.Common.{◌≡◌, true, false, sym, ◌∙◌, ap}
use Rattle.iso_order.specs.declared.key.TxKey.{TxKey}
use Rattle.iso_order.specs.Fields.{original_mti, original_of, is_hold, is_own}
use Rattle.std.specs.Prelude.{Some, None, if◌then◌else◌}
use Rattle.iso_order.proofs.Table.{turned, no_hold, hold_of_another_type, hold_of_another_acquirer, with_hold}
use Rattle.iso_order.proofs.Valid.{hold-valid}
use Rattle.iso_order.proofs.original.named_hold.Goals as goal

pub returns-in_default-clause-refused : goal.returns-in_default-clause-refused
returns-in_default-clause-refused c = λ lines last.
    let m = c.args.message.now in
    no_hold m lines last c.requires.completion (sym c.in_default.ensures.some)

pub returns-then-not-is_hold-clause-refused : goal.returns-then-not-is_hold-clause-refused
returns-then-not-is_hold-clause-refused c = λ lines last.
    let m = c.args.message.now in
    let type : is_hold (original_mti m) ≡ false = ap is_hold (sym c.in-Some.ensures.named.mti) ∙ sym c.is_hold.ensures ∙ c.if-not-is_hold.true in
    hold_of_another_type m lines last c.requires.completion (sym c.in-Some.ensures.some) type

pub returns-then-not-original-clause-refused : goal.returns-then-not-original-clause-refused
returns-then-not-original-clause-refused c = λ lines last.
    let m = c.args.message.now in
    let type : is_hold (original_mti m) ≡ true = ap is_hold (sym c.in-Some.ensures.named.mti) ∙ sym c.is_hold.ensures ∙ c.if-not-is_hold.false in
    let own : is_own m ≡ false = sym c.in-Some.ensures.named.own ∙ turned c.in-Some.original.is_own true c.if-not-original.true in
    hold_of_another_acquirer m lines last c.requires.completion (sym c.in-Some.ensures.some) type own

pub returns-clause-lines : goal.returns-clause-lines
returns-clause-lines c = λ lines last.
    let m = c.args.message.now in
    let type : is_hold (original_mti m) ≡ true = ap is_hold (sym c.in-Some.ensures.named.mti) ∙ sym c.is_hold.ensures ∙ c.if-not-is_hold.false in
    let own : is_own m ≡ true = sym c.in-Some.ensures.named.own ∙ turned c.in-Some.original.is_own false c.if-not-original.false in
    with_hold m lines last c.requires.completion (sym c.in-Some.ensures.some) type own

pub returns-clause-hold : goal.returns-clause-hold
returns-clause-hold c =
    let m = c.args.message.now in
    ap Some c.in-Some.ensures.named.key ∙ sym (ap (λ b. if b then Some (original_of m) else None) c.requires.completion)

pub returns-clause-valid : goal.returns-clause-valid
returns-clause-valid c =
    let m = c.args.message.now in
    let named = c.in-Some.ensures.named in
    let type : is_hold (original_mti m) ≡ true = ap is_hold (sym named.mti) ∙ sym c.is_hold.ensures ∙ c.if-not-is_hold.false in
    let acquirer = ap (λ (k : TxKey). k.acquirer) named.key ∙ sym (ap (λ (k : TxKey). k.acquirer) c.requires.key) in
    hold-valid c.args.key.now c.in-Some.original.key (original_mti m) c.requires.valid (ap (λ (k : TxKey). k.base) named.key) acquirer c.in-Some.ensures.stan c.in-Some.ensures.sent type
