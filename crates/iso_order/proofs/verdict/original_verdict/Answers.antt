use Rattle.std.proofs.Common.{◌≡◌, true, false, refl, sym, ◌∙◌, ap, eq-eqb}
use Rattle.iso_order.specs.declared.key.TxKey.{TxKey}
use Rattle.iso_order.specs.Fields.{class, original_mti, is_original, is_own}
use Rattle.iso_order.proofs.Table.{turned, no_original, of_another_type, of_another_acquirer, with_original}
use Rattle.iso_order.proofs.Valid.{undo-valid}
use Rattle.iso_order.proofs.verdict.original_verdict.Goals as goal

pub valid-requires : goal.valid-requires
valid-requires c =
    let m = c.args.message.now in
    let named = c.in-Some.ensures.named in
    let original : is_original (original_mti m) ≡ true = ap is_original (sym named.mti) ∙ sym c.is_original.ensures ∙ c.if-not-is_original.false in
    let acquirer = ap (λ (k : TxKey). k.acquirer) named.key ∙ sym (ap (λ (k : TxKey). k.acquirer) c.requires.key) in
    undo-valid c.args.key.now c.in-Some.named.key (original_mti m) c.requires.valid (ap (λ (k : TxKey). k.base) named.key) acquirer c.in-Some.ensures.stan c.in-Some.ensures.sent
    c.args.left original c.requires.small c.requires.key_class

pub returns-in_default-clause-verdict : goal.returns-in_default-clause-verdict
returns-in_default-clause-verdict c = λ lines last.
    let m = c.args.message.now in
    sym (no_original m lines last (eq-eqb (class m) 4 c.requires.class) (sym c.in_default.ensures.some))

pub returns-then-not-is_original-clause-verdict : goal.returns-then-not-is_original-clause-verdict
returns-then-not-is_original-clause-verdict c = λ lines last.
    let m = c.args.message.now in
    let type : is_original (original_mti m) ≡ false = ap is_original (sym c.in-Some.ensures.named.mti) ∙ sym c.is_original.ensures ∙ c.if-not-is_original.true in
    sym (of_another_type m lines last (eq-eqb (class m) 4 c.requires.class) (sym c.in-Some.ensures.some) type)

pub returns-then-not-named-clause-verdict : goal.returns-then-not-named-clause-verdict
returns-then-not-named-clause-verdict c = λ lines last.
    let m = c.args.message.now in
    let type : is_original (original_mti m) ≡ true = ap is_original (sym c.in-Some.ensures.named.mti) ∙ sym c.is_original.ensures ∙ c.if-not-is_original.false in
    let own : is_own m ≡ false = sym c.in-Some.ensures.named.own ∙ turned c.in-Some.named.is_own true c.if-not-named.true in
    sym (of_another_acquirer m lines last (eq-eqb (class m) 4 c.requires.class) (sym c.in-Some.ensures.some) type own)

pub returns-clause-verdict : goal.returns-clause-verdict
returns-clause-verdict c = λ lines last.
    let m = c.args.message.now in
    let named = c.in-Some.ensures.named in
    let type : is_original (original_mti m) ≡ true = ap is_original (sym named.mti) ∙ sym c.is_original.ensures ∙ c.if-not-is_original.false in
    let own : is_own m ≡ true = sym named.own ∙ turned c.in-Some.named.is_own false c.if-not-named.false in
    rw (c.valid.ensures, c.requires.key, named.key, c.requires.left) refl ∙ sym (with_original m lines last (eq-eqb (class m) 4 c.requires.class) (sym c.in-Some.ensures.some) type own)
