-- The first refusal among elements is that of one element, and none before it is refused.
use Rattle.std.specs.Option.{option_or}
use Rattle.std.proofs.Common.{◌≡◌, ◌≢◌, ◌/◌, true, cond, eqb, List, [], ◌∷◌, Option, Some, None, refl, sym, ap, ◌∙◌, arith}
use Rattle.std.proofs.lemmas.Bool.Decides.{nat_tests}
use Rattle.iso_parts.specs.declared.spec.FieldSpec.{FieldSpec}
use Rattle.iso_table.specs.Layout.{Layout, row_at}
use Rattle.iso_wire.specs.declared.fault.PackFault.{PackFault}
use Rattle.iso_wire.specs.declared.fault.PackFault.TheVariants.{WrongVersion, Memory}
use Rattle.iso_wire.specs.Contents.{Contents}
use Rattle.iso_wire.specs.Refusal.{refused_by, first_refusal, message_refusal, IsFirstRefusal}
use Rattle.iso_wire.proofs.Orders.{Values}

first_refused : (rows : List (Option FieldSpec)) (es : Values) (e : PackFault) → first_refusal rows es ≡ Some e → IsFirstRefusal rows es e
first_refused rows [] e h = absurd cc
first_refused rows (x ∷ xs) e h = by (refused_by (row_at rows x.0) x.0 x.1) refl h (λ k. first_refused rows xs e k)
  where
    by : (o : Option PackFault) → refused_by (row_at rows x.0) x.0 x.1 ≡ o → option_or o (first_refusal rows xs) ≡ Some e
        → (first_refusal rows xs ≡ Some e → IsFirstRefusal rows xs e) → IsFirstRefusal rows (x ∷ xs) e
    by None is k behind =
        let rest = behind k in
        record {
          before = x ∷ rest.before;
          bad = rest.bad;
          behind = rest.behind;
          split = ap (λ (es : Values). x ∷ es) rest.split;
          taken = (is, rest.taken);
          refusal = rest.refusal;
        }
    by (Some y) is k behind = record { before = []; bad = x; behind = xs; split = refl; taken = tt; refusal = is ∙ k }

-- what a refused message of the table's version is refused for is the refusal of one element
pub refused_first : (t : Layout) (m : Contents) (e : PackFault) → (e ≢ Memory → message_refusal t m ≡ Some e)
    → e ≢ Memory → m.mti / 1000 ≡ t.version → IsFirstRefusal t.rows m.elements e
refused_first t m e h other version =
    let same : eqb (m.mti / 1000) t.version ≡ true = grind (arith, nat_tests) in
    first_refused t.rows m.elements e (sym (ap (λ b. cond b (first_refusal t.rows m.elements) (Some WrongVersion)) same) ∙ h other)
