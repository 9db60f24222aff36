-- The first rule that decides at a message.
use Rattle.std.proofs.Common.{◌≡◌, ℕ, ◌+◌, ◌<◌, suc, refl, sym, subst, arith, Bool, false, not, List, length, take, drop, get_or, position}
use Rattle.std.specs.Prelude.{Some, None}
use Rattle.std.specs.List.{position_or_len}
use Rattle.std.proofs.Math.Seq.{split_at}
use Rattle.std.proofs.lemmas.List.{get_or-take, length-take}
use Rattle.std.proofs.lemmas.List.Quantifiers.{position-Some}
use Rattle.std.proofs.lemmas.List.Sums.{fails_before_first, prefix_len-le-length}
use Rattle.std.proofs.lemmas.Grind.{common_steps}
use Rattle.iso_wire.specs.Contents.{Contents}
use Rattle.iso_script.specs.Behaving.{IsFirst, NoneDue}
use Rattle.iso_script.specs.Turns.{is_due}
use Rattle.iso_script.specs.declared.counted.Counted.{Counted}

module _ (rules : List Counted) (m : Contents) where
  abbrev is_for : Counted → Bool
  is_for c = is_due m c

  before : (i k : ℕ) (d : Counted) → position is_for rules ≡ Some i → k < length (take i rules) → is_for (get_or (take i rules) k d) ≡ false
  before i k d e below =
      let found = position-Some is_for rules i d e in
      let few : k < i = omega (arith, below, length-take i rules, found.0) in
      subst (λ (r : Counted). is_for r ≡ false) (sym (get_or-take i rules k d few)) (found.2 k few)

  pub first_is : (i : ℕ) (d : Counted) → position is_for rules ≡ Some i → IsFirst rules m (i + 1) (get_or rules i d).rule.deed
  first_is i d e =
      let found = position-Some is_for rules i d e in
      record {
        before = take i rules;
        decides = get_or rules i d;
        after = drop (suc i) rules;
        whole = split_at rules i d found.0;
        number_is = omega (arith, length-take i rules, found.0);
        deed_is = refl;
        due = found.1;
        none_before = λ k r below. before i k r e below;
      }

  pub none_is : position is_for rules ≡ None → NoneDue rules m
  none_is e k d below =
      let within = prefix_len-le-length (λ r. not (is_for r)) rules in
      let all : length rules ≡ position_or_len is_for rules = grind (arith, common_steps) in
      fails_before_first is_for rules k d (omega (arith, below, all))
