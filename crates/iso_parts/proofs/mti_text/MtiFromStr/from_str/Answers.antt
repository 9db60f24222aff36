use Rattle.std.proofs.Common.{rules, ◌≡◌, ◌∙◌, ℕ, Some, sym, ap}
use Rattle.iso_parts.specs.Mti.{digits, digits_in}
use Rattle.iso_parts.proofs.MtiTexts.{text_read, read_text}
use Rattle.iso_parts.proofs.mti_text.MtiFromStr.from_str.Goals as goal

pub returns-in-Some : goal.returns-in-Some
returns-in-Some c =
    let text = c.args.text.now in
    let m = c.in-Some.mti in
    let read : digits_in text ≡ Some (digits m) = search rules in
    record {
      read = read;
      written = λ n. (
        λ e. read_text text n (read ∙ ap (λ (q : ℕ × ℕ × ℕ × ℕ). Some q) e),
        λ e. let again : Some (digits m) ≡ Some (digits n) = sym read ∙ ap digits_in e ∙ text_read n in cc,
      );
    }
