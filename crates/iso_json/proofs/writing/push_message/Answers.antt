use Rattle.std.proofs.Common.{ℕ, ◌++◌, ap, ◌∙◌}
use Rattle.std.specs.Prelude.{codes}
use Rattle.iso_parts.specs.Digits.{four_digits_of}
use Rattle.iso_parts.specs.declared.digits.Digits.TheVariants.{Ascii}
use Rattle.iso_json.specs.Written.{json_members}
use Rattle.iso_json.proofs.Pieces.{five_pieces}
use Rattle.iso_json.proofs.writing.push_message.Goals as goal

pub returns-clause-text : goal.returns-clause-text
returns-clause-text c =
    let body = json_members c.args.is_clear c.args.table.now.rows c.args.message.now.elements in
    let head = c.extend_from_slice.new.self.items in
    five_pieces c.args.out.now.items head c.push_digits.new.out.items c.extend_from_slice-2.new.self.items c.push_members.new.out.items c.extend_from_slice-3.new.self.items
    (codes "{\"mti\":\"") (four_digits_of Ascii c.args.message.now.mti) (codes "\",\"elements\":{") body (codes "}}")
    c.in_ok-extend_from_slice.ensures.items (c.in_ok-push_digits.ensures.text ∙ ap (λ (n : ℕ). head ++ four_digits_of Ascii n) c.mti.ensures)
    c.in_ok-extend_from_slice-2.ensures.items c.in_ok-push_members.ensures.text c.in_ok-extend_from_slice-3.ensures.items
