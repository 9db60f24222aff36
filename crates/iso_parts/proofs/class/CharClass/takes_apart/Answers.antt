use Rattle.std.proofs.Common.{sym, ap, ◌∙◌}
use Rattle.iso_parts.specs.declared.class.CharClass.{CharClass}
use Rattle.iso_parts.specs.Class.{is_in_class}
use Rattle.iso_parts.proofs.Judges.{bytes_in_class}
use Rattle.iso_parts.proofs.class.CharClass.takes_apart.Goals as goal

pub returns-in-B : goal.returns-in-B
returns-in-B c = sym (ap (λ (k : CharClass). is_in_class k c.args.value.now) c.in-B.is ∙ bytes_in_class c.args.value.now)
