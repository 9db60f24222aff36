use Rattle.std.proofs.Common.{ℕ, Option, ap, ◌∙◌}
use Rattle.iso_parts.specs.Bitmap.{contains}
use Rattle.iso_json.specs.Heard.{seen_with}
use Rattle.iso_json.specs.Texts.{number_of}
use Rattle.iso_json.proofs.EntryLemmas.{seen_also}
use Rattle.iso_json.proofs.entries.read_entry.Goals as goal

pub returns-clause-seen : goal.returns-clause-seen
returns-clause-seen c =
    seen_also c.args.seen.now c.set.new.self c.in-Some.n c.set.ensures.added c.set.ensures.others
    ∙ ap (λ (o : Option ℕ). seen_with o (contains c.args.seen.now)) (c.in-Some.ensures ∙ ap number_of c.as_bytes.ensures.value)
