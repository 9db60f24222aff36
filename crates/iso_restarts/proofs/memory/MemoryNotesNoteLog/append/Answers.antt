use Rattle.std.proofs.Common.{◌∙◌, ◌++◌, [], ◌∷◌, List, ap, take}
use Rattle.iso_restarts.specs.declared.note.Note.{Note}
use Rattle.iso_restarts.proofs.Written.{front-more}
use Rattle.iso_restarts.proofs.memory.MemoryNotesNoteLog.append.Goals as goal

pub returns-in-Err-clause-crash : goal.returns-in-Err-clause-crash
returns-in-Err-clause-crash c = λ ready kept left.
    let now = c.args.self.now in
    let more = front-more now.waiting.items (c.args.note ∷ []) left.0 in
    (more.0, left.1 ∙ ap (λ (l : List Note). now.kept.items ++ take left.0 l) c.in-Err.ensures.items ∙ ap (λ (l : List Note). now.kept.items ++ l) more.1)
