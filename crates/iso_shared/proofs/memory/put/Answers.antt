use Rattle.std.proofs.Common.{◌≡◌, ◌∙◌, Bool, true, false, List, [], ◌∷◌, ◌++◌, ℕ, ap, sym, append-nil}
use Rattle.std.specs.Prelude.{is_ok, if◌then◌else◌}
use Rattle.std.specs.declared.vec.Vec.{Vec}
use Rattle.std.specs.declared.alloc.Global.{Global}
use Rattle.std.proofs.lemmas.List.{map-append}
use Rattle.iso_shared.specs.Store.{Grows}
use Rattle.iso_shared.specs.Memory.{texts}
use Rattle.iso_shared.proofs.memory.put.Goals as goal

pushed : (old new : List (Vec ℕ Global)) (b : Vec ℕ Global) (ok : Bool) → new ≡ (if ok then old ++ b ∷ [] else old) → Grows (texts old) (texts new)
pushed old new b true e = (b.items ∷ [], ap texts e ∙ map-append (λ (v : Vec ℕ Global). v.items) old (b ∷ []))
pushed old new b false e = ([], ap texts e ∙ sym (append-nil (texts old)))

pub returns-then-place-len : goal.returns-then-place-len
returns-then-place-len c = pushed c.args.batches.now.items c.push.new.self.items c.args.bytes (is_ok c.push.result) c.push.ensures.items
