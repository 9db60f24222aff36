-- The line is `USED=`, both counts in decimal with a slash between them, and its end.
use Rattle.std.proofs.Common.{◌≡◌, ℕ, List, [], ◌∷◌, ◌++◌, append_assoc, refl}
use Rattle.std.specs.Prelude.{codes}
use Rattle.iso_wire.proofs.describing.push_used.Goals as goal

five_pieces : (old one two three four new a b c d e : List ℕ) → one ≡ old ++ a → two ≡ one ++ b → three ≡ two ++ c → four ≡ three ++ d → new ≡ four ++ e → new ≡ old ++ (a ++ (b ++ (c ++ (d ++ e))))
five_pieces old one two three four new a b c d e p q r s t = rw (t, s, r, q, p) (simp append_assoc)

pub returns-clause-ok : goal.returns-clause-ok
returns-clause-ok c =
    let used = c.in_ok-push_number.ensures.ok in
    let total = c.in_ok-push_number-2.ensures.ok in (
      codes "USED=" ++ (used.0 ++ (47 ∷ total.0 ++ 10 ∷ [])),
      (used.0, total.0, used.1, total.1, refl),
      five_pieces c.args.out.now.items c.extend_from_slice.new.self.items c.push_number.new.out.items c.extend_from_slice-2.new.self.items c.push_number-2.new.out.items c.extend_from_slice-3.new.self.items
          (codes "USED=") used.0 (47 ∷ []) total.0 (10 ∷ []) c.in_ok-extend_from_slice.ensures.items used.2 c.in_ok-extend_from_slice-2.ensures.items total.2 c.in_ok-extend_from_slice-3.ensures.items,
    )
