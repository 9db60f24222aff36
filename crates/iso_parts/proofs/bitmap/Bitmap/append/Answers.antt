use Rattle.std.proofs.Common.{◌≡◌, ◌++◌, ◌==◌, ◌⊎◌, ℕ, Bool, true, List, take, refl, ap, subst, ◌∙◌, inl, inr, arith}
use Rattle.std.proofs.lemmas.Bool.Decides.{nat_tests}
use Rattle.std.proofs.lemmas.Result.{on_ok_weaker}
use Rattle.hex.specs.Hex.{IsBytes}
use Rattle.iso_parts.specs.Bitmap.{contains, PlainBitmaps, HasAbove, in_coding}
use Rattle.iso_parts.proofs.PlainBitmaps.{plain_maps}
use Rattle.iso_parts.proofs.bitmap.Bitmap.append.Goals as goal

needed : (used : ℕ) (set : ℕ → Bool) → ((used ≡ 8) ⊎ ((used ≡ 16) × HasAbove set)) → (used == 16) ≡ true → HasAbove set
needed used set (inl eight) is = absurd (grind (arith, nat_tests))
needed used set (inr both) is = both.1

pub returns-clause-ok : goal.returns-clause-ok
returns-clause-ok c =
    let set = contains c.args.self.now in
    let used = c.write_raw-used.result in
    let maps = take used c.write_raw-used.new.out in
    let front : c.split_at.result.0.now ≡ maps = c.split_at.ensures.front ∙ ap (take used) c.as_slice.ensures in
    let fits : IsBytes maps = subst IsBytes front c.append.ensures.bytes in
    let plain : PlainBitmaps c.args.coding set (in_coding c.args.coding maps) = record {
      two = used == 16;
      raw = maps;
      fits = fits;
      maps = c.write_raw-used.ensures.bytes;
      needed = needed used set c.write_raw-used.ensures.used;
      bytes = refl;
      spelled = plain_maps c.args.coding (used == 16) set maps fits c.write_raw-used.ensures.bytes;
    } in
    on_ok_weaker c.append.result (λ is. (in_coding c.args.coding maps, plain, is ∙ ap (λ (l : List ℕ). c.args.out.now.items ++ in_coding c.args.coding l) front)) c.append.ensures.ok
