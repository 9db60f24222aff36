use Rattle.std.proofs.Common.{◌≡◌, ◌<◌, ◌≤◌, ℕ, Bool, true, false, List, [], ◌∷◌, ◌++◌, length, if◌then◌else◌, refl, sym, ◌∙◌, arith}
use Rattle.iso_meaning.specs.declared.chip.Item.{Item}
use Rattle.iso_meaning.specs.Chip.{next, Follow}
use Rattle.iso_meaning.proofs.chip.items.Goals as goal

-- a further object
one_more : (size from at : ℕ) (ps : List Item) (p : Item) → Follow size from at ps → p.start ≡ at → at < p.value → p.value ≤ p.end → p.end ≤ size → Follow size from (next p) (ps ++ p ∷ [])
one_more size from at [] p f start value end within = (start ∙ sym f, rw f value, end, within, refl)
one_more size from at (q ∷ ps) p f start value end within = (f.0, f.1, f.2, f.3, one_more size (next q) at ps p f.4 start value end within)

-- a value or what is behind it, both within
within_either : (b : Bool) (value end size : ℕ) → value ≤ end → end ≤ size → (if b then value else end) ≤ size
within_either true value end size low high = omega arith
within_either false value end size low high = high

-- a value or what is behind it, both behind a place
behind_either : (b : Bool) (at value end : ℕ) → at < value → value ≤ end → at < (if b then value else end)
behind_either true at value end low high = low
behind_either false at value end low high = omega arith

pub loop-at-preserved : goal.loop-at-preserved
loop-at-preserved c =
    let size = length c.args.bytes.now in
    let item = c.in_ok-item.item in
    let is = c.in_ok-item.ensures in
    let inside : item.end ≤ size = omega (arith, is.within, c.innermost.ensures) in
    rw (c.next-at.ensures, c.in_ok-push.ensures.items) record {
      low = within_either item.is_template item.value item.end size is.end inside;
      so_far = one_more size 0 c.loop-at.at c.loop-at.items.items item c.loop-at.invariant.so_far is.start is.value is.end inside;
    }
