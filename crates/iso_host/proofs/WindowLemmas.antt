-- A window that goes past its first bytes.
use Rattle.std.proofs.Common.{◌≡◌, ℕ, ◌+◌, ◌-◌, ◌≤◌, List, ◌++◌, take, drop, sym, ap, ◌∙◌, arith, Some, None, append_assoc, take-append-drop}
use Rattle.std.proofs.KnownBytes.{Consumes-trans}
use Rattle.std.specs.declared.option.Option.{Option}
use Rattle.std.specs.Io.KnownBytes.{Consumes, prepend_known}
use Rattle.std.proofs.lemmas.List.{drop-drop, drop-take}

pub passed : (bytes : List ℕ) (start end count : ℕ) → start + count ≤ end → take (end - (start + count)) (drop (start + count) bytes) ≡ drop count (take (end - start) (drop start bytes))
passed bytes start end count h =
    let size : end - start ≡ count + (end - (start + count)) = omega arith in
    ap (take (end - (start + count))) (sym (drop-drop count start bytes))
    ∙ sym (drop-take count (end - (start + count)) (drop start bytes))
    ∙ ap (λ n. drop count (take n (drop start bytes))) (sym size)

-- the window's first bytes are taken
pub passes : (r : Option (List ℕ)) (w : List ℕ) (n : ℕ) → Consumes (prepend_known w r) (prepend_known (drop n w) r) (take n w)
passes None w n = tt
passes (Some xs) w n = ap (λ l. l ++ xs) (sym (take-append-drop n w)) ∙ append_assoc (take n w) (drop n w) xs

pub took_more : (a r : Option (List ℕ)) (w t : List ℕ) (n : ℕ) → Consumes a (prepend_known w r) t → Consumes a (prepend_known (drop n w) r) (t ++ take n w)
took_more a r w t n taken = Consumes-trans a (prepend_known w r) (prepend_known (drop n w) r) t (take n w) taken (passes r w n)
