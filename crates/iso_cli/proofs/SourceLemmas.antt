-- What is read of a file.
use Rattle.std.proofs.Common.{◌≡◌, ℕ, ◌≤◌, List, [], ◌++◌, length, take, Option, Some, None, option_map, IfSome, sym, ap, ◌∙◌, arith, min}
use Rattle.std.proofs.lemmas.List.{length-take, take_min}
use Rattle.std.proofs.Math.Seq.{take-length}
use Rattle.iso_cli.specs.Source.{read_of}

-- a file of which no more is read than an input may have is read whole
pub read_of-short : (held : List ℕ) → length (read_of held) ≤ 1048576 → read_of held ≡ held
read_of-short held h =
    let size : min 1048577 (length held) ≡ length held = omega (arith, length-take 1048577 held) in
    sym (take_min 1048577 held) ∙ ap (λ n. take n held) size ∙ take-length held

-- the bytes to the limit, where the file's are known
pub front_known : (known : Option (List ℕ)) (limit : ℕ) (before bytes : List ℕ) → limit ≡ 1048577 → before ≡ []
    → IfSome (option_map (take limit) known) (λ front. bytes ≡ before ++ front) → IfSome known (λ held. bytes ≡ read_of held)
front_known None limit before bytes l b h = h
front_known (Some held) limit before bytes l b h = h ∙ ap (λ xs. xs ++ take limit held) b ∙ ap (λ n. take n held) l
