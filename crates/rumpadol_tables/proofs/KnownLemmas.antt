-- Documents whose bytes are known.
use Rattle.std.proofs.Common.{Result, Ok, Err, IfOk, IfErr, OnOk, ◌≡◌, ℕ, ◌≤◌, ◌<◌, List, [], ◌++◌, length, take, Option, Some, None, option_map, IfSome, sym, ap, subst, ◌∙◌, arith, min}
use Rattle.std.proofs.lemmas.List.{length-take, take_min}
use Rattle.std.proofs.Math.Seq.{take-length}
use Rattle.std.specs.Prelude.{Vec}
use Rattle.rumpadol_tables.specs.Source.{read_of}
use Rattle.rumpadol_tables.specs.Stop.{status_of}
use Rattle.rumpadol_tables.specs.declared.stop.Stop.{Stop}

-- a document of which no more is read than one may have is read whole
pub read_of-short : (held : List ℕ) → length (read_of held) ≤ 1048576 → read_of held ≡ held
read_of-short held h =
    let size : min 1048577 (length held) ≡ length held = omega (arith, length-take 1048577 held) in
    sym (take_min 1048577 held) ∙ ap (λ n. take n held) size ∙ take-length held

-- the bytes to the limit, where the reader's are known
pub front_known : (known : Option (List ℕ)) (limit : ℕ) (before bytes : List ℕ) → limit ≡ 1048577 → before ≡ []
    → IfSome (option_map (take limit) known) (λ front. bytes ≡ before ++ front) → IfSome known (λ held. bytes ≡ read_of held)
front_known None limit before bytes l b h = h
front_known (Some held) limit before bytes l b h = h ∙ ap (λ xs. xs ++ take limit held) b ∙ ap (λ n. take n held) l

-- a document that isn't too long is what was read of it
pub known_whole : (known : Option (List ℕ)) (bytes : List ℕ) → IfSome known (λ held. bytes ≡ read_of held) → length bytes ≤ 1048576 → IfSome known (λ held. held ≡ bytes)
known_whole None bytes same short = tt
known_whole (Some held) bytes same short = sym (same ∙ read_of-short held (subst (λ (l : List ℕ). length l ≤ 1048576) same short))

-- a document of which more bytes were read than one may have is too long
pub known_long : (known : Option (List ℕ)) (bytes : List ℕ) → IfSome known (λ held. bytes ≡ read_of held) → 1048576 < length bytes → IfSome known (λ held. 1048576 < length held)
known_long None bytes same long = tt
known_long (Some held) bytes same long = omega (arith, long, ap length same, length-take 1048577 held)

-- a document that was read and isn't too long is kept as it is
pub kept_whole : {A E : Type 0} (r : Result (Vec ℕ A) E) (text : Vec ℕ A) (known : Option (List ℕ)) → IfSome known (λ held. text.items ≡ read_of held)
    → IfOk r (λ same. (same ≡ text) × (length text.items ≤ 1048576)) → IfOk r (λ same. IfSome known (λ held. held ≡ same.items))
kept_whole (Ok same) text known read (is, short) = subst (λ (t : Vec ℕ _). IfSome known (λ held. held ≡ t.items)) (sym is) (known_whole known text.items read short)
kept_whole (Err e) text known read h = tt

-- and one that is refused for its length is too long
pub refused_long : {A : Type 0} (r : Result (Vec ℕ A) Stop) (text : Vec ℕ A) (known : Option (List ℕ)) → IfSome known (λ held. text.items ≡ read_of held)
    → IfErr r (λ stop. status_of stop ≡ 1 → 1048576 < length text.items) → IfErr r (λ stop. status_of stop ≡ 1 → IfSome known (λ held. 1048576 < length held))
refused_long (Ok same) text known read h = tt
refused_long (Err stop) text known read h = λ one. known_long known text.items read (h one)

-- what follows where a step went well
pub where_ok : {E : Type 0} (r : Result Unit E) (P Q : Type 0) → (P → Q) → OnOk r P → OnOk r Q
where_ok (Ok u) P Q f p = f p
where_ok (Err e) P Q f p = tt
