use Rattle.std.proofs.Common.{◌≡◌, ℕ, ◌+◌, true, false, cond, ltb, List, drop, Result, Ok, Err, ap, sym, ◌∙◌}
use Rattle.std.proofs.lemmas.Bool.{lt-ltb, le-ltb, leb-true}
use Rattle.std.proofs.lemmas.Result.{err_from_is_err_and}
use Rattle.iso_parts.specs.Bitmap.{map_size}
use Rattle.iso_parts.specs.BitmapReading.{top}
use Rattle.iso_table.specs.Layout.{Layout}
use Rattle.iso_wire.specs.declared.fault.UnpackFault.{UnpackFault}
use Rattle.iso_wire.specs.Reading.{◌>>=◌, primary_at, secondary_at, words_by, words_at}
use Rattle.iso_wire.proofs.front.words_of.Goals as goal

abbrev Words : Type 0
Words = Result (ℕ × ℕ × ℕ) UnpackFault

no_primary : (t : Layout) (at : ℕ) (b : List ℕ) (e : UnpackFault) → ◌≡◌ {A = Result ℕ UnpackFault} (Err e) (primary_at t at b) → ◌≡◌ {A = Words} (Err e) (words_at t at b)
no_primary t at b e first = ap (λ (r : Result ℕ UnpackFault). r >>= words_by t at b) first

one_word : (t : Layout) (at : ℕ) (b : List ℕ) (p size : ℕ) → size ≡ map_size t.bitmap → Ok p ≡ primary_at t at b → ltb p top ≡ true → ◌≡◌ {A = Words} (Ok (p, 0, size)) (words_at t at b)
one_word t at b p size is first small =
    ap (λ (k : ℕ). Ok (p, 0, k)) is
    ∙ sym (ap (λ c. cond c (Ok (p, 0, map_size t.bitmap)) (secondary_at t (at + map_size t.bitmap) (drop (map_size t.bitmap) b) >>= λ s. Ok (p, s, map_size t.bitmap + map_size t.bitmap))) small)
    ∙ ap (λ (r : Result ℕ UnpackFault). r >>= words_by t at b) first

-- behind a primary bitmap that tells another
second_word : (t : Layout) (at : ℕ) (b : List ℕ) (p size : ℕ) (second : Result ℕ UnpackFault) → size ≡ map_size t.bitmap → Ok p ≡ primary_at t at b → ltb p top ≡ false → second ≡ secondary_at t (at + size) (drop size b)
    → ◌≡◌ {A = Words} (second >>= λ s. Ok (p, s, size + size)) (words_at t at b)
second_word t at b p size second is first large read =
    ap (λ (r : Result ℕ UnpackFault). r >>= λ s. Ok (p, s, size + size)) read
    ∙ ap (λ (k : ℕ). secondary_at t (at + k) (drop k b) >>= λ s. Ok (p, s, k + k)) is
    ∙ sym (ap (λ c. cond c (Ok (p, 0, map_size t.bitmap)) (secondary_at t (at + map_size t.bitmap) (drop (map_size t.bitmap) b) >>= λ s. Ok (p, s, map_size t.bitmap + map_size t.bitmap))) large)
    ∙ ap (λ (r : Result ℕ UnpackFault). r >>= words_by t at b) first

pub returns-in_err-primary-clause-exact : goal.returns-in_err-primary-clause-exact
returns-in_err-primary-clause-exact c =
    let p = err_from_is_err_and c.from_residual.result c.from_residual.ensures.1 in
    rw (p.1, p.2) (no_primary c.args.table.now c.args.at c.args.bytes.now c.in_err-primary.field-0.0 c.in_err-primary.ensures.exact)

pub returns-then-not-tells_another-clause-exact : goal.returns-then-not-tells_another-clause-exact
returns-then-not-tells_another-clause-exact c =
    let small = lt-ltb c.in_ok-primary.primary top (c.tells_another.ensures.low c.if-not-tells_another.true) in
    one_word c.args.table.now c.args.at c.args.bytes.now c.in_ok-primary.primary c.size-size.result (c.size-size.ensures ∙ ap map_size c.bitmap.ensures) c.in_ok-primary.ensures.exact small

pub returns-in_err-secondary-clause-exact : goal.returns-in_err-secondary-clause-exact
returns-in_err-secondary-clause-exact c =
    let large = le-ltb c.in_ok-primary.primary top (leb-true top c.in_ok-primary.primary (sym c.tells_another.ensures.exact ∙ c.if-not-tells_another.false)) in
    let p = err_from_is_err_and c.from_residual-in_err-secondary.result c.from_residual-in_err-secondary.ensures.1 in
    rw (p.1, p.2) (second_word c.args.table.now c.args.at c.args.bytes.now c.in_ok-primary.primary c.size-size.result (Err c.in_err-secondary.field-0.0) (c.size-size.ensures ∙ ap map_size c.bitmap.ensures) c.in_ok-primary.ensures.exact large
    (c.in_err-secondary.ensures.exact ∙ ap (λ l. secondary_at c.args.table.now (c.args.at + c.size-size.result) l) c.split_at.ensures.back))

pub returns-clause-exact : goal.returns-clause-exact
returns-clause-exact c =
    let large = le-ltb c.in_ok-primary.primary top (leb-true top c.in_ok-primary.primary (sym c.tells_another.ensures.exact ∙ c.if-not-tells_another.false)) in
    second_word c.args.table.now c.args.at c.args.bytes.now c.in_ok-primary.primary c.size-size.result (Ok c.in_ok-secondary.secondary) (c.size-size.ensures ∙ ap map_size c.bitmap.ensures) c.in_ok-primary.ensures.exact large
    (c.in_ok-secondary.ensures.exact ∙ ap (λ l. secondary_at c.args.table.now (c.args.at + c.size-size.result) l) c.split_at.ensures.back)
