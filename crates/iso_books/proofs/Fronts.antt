-- The record at the front of a file.
use Rattle.std.proofs.Common.{◌≡◌, ◌∙◌, ◌≤◌, ℕ, zero, suc, ◌+◌, ◌*◌, ◌/◌, Bool, true, false, refl, sym, ap, subst, arith, List, [], ◌∷◌, ◌++◌, length, take, drop, Option, Some, None, IfSome, length-drop, length-append, drop-drop}
use Rattle.std.proofs.lemmas.List.{take-append-le}
use Rattle.std.specs.Prelude.{if◌then◌else◌}
use Rattle.std.specs.List.{list_all}
use Rattle.iso_log.specs.Slots.{is_whole, slot, records_from, records_of}
use Rattle.iso_books.specs.Records.{is_zero, is_clear, FrontIs, first_of}

slot_behind : (j : ℕ) (file : List ℕ) → slot file (j + 1) ≡ slot (drop 128 file) j
slot_behind j file =
    let at : 128 * (j + 1) ≡ 128 + 128 * j = omega arith in
    ap (λ n. take 128 (drop n file)) at ∙ ap (take 128) (sym (drop-drop (128 * j) 128 file))

-- the records from the next slot on are those of the file without its first slot
records_behind : (n j : ℕ) (file : List ℕ) → records_from n (j + 1) file ≡ records_from n j (drop 128 file)
records_behind zero j file = refl
records_behind (suc n) j file =
    ap (λ (s : List ℕ). if is_whole s then s ∷ records_from n (j + 1 + 1) file else []) (slot_behind j file)
    ∙ ap (λ (rest : List (List ℕ)). if is_whole (slot (drop 128 file) j) then slot (drop 128 file) j ∷ rest else []) (records_behind n (j + 1) file)

-- a whole record at the front
pub records_taken : (file : List ℕ) → 128 ≤ length file → is_whole (take 128 file) ≡ true → records_of file ≡ take 128 file ∷ records_of (drop 128 file)
records_taken file long whole =
    let rest = drop 128 file in
    let size : length file / 128 ≡ suc (length rest / 128) = omega (arith, long, length-drop 128 file) in
    ap (λ n. records_from n 0 file) size
    ∙ ap (λ (w : Bool). if w then take 128 file ∷ records_from (length rest / 128) 1 file else []) whole
    ∙ ap (λ (rs : List (List ℕ)). take 128 file ∷ rs) (records_behind (length rest / 128) 0 file)

pub clear_taken : (file : List ℕ) (bytes : List ℕ) → records_of file ≡ bytes ∷ records_of (drop 128 file) → is_clear file ≡ is_clear (drop 128 file)
clear_taken file bytes is =
    let rest = drop 128 file in
    let count : 128 * length (records_of file) ≡ 128 + 128 * length (records_of rest) = omega (arith, ap length is) in
    ap (λ n. list_all is_zero (drop n file)) count ∙ ap (list_all is_zero) (sym (drop-drop (128 * length (records_of rest)) 128 file))

-- no whole record at the front
pub no_record : (file : List ℕ) → 128 ≤ length file → is_whole (take 128 file) ≡ false → records_of file ≡ []
no_record file long torn =
    let rest = drop 128 file in
    let size : length file / 128 ≡ suc (length rest / 128) = omega (arith, long, length-drop 128 file) in
    ap (λ n. records_from n 0 file) size
    ∙ ap (λ (w : Bool). if w then take 128 file ∷ records_from (length rest / 128) 1 file else []) torn

pub clear_alone : (file : List ℕ) → records_of file ≡ [] → is_clear file ≡ list_all is_zero file
clear_alone file none =
    let at : 128 * length (records_of file) ≡ 0 = omega (arith, ap length none) in
    ap (λ n. list_all is_zero (drop n file)) at

front_by : (file : List ℕ) → 128 ≤ length file → (whole : Bool) → is_whole (take 128 file) ≡ whole → FrontIs (if whole then Some (take 128 file) else None) file
front_by file long true is =
    let taken = records_taken file long is in
    record {
      records = taken;
      clear = clear_taken file (take 128 file) taken;
    }
front_by file long false is = let none = no_record file long is in (none, clear_alone file none)

-- what stands at the front of a file is told by its first bytes
pub front_is : (file : List ℕ) → 128 ≤ length file → FrontIs (first_of file) file
front_is file long = front_by file long (is_whole (take 128 file)) refl

-- the held bytes are its front
pub front_held : (held : List ℕ) (found ahead : Option (List ℕ)) → 128 ≤ length held → found ≡ first_of held
    → IfSome ahead (λ all. (rest : List ℕ) × (all ≡ held ++ rest)) → IfSome ahead (FrontIs found)
front_held held found None long is front = tt
front_held held found (Some all) long is front =
    let same : take 128 all ≡ take 128 held = ap (take 128) front.1 ∙ take-append-le 128 held front.0 long in
    let all_long : 128 ≤ length all = omega (arith, long, ap length front.1, length-append held front.0) in
    let told : found ≡ first_of all = is ∙ ap (λ (b : List ℕ). if is_whole b then Some b else None) (sym same) in
    subst (λ (o : Option (List ℕ)). FrontIs o all) (sym told) (front_is all all_long)
