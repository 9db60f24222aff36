-- The values of a message that is viewed, and what its body tells.
use Rattle.std.proofs.Common.{◌≡◌, ℕ, ◌-◌, ◌*◌, Bool, true, false, refl, ap, sym, subst, ◌∙◌, List, [], ◌∷◌, ◌++◌, length, take, drop, append-nil, eq-eqb, eqb, cond, Option, Some, None, Result, Ok, Err}
use Rattle.std.specs.Prelude.{unwrap_or, IfOk, if◌then◌else◌}
use Rattle.std.proofs.Math.Seq.{take-length}
use Rattle.iso_parts.specs.declared.spec.FieldSpec.{FieldSpec}
use Rattle.iso_parts.specs.Part.{Part, Body, characters}
use Rattle.iso_parts.specs.PartLaws.{PartLaws}
use Rattle.iso_parts.specs.Reading.{got, prefix_size, part_at}
use Rattle.iso_table.specs.Layout.{Layout, row_at, AreGood}
use Rattle.iso_wire.specs.Contents.{Contents}
use Rattle.iso_wire.specs.Elements.{value_in}
use Rattle.iso_wire.specs.Reading.{message_at, whole}
use Rattle.iso_wire.specs.Viewing.{ViewContents, Views, SpellsBodies, front_of}
use Rattle.iso_wire.specs.ViewLaws.{ViewLaws}
use Rattle.iso_order.specs.declared.told.Told.{Told}
use Rattle.std.proofs.lemmas.Bool.{eqb-true}
use Rattle.iso_wire.specs.Decimal.{number, number_in}
use Rattle.iso_exchange.specs.Packed.{IsPacked}
use Rattle.iso_exchange.specs.Plain.{IsPlain}
use Rattle.iso_exchange.proofs.Packs.{packed-digits, packed-number}
use Rattle.iso_order.specs.Fields.{text}
use Rattle.iso_order.specs.Told.{told_of}
use Rattle.iso_exchange.specs.Answer.{told_by, told_in}

abbrev Values : Type 0
Values = List (ℕ × List ℕ)

same-message : (m : Contents) (n : ℕ) (o : Contents) (k : ℕ) → whole m n ≡ whole o k → m ≡ o
same-message m n o k h = let pair : (m, n) ≡ (o, k) = cc in ap (λ (p : Contents × ℕ). p.0) pair

-- what follows of a value that is answered follows of the answer
pub if-ok : {T E : Type 0} (P Q : T → Type 0) (r : Result T E) → ((x : T) → P x → Q x) → IfOk r P → IfOk r Q
if-ok P Q (Ok x) f h = f x h
if-ok P Q (Err e) f h = tt

some-row : (s k : FieldSpec) → Some s ≡ Some k → s ≡ k
some-row s k h = cc

-- the value of an element whose body is there
record IsWired (rows : List (Option FieldSpec)) (es : Values) (n : ℕ) (body : List ℕ) : Type 0 where
  value : List ℕ
  row : FieldSpec
  there : value_in es n ≡ Some value
  is : row_at rows n ≡ Some row
  wired : Body row value body

some-body : (x w : List ℕ) → Some x ≡ Some w → x ≡ w
some-body x w h = cc

wired-body : (rows : List (Option FieldSpec)) (es ws : Values) (b : List ℕ) (n : ℕ) (body : List ℕ) → SpellsBodies rows es ws b → value_in ws n ≡ Some body → IsWired rows es n body
wired-body rows [] [] b n body wired there = absurd cc
wired-body rows [] (w ∷ ws) b n body wired there = absurd wired
wired-body rows (e ∷ es) [] b n body wired there = absurd wired
wired-body rows (e ∷ es) (w ∷ ws) b n body wired there = go (eqb w.0 n) refl there (λ later. wired-body rows es ws wired.1 n body wired.6 later)
  where
    go : (is : Bool) → eqb w.0 n ≡ is → cond is (Some w.1) (value_in ws n) ≡ Some body → (value_in ws n ≡ Some body → IsWired rows es n body) → IsWired rows (e ∷ es) n body
    go true is found later =
        let own : e.0 ≡ n = sym wired.3 ∙ eqb-true w.0 n is in
        let same : eqb e.0 n ≡ true = subst (λ (k : ℕ). eqb k n ≡ true) wired.3 is in
        record {
          value = e.1;
          row = wired.0;
          there = ap (λ (t : Bool). cond t (Some e.1) (value_in es n)) same;
          is = ap (row_at rows) (sym own) ∙ wired.2;
          wired = subst (λ (x : List ℕ). Body wired.0 e.1 x) (some-body w.1 body found) wired.4;
        }
    go false is found later =
        let other : eqb e.0 n ≡ false = subst (λ (k : ℕ). eqb k n ≡ false) wired.3 is in
        let rest = later found in
        record {
          value = rest.value;
          row = rest.row;
          there = ap (λ (t : Bool). cond t (Some e.1) (value_in es n)) other ∙ rest.there;
          is = rest.is;
          wired = rest.wired;
        }

module _ (t : Layout) (v : ViewContents) (b : List ℕ) (views : Views t b (Ok v) (message_at t b)) (all : v.used ≡ length b) where
  -- the message that is viewed
  abbrev pub viewed : Contents
  viewed = record { mti = v.mti; elements = views.0 }

  pub viewed-is : (m : Contents) (size : ℕ) → message_at t b ≡ whole m size → m ≡ viewed
  viewed-is m size h = same-message m size viewed v.used (sym h ∙ views.2)

  parts-lie : drop views.1 b ≡ drop views.1 (take v.used b) ++ []
  parts-lie =
      let whole-body : take v.used b ≡ b = ap (λ (k : ℕ). take k b) all ∙ take-length b in
      ap (drop views.1) (sym whole-body) ∙ sym (append-nil (drop views.1 (take v.used b)))

  -- an element whose body isn't there has no text
  pub no-text : ViewLaws → (n : ℕ) (m : Contents) (size : ℕ) → message_at t b ≡ whole m size → value_in v.wires n ≡ None → [] ≡ text m n
  no-text bodies n m size h none =
      let absent : value_in views.0 n ≡ None = bodies.absent t.rows views.0 v.wires (drop views.1 (take v.used b)) n views.3 none in
      sym (ap (λ (m : Contents). text m n) (viewed-is m size h) ∙ ap (λ (o : Option (List ℕ)). unwrap_or o []) absent)

  -- in front of its body the text is read
  pub text-read : PartLaws → ViewLaws → AreGood t.rows → (n start : ℕ) (s : FieldSpec) (m : Contents) (size : ℕ) → message_at t b ≡ whole m size → value_in v.starts n ≡ Some start
      → row_at t.rows n ≡ Some s → (used : ℕ) × (part_at s (drop (start - prefix_size s.length) b) ≡ got (text m n) used)
  text-read laws bodies good n start s m size h there row =
      let found = bodies.there t.rows n b views.0 v.wires views.1 start (drop views.1 (take v.used b)) [] views.3 parts-lie (ap (λ (l : List (ℕ × ℕ)). value_in l n) (sym views.5) ∙ there) in
      let own : found.is.0 ≡ s = some-row found.is.0 s (sym found.is.1 ∙ row) in
      let part : Part s found.value found.part = subst (λ (k : FieldSpec). Part k found.value found.part) own found.is.2 in
      let place : start - prefix_size s.length ≡ start - front_of (row_at t.rows n) = ap (λ (r : Option FieldSpec). start - front_of r) (sym row) in
      let read : part_at s (drop (start - prefix_size s.length) b) ≡ got found.value (length found.part) =
      ap (part_at s) (ap (λ (k : ℕ). drop k b) place ∙ found.lies) ∙ laws.again s found.value found.part found.behind (good n s row) part in
      let value : text m n ≡ found.value = ap (λ (m : Contents). text m n) (viewed-is m size h) ∙ ap (λ (o : Option (List ℕ)). unwrap_or o []) found.there in
      (length found.part, read ∙ ap (λ (w : List ℕ). got w (length found.part)) (sym value))

  -- where its body is there, it has a row
  pub row-there : ViewLaws → (n start : ℕ) → value_in v.starts n ≡ Some start → row_at t.rows n ≡ None → ⊥
  row-there bodies n start there none =
      let found = bodies.there t.rows n b views.0 v.wires views.1 start (drop views.1 (take v.used b)) [] views.3 parts-lie (ap (λ (l : List (ℕ × ℕ)). value_in l n) (sym views.5) ∙ there) in
      absurd (let both : Some found.is.0 ≡ None = sym found.is.1 ∙ none in cc)

  -- what all of the bytes tell is what the message tells
  pub told-all : (told : Option Told) → ((m : Contents) (size : ℕ) → message_at t b ≡ whole m size → m.mti ≡ v.mti → told ≡ told_of m) → told ≡ told_in t b
  told-all told h =
      h viewed v.used views.2 refl
      ∙ sym (ap (told_by (length b)) views.2 ∙ ap (λ (is : Bool). if is then told_of viewed else None) (eq-eqb v.used (length b) all))

  -- packed digits are read where they lie
  pub packed-read : (n bytes : ℕ) (s : FieldSpec) (body : List ℕ) (k : ℕ) (m : Contents) (size : ℕ) → message_at t b ≡ whole m size → value_in v.wires n ≡ Some body
      → Some s ≡ row_at t.rows n → IsPacked s bytes → k ≡ number (characters body) → Some k ≡ number_in (2 * bytes) (2 * bytes) (text m n)
  packed-read n bytes s body k m size h there row is told =
      let found = wired-body t.rows views.0 v.wires (drop views.1 (take v.used b)) n body views.3 there in
      let own : found.row ≡ s = some-row found.row s (sym found.is ∙ sym row) in
      let facts = packed-digits s bytes found.value body is (subst (λ (r : FieldSpec). Body r found.value body) own found.wired) in
      let value : found.value ≡ text m n = sym (ap (λ (m : Contents). text m n) (viewed-is m size h) ∙ ap (λ (o : Option (List ℕ)). unwrap_or o []) found.there) in
      packed-number bytes k found.value facts.1 facts.2 (told ∙ ap number facts.0) ∙ ap (number_in (2 * bytes) (2 * bytes)) value

  -- where the characters are the bytes themselves, with no padding, the body is the text
  pub plain-read : (n : ℕ) (s : FieldSpec) (body : List ℕ) (m : Contents) (size : ℕ) → message_at t b ≡ whole m size → value_in v.wires n ≡ Some body
      → Some s ≡ row_at t.rows n → IsPlain s → body ≡ text m n
  plain-read n s body m size h there row is =
      let found = wired-body t.rows views.0 v.wires (drop views.1 (take v.used b)) n body views.3 there in
      let own : found.row ≡ s = some-row found.row s (sym found.is ∙ sym row) in
      let whole-body : Body s found.value body = subst (λ (r : FieldSpec). Body r found.value body) own found.wired in
      let value : found.value ≡ text m n = sym (ap (λ (m : Contents). text m n) (viewed-is m size h) ∙ ap (λ (o : Option (List ℕ)). unwrap_or o []) found.there) in
      (rw (is.coding, is.pad) at whole-body.1) ∙ value
