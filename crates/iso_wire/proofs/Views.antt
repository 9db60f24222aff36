-- A view is of the message that reading gives, and its bodies are those of the spelling at the front.
use Rattle.std.proofs.Common.{◌≡◌, ◌≢◌, ℕ, ◌+◌, ◌-◌, ◌≤◌, List, [], ◌∷◌, ◌++◌, length, take, drop, Option, Some, Result, Ok, Err, refl, sym, ap, subst, ◌∙◌, append_assoc, arith, inl, inr}
use Rattle.std.proofs.lemmas.Bool.{cases_lt}
use Rattle.std.proofs.lemmas.List.{drop-take, drop_at, length-drop, length-append, length-take, length-take-le}
use Rattle.std.proofs.Math.Seq.{take-add}
use Rattle.iso_parts.specs.Digits.{four_digits_of}
use Rattle.iso_parts.specs.declared.spec.FieldSpec.{FieldSpec}
use Rattle.iso_parts.specs.Part.{Body, Part, with_padding, prefix}
use Rattle.iso_parts.specs.Reading.{prefix_size, body_size}
use Rattle.iso_parts.specs.PartLaws.{PartLaws}
use Rattle.iso_table.specs.Layout.{Layout, row_at, AreGood}
use Rattle.iso_wire.specs.declared.fault.UnpackFault.{UnpackFault}
use Rattle.std.specs.Borrow.{Bor}
use Rattle.std.specs.Prelude.{IfOk, IfErr, IsErr, IsErrAnd}
use Rattle.iso_wire.specs.declared.fault.UnpackCause.TheVariants.{Short, Memory}
use Rattle.iso_wire.specs.Contents.{Contents}
use Rattle.iso_wire.specs.Beginning.{beginning_at}
use Rattle.iso_wire.specs.Reading.{◌>>=◌, value_at, elements_at, IsFaultOf, message_at, whole}
use Rattle.iso_wire.specs.ReadingLaws.{ReadsSpellings, ReadingStays}
use Rattle.iso_wire.specs.Spelling.{AreBytes, BeginsWithNone, PartAs, Parts}
use Rattle.iso_wire.specs.Bodies.{wire_at, wires_at, view_at}
use Rattle.iso_wire.specs.Viewing.{ViewContents, SpellsBodies, Views, ViewsSpelled, IsViewed, starts_of}
use Rattle.iso_wire.proofs.Built.{behind_beginning, message_begun}
use Rattle.iso_wire.proofs.Bytes.{bytes_drop}
use Rattle.iso_wire.proofs.NeverMemory.{NeverMemory, message}
use Rattle.iso_wire.proofs.ElementLaws.{value_taken}
use Rattle.iso_wire.proofs.Orders.{Values}
use Rattle.iso_wire.proofs.Readings.{length-prefix}
use Rattle.iso_wire.proofs.Unpacks.{spelled_is_read, is_refused, is_settled}

-- both read so many bytes, the one the values and the other their bodies
abbrev Agrees : List (Option FieldSpec) → ℕ → List ℕ → Result (Values × ℕ) UnpackFault → Result (Values × ℕ) UnpackFault → Type 0
Agrees rows at b (Ok x) (Ok w) = (used : ℕ) × (x.1 ≡ at + used) × (w.1 ≡ at + used) × (used ≤ length b) × SpellsBodies rows x.0 w.0 (take used b)
Agrees rows at b (Err e) (Err f) = f ≡ e
Agrees rows at b x w = ⊥

-- the body of a part is what stands behind its length
record IsBody (rows : List (Option FieldSpec)) (n : ℕ) (b v : List ℕ) (used : ℕ) : Type 0 where
  pub row : FieldSpec
  pub is : row_at rows n ≡ Some row
  pub body : Body row v (wire_at (row_at rows n) b used)
  pub part : take used b ≡ prefix row.length (length v) ++ wire_at (row_at rows n) b used

body_of : (rows : List (Option FieldSpec)) (n : ℕ) (b v : List ℕ) (used : ℕ) → used ≤ length b → PartAs rows n v (take used b) → IsBody rows n b v used
body_of rows n b v used room part =
    let s = part.0 in
    let body : List ℕ = part.2.0 in
    let p : List ℕ = prefix s.length (length v) in
    let front = prefix_size s.length in
    let plen : length p ≡ front = length-prefix s.length (length v) in
    let split : take used b ≡ p ++ body = part.2.2 in
    let enough : front ≤ used = omega (arith, ap length split, length-append p body, length-take used b) in
    let sum : front + (used - front) ≡ used = omega arith in
    let wire : wire_at (row_at rows n) b used ≡ body =
    ap (λ (r : Option FieldSpec). wire_at r b used) part.1
    ∙ sym (drop-take front (used - front) b) ∙ ap (λ (k : ℕ). drop front (take k b)) sum ∙ ap (drop front) split ∙ drop_at p body front plen in
    record {
      row = s;
      is = part.1;
      body = subst (Body s v) (sym wire) part.2.1;
      part = split ∙ ap (λ (l : List ℕ). p ++ l) (sym wire);
    }

abbrev with_value : ℕ → List ℕ → Values × ℕ → Result (Values × ℕ) UnpackFault
with_value n v x = Ok ((n, v) ∷ x.0, x.1)

one_more : (rows : List (Option FieldSpec)) (n at used : ℕ) (b v wire : List ℕ) (s : FieldSpec) → used ≤ length b → row_at rows n ≡ Some s → Body s v wire → take used b ≡ prefix s.length (length v) ++ wire
    → (x w : Result (Values × ℕ) UnpackFault) → Agrees rows (at + used) (drop used b) x w → Agrees rows at b (x >>= with_value n v) (w >>= with_value n wire)
one_more rows n at used b v wire s room row body part (Err e) (Err f) same = same
one_more rows n at used b v wire s room row body part (Err e) (Ok w) never = absurd never
one_more rows n at used b v wire s room row body part (Ok x) (Err f) never = absurd never
one_more rows n at used b v wire s room row body part (Ok x) (Ok w) rest =
    let more : ℕ = rest.0 in
    let tail : List ℕ = take more (drop used b) in
    let split : take (used + more) b ≡ prefix s.length (length v) ++ (wire ++ tail) = take-add used more b ∙ ap (λ (l : List ℕ). l ++ tail) part ∙ append_assoc (prefix s.length (length v)) wire tail in
    (used + more, omega (arith, rest.1), omega (arith, rest.2), omega (arith, rest.3, length-drop used b), (s, tail, row, refl, body, split, rest.4))

abbrev behind_value : List (Option FieldSpec) → List ℕ → ℕ → ℕ → List ℕ → List ℕ × ℕ → Result (Values × ℕ) UnpackFault
behind_value rows ns n at b first = elements_at rows ns (at + first.1) (drop first.1 b) >>= with_value n first.0

abbrev behind_wire : List (Option FieldSpec) → List ℕ → ℕ → ℕ → List ℕ → List ℕ × ℕ → Result (Values × ℕ) UnpackFault
behind_wire rows ns n at b first = wires_at rows ns (at + first.1) (drop first.1 b) >>= with_value n (wire_at (row_at rows n) b first.1)

module _ (laws : PartLaws) where
  agrees_by : (rows : List (Option FieldSpec)) (ns : List ℕ) (n at : ℕ) (b : List ℕ) (r : Result (List ℕ × ℕ) UnpackFault) → AreGood rows → AreBytes b → value_at rows n at b ≡ r
      → ((at : ℕ) (b : List ℕ) → AreBytes b → Agrees rows at b (elements_at rows ns at b) (wires_at rows ns at b))
      → Agrees rows at b (r >>= behind_value rows ns n at b) (r >>= behind_wire rows ns n at b)
  agrees_by rows ns n at b (Err e) good fits is rest = refl
  agrees_by rows ns n at b (Ok first) good fits is rest =
      let taken = value_taken laws rows n at b first.0 first.1 good fits is in
      let body = body_of rows n b first.0 first.1 taken.room taken.part in
      one_more rows n at first.1 b first.0 (wire_at (row_at rows n) b first.1) body.row taken.room body.is body.body body.part
      (elements_at rows ns (at + first.1) (drop first.1 b)) (wires_at rows ns (at + first.1) (drop first.1 b)) (rest (at + first.1) (drop first.1 b) (bytes_drop first.1 b fits))

  agrees : (rows : List (Option FieldSpec)) (ns : List ℕ) (at : ℕ) (b : List ℕ) → AreGood rows → AreBytes b → Agrees rows at b (elements_at rows ns at b) (wires_at rows ns at b)
  agrees rows [] at b good fits = (0, omega arith, omega arith, omega arith, refl)
  agrees rows (n ∷ ns) at b good fits = agrees_by rows ns n at b (value_at rows n at b) good fits refl (λ at b fits. agrees rows ns at b good fits)

-- ---- the whole message

abbrev pub as_view : Layout → Bor (List ℕ) → ℕ → ℕ → Values × ℕ → Result ViewContents UnpackFault
as_view t b mti at read = Ok (record { mti = mti; used = read.1; wires = read.0; starts = starts_of t.rows at read.0; bytes = b.now; address = b.ref_ptr })

abbrev as_message : ℕ → Values × ℕ → Result (Contents × ℕ) UnpackFault
as_message mti read = whole (record { mti = mti; elements = read.0 }) read.1

by_elements : (t : Layout) (b : Bor (List ℕ)) (mti at : ℕ) (x w : Result (Values × ℕ) UnpackFault) → Agrees t.rows at (drop at b.now) x w → Views t b.now (w >>= as_view t b mti at) (x >>= as_message mti)
by_elements t b mti at (Err e) (Err f) same = ap Err (sym same)
by_elements t b mti at (Err e) (Ok w) never = absurd never
by_elements t b mti at (Ok x) (Err f) never = absurd never
by_elements t b mti at (Ok x) (Ok w) same =
    let used : ℕ = same.0 in
    let place : drop at (take w.1 b.now) ≡ take used (drop at b.now) = ap (λ (k : ℕ). drop at (take k b.now)) same.2 ∙ drop-take at used b.now in
    (x.0, at, ap (λ (k : ℕ). whole (record { mti = mti; elements = x.0 }) k) (same.1 ∙ sym same.2), subst (SpellsBodies t.rows x.0 w.0) (sym place) same.4, omega (arith, same.2), refl)

abbrev pub view_behind : Layout → Bor (List ℕ) → ℕ × List ℕ × ℕ → Result ViewContents UnpackFault
view_behind t b x = wires_at t.rows x.1 x.2 (drop x.2 b.now) >>= as_view t b x.0 x.2

module _ (laws : PartLaws) where
  by_beginning : (t : Layout) (b : Bor (List ℕ)) (r : Result (ℕ × List ℕ × ℕ) UnpackFault) → AreGood t.rows → AreBytes b.now → Views t b.now (r >>= view_behind t b) (r >>= behind_beginning t b.now)
  by_beginning t b (Err e) good fits = refl
  by_beginning t b (Ok x) good fits =
      by_elements t b x.0 x.2 (elements_at t.rows x.1 x.2 (drop x.2 b.now)) (wires_at t.rows x.1 x.2 (drop x.2 b.now)) (agrees laws t.rows x.1 x.2 (drop x.2 b.now) good (bytes_drop x.2 b.now fits))

  pub is_view : (t : Layout) (b : Bor (List ℕ)) → AreGood t.rows → AreBytes b.now → Views t b.now (view_at t b) (message_at t b.now)
  is_view t b good fits = subst (Views t b.now (view_at t b)) (sym (message_begun t b.now)) (by_beginning t b (beginning_at t b.now) good fits)

  -- what is read of a message without its values views that message
  pub views_as : (t : Layout) (b : Bor (List ℕ)) (r : Result ViewContents UnpackFault) → AreGood t.rows → AreBytes b.now → view_at t b ≡ r → Views t b.now r (message_at t b.now)
  views_as t b r good fits is = subst (λ (v : Result ViewContents UnpackFault). Views t b.now v (message_at t b.now)) is (is_view t b good fits)

-- a fault that is handed on is the one that reading gave
pub handed_on : (r : Result ViewContents UnpackFault) (e : UnpackFault) (read : Result ViewContents UnpackFault) → read ≡ Err e → IsErr r → IsErrAnd r (λ f. f ≡ e) → read ≡ r
handed_on (Ok v) e read is err same = absurd same
handed_on (Err f) e read is err same = is ∙ sym (ap Err same)

-- the bodies with their lengths before them are the parts
pub SpellsBodies-Parts : (rows : List (Option FieldSpec)) (es ws : Values) (b : List ℕ) → SpellsBodies rows es ws b → Parts rows es b
SpellsBodies-Parts rows [] [] b h = h
SpellsBodies-Parts rows [] (w ∷ ws) b h = absurd h
SpellsBodies-Parts rows (e ∷ es) [] b h = absurd h
SpellsBodies-Parts rows (e ∷ es) (w ∷ ws) b h =
    let s = h.0 in
    let p : List ℕ = prefix s.length (length e.1) in
    (p ++ w.1, h.1, (s, h.2, (w.1, h.4, refl)), SpellsBodies-Parts rows es ws h.1 h.6, h.5 ∙ sym (append_assoc p w.1 h.1))

pub never_memory : (t : Layout) (b : List ℕ) (r : Result ViewContents UnpackFault) → Views t b r (message_at t b) → IfErr r (λ e. e.cause ≢ Memory)
never_memory t b (Ok v) h = tt
never_memory t b (Err e) h = subst NeverMemory h (message t b)

-- ---- the parts of a spelling

some_is : (a b : FieldSpec) → Some a ≡ Some b → a ≡ b
some_is a b e = cc

abbrev part_size : FieldSpec → List ℕ → ℕ
part_size s v = length (prefix s.length (length v)) + body_size s.coding (length (with_padding s v))

-- all parts of one value have one length
part_sized : (laws : PartLaws) (s : FieldSpec) (v b : List ℕ) → Part s v b → length b ≡ part_size s v
part_sized laws s v b part =
    let p : List ℕ = prefix s.length (length v) in
    ap length part.2 ∙ length-append p part.0 ∙ ap (λ (k : ℕ). length p + k) (laws.sized s v part.0 part.1)

same_part : (laws : PartLaws) (rows : List (Option FieldSpec)) (n : ℕ) (v a b : List ℕ) → PartAs rows n v a → PartAs rows n v b → length a ≡ length b
same_part laws rows n v a b x y =
    let same : x.0 ≡ y.0 = some_is x.0 y.0 (sym x.1 ∙ y.1) in
    part_sized laws x.0 v a x.2 ∙ ap (λ (s : FieldSpec). part_size s v) same ∙ sym (part_sized laws y.0 v b y.2)

same_parts : (laws : PartLaws) (rows : List (Option FieldSpec)) (es : Values) (a b : List ℕ) → Parts rows es a → Parts rows es b → length a ≡ length b
same_parts laws rows [] a b x y = ap length x ∙ sym (ap length y)
same_parts laws rows (e ∷ es) a b x y =
    let first = same_part laws rows e.0 e.1 x.0 y.0 x.2 y.2 in
    let others = same_parts laws rows es x.1 y.1 x.3 y.3 in
    ap length x.4 ∙ length-append x.0 x.1 ∙ omega (arith, first, others) ∙ sym (length-append y.0 y.1) ∙ sym (ap length y.4)

nothing : (l : List ℕ) → length l ≡ 0 → l ≡ []
nothing [] none = refl
nothing (x ∷ l) none = absurd (omega arith)

-- two ends of a list of one length are one
same_end : (w q p : List ℕ) (front : ℕ) → w ≡ q ++ p → length (drop front w) ≡ length p → drop front w ≡ p
same_end w q p front split same =
    elim (cases_lt (length w) front) [
      | inl past ↦
          let none : length (drop front w) ≡ 0 = omega (arith, length-drop front w) in
          nothing (drop front w) none ∙ sym (nothing p (sym same ∙ none))
      | inr within ↦
          let place : length q ≡ front = omega (arith, same, length-drop front w, ap length split, length-append q p) in
          ap (drop front) split ∙ drop_at q p front place
    ]

-- ---- what a view has found

-- the parts are the last bytes, so their offset is told by how many bytes they are
parts_begin : (rows : List (Option FieldSpec)) (ss : List (ℕ × ℕ)) (ws : Values) (b p : List ℕ) (used front : ℕ) → used ≤ length b → front ≤ used → drop front (take used b) ≡ p → ss ≡ starts_of rows front ws → ss ≡ starts_of rows (used - length p) ws
parts_begin rows ss ws b p used front room inner is begin =
    let size : length (take used b) ≡ used = length-take-le used b room in
    let place : front ≡ used - length p = omega (arith, size, inner, length-drop front (take used b), ap length is) in
    begin ∙ ap (λ (k : ℕ). starts_of rows k ws) place

pub is_viewed : PartLaws → ReadsSpellings → (t : Layout) (b : List ℕ) (r : Result ViewContents UnpackFault) → AreGood t.rows → AreBytes b → Views t b r (message_at t b) → IfOk r (λ v. IsViewed t v b)
is_viewed laws reads t b (Ok v) good fits h =
    let es : Values = h.0 in
    let m : Contents = record { mti = v.mti; elements = es } in
    let begins = (reads t m v.used b good fits).0 h.2 in
    let s = begins.1 in
    let w : List ℕ = take v.used b in
    let head : List ℕ = four_digits_of t.mti v.mti ++ s.maps in
    let split : w ≡ head ++ s.parts = s.bytes ∙ sym (append_assoc (four_digits_of t.mti v.mti) s.maps s.parts) in
    let size = same_parts laws t.rows es (drop h.1 w) s.parts (SpellsBodies-Parts t.rows es v.wires (drop h.1 w) h.3) s.elements in
    let parts = same_end w head s.parts h.1 split size in
    (m, refl, begins.0, (s, subst (SpellsBodies t.rows es v.wires) parts h.3, parts_begin t.rows v.starts v.wires b s.parts v.used h.1 begins.0 h.4 parts h.5))
is_viewed laws reads t b (Err e) good fits h = tt

module _ (reads : ReadsSpellings) where
  pub viewed_only : (t : Layout) (b : List ℕ) (r : Result ViewContents UnpackFault) → AreGood t.rows → AreBytes b → Views t b r (message_at t b) → ViewsSpelled t b r
  viewed_only t b r good fits h = λ m front rest spelled split.
      subst (Views t b r) (ap (message_at t) split ∙ spelled_is_read reads t m front rest good (subst AreBytes split fits) spelled) h

  fault_is : (t : Layout) (b : List ℕ) (e : UnpackFault) → message_at t b ≡ Err e → IsFaultOf e (message_at t b)
  fault_is t b e is = let other : e.cause ≢ Memory = subst NeverMemory is (message t b) in (λ memory. absurd (other memory), λ _. is)

  pub view_refused : (t : Layout) (b : List ℕ) (r : Result ViewContents UnpackFault) → AreGood t.rows → AreBytes b → Views t b r (message_at t b) → IfErr r (λ e. BeginsWithNone t b)
  view_refused t b (Ok v) good fits h = tt
  view_refused t b (Err e) good fits h = is_refused reads t b (Err e) good fits (fault_is t b e h) (subst NeverMemory h (message t b))

  pub view_settled : ReadingStays → (t : Layout) (b : List ℕ) (r : Result ViewContents UnpackFault) → AreGood t.rows → AreBytes b → Views t b r (message_at t b)
      → IfErr r (λ e. e.cause ≢ Short → (more : List ℕ) → AreBytes more → BeginsWithNone t (b ++ more))
  view_settled stays t b (Ok v) good fits h = tt
  view_settled stays t b (Err e) good fits h = is_settled reads stays t b (Err e) good fits (fault_is t b e h) (subst NeverMemory h (message t b))
