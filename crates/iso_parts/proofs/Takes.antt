-- What is read is a part.
use Rattle.std.proofs.Common.{◌≡◌, ℕ, ◌+◌, ◌-◌, ◌≤◌, ◌<◌, Bool, true, false, cond, eqb, leb, ltb, List, ◌++◌, length, take, drop, get_or, replicate, Result, Ok, Err, refl, sym, ap, subst, ◌∙◌, append_assoc, arith, inl, inr}
use Rattle.std.specs.Prelude.{IsTrue}
use Rattle.std.proofs.lemmas.Bool.{and_parts, ltb-false, cases_lt}
use Rattle.std.proofs.lemmas.Bool.Decides.{nat_tests}
use Rattle.std.proofs.lemmas.List.{length-append, take_at, take-append-drop, length-take, length-drop, get_or-take, get_or_past}
use Rattle.iso_parts.specs.declared.prefix.Length.{Length}
use Rattle.iso_parts.specs.declared.prefix.Length.TheVariants as lengths
use Rattle.iso_parts.specs.declared.padding.Pad.{Pad}
use Rattle.iso_parts.specs.declared.padding.Pad.TheVariants as pads
use Rattle.iso_parts.specs.declared.spec.FieldSpec.{FieldSpec}
use Rattle.iso_parts.specs.declared.fault.FieldFault.{FieldFault}
use Rattle.iso_parts.specs.declared.fault.FieldFault.TheVariants.{LengthOver, NotInClass}
use Rattle.iso_parts.specs.declared.field.Step.{Step}
use Rattle.iso_parts.specs.declared.field.Step.TheVariants as steps
use Rattle.iso_parts.specs.Class.{is_in_class}
use Rattle.iso_parts.specs.Spec.{IsGood, Fits, is_exact, is_good_pad}
use Rattle.iso_parts.specs.Part.{with_padding, with_pads, prefix, Part, Stands}
use Rattle.iso_parts.specs.Reading.{◌>>=◌, prefix_size, prefix_of, count_of, body_size, text_of, without_padding, value_of, body_of, FieldReading, got, more, at_body, at_prefix, part_at, Reads, IfGot}
use Rattle.iso_parts.proofs.Pads.{IsUnpadded, IsUnpadded-without_padding}
use Rattle.iso_parts.proofs.Prefixes.{count_takes, chosen_ok}
use Rattle.iso_parts.proofs.Texts.{text_takes}
use Rattle.iso_parts.proofs.Counts.{counts, padded_is_fixed, max_small}

-- ---- where an answer comes from

bind_ok : {A B : Type 0} (r : Result A FieldFault) (f : A → Result B FieldFault) (y : B) → (r >>= f) ≡ Ok y → (x : A) × (r ≡ Ok x) × (f x ≡ Ok y)
bind_ok (Ok x) f y e = (x, refl, e)
bind_ok (Err d) f y e = absurd cc

refused_over : {A : Type 0} (b : Bool) (d : FieldFault) (x y : A) → cond b (Err d) (Ok x) ≡ Ok y → (b ≡ false) × (x ≡ y)
refused_over true d x y e = absurd cc
refused_over false d x y e = (refl, cc)

pub more_or : (t : Bool) (o : FieldReading) (v : List ℕ) (n : ℕ) → cond t more o ≡ got v n → (t ≡ false) × (o ≡ got v n)
more_or true o v n e = absurd cc
more_or false o v n e = (refl, e)

prefix_or : (s : FieldSpec) (b : List ℕ) (r : Result ℕ FieldFault) (v : List ℕ) (n : ℕ) → at_prefix s b r ≡ got v n → (m : ℕ) × (r ≡ Ok m) × (at_prefix s b (Ok m) ≡ got v n)
prefix_or s b (Ok m) v n e = (m, refl, e)
prefix_or s b (Err d) v n e = absurd cc

body_or : (k : ℕ) (r : Result (List ℕ) FieldFault) (v : List ℕ) (n : ℕ) → at_body k r ≡ got v n → (r ≡ Ok v) × (k ≡ n)
body_or k (Ok w) v n e = let same : w ≡ v = cc in (ap Ok same, cc)
body_or k (Err d) v n e = absurd cc

-- ---- the value of a body

fixed_count : (k : Length) (max m : ℕ) (p : List ℕ) → k ≡ lengths.Fixed → count_of k max p ≡ Ok m → m ≡ max
fixed_count lengths.Fixed max m p fixed e = sym cc
fixed_count (lengths.LL d) max m p fixed e = absurd cc
fixed_count (lengths.LLL d) max m p fixed e = absurd cc
fixed_count (lengths.LLLL d) max m p fixed e = absurd cc

-- what is filled up again, by the kind of padding
refilled : (s : FieldSpec) (pad : Pad) (w v : List ℕ) → is_good_pad s pad ≡ true → (s.length ≡ lengths.Fixed → length w ≡ s.max) → IsUnpadded pad w v → with_pads pad (s.max - length v) v ≡ w
refilled s pads.None w v good full un = un.whole
refilled s (pads.Left p) w v good full un =
    let fixed = padded_is_fixed s.class s.length (and_parts _ _ good).0 in
    ap (λ (n : ℕ). replicate (n - length v) p ++ v) (sym (full fixed)) ∙ un.whole
refilled s (pads.Right p) w v good full un =
    let fixed = padded_is_fixed s.class s.length (and_parts _ _ good).0 in
    ap (λ (n : ℕ). v ++ replicate (n - length v) p) (sym (full fixed)) ∙ un.whole

-- its length is one that the row takes
length_fits : (k : Length) (pad : Pad) (max : ℕ) (w v : List ℕ) → length w ≤ max → (k ≡ lengths.Fixed → length w ≡ max) → IsUnpadded pad w v → cond (is_exact k pad) (eqb (length v) max) (leb (length v) max) ≡ true
length_fits lengths.Fixed pads.None max w v le full un = let e : length v ≡ max = ap length un.whole ∙ full refl in grind (arith, nat_tests)
length_fits lengths.Fixed (pads.Left p) max w v le full un = let lt : length v ≤ max = omega (arith, un.shorter) in grind (arith, nat_tests)
length_fits lengths.Fixed (pads.Right p) max w v le full un = let lt : length v ≤ max = omega (arith, un.shorter) in grind (arith, nat_tests)
length_fits (lengths.LL d) pad max w v le full un = let lt : length v ≤ max = omega (arith, un.shorter) in grind (arith, nat_tests)
length_fits (lengths.LLL d) pad max w v le full un = let lt : length v ≤ max = omega (arith, un.shorter) in grind (arith, nat_tests)
length_fits (lengths.LLLL d) pad max w v le full un = let lt : length v ≤ max = omega (arith, un.shorter) in grind (arith, nat_tests)

-- what a body of the right size tells
record TellsValue (s : FieldSpec) (m : ℕ) (body v : List ℕ) : Type 0 where
  pub fits : Fits s v
  pub stands : Stands s.coding body (with_padding s v)
  pub count : length (with_padding s v) ≡ m

body_takes : (s : FieldSpec) (m : ℕ) (body v : List ℕ) → IsGood s → m ≤ s.max → (s.length ≡ lengths.Fixed → m ≡ s.max) → length body ≡ body_size s.coding m → body_of s m body ≡ Ok v → TellsValue s m body v
body_takes s m body v good le full len e =
    let read = bind_ok (text_of s.coding m body) (value_of s) v e in
    let w : List ℕ = read.0 in
    let text = text_takes s.coding m body w len read.1 in
    let kept = chosen_ok (is_in_class s.class (without_padding s.pad w)) NotInClass (without_padding s.pad w) v read.2 in
    let un : IsUnpadded s.pad w v = subst (λ (x : List ℕ). IsUnpadded s.pad w x) kept.1 (IsUnpadded-without_padding s.pad w) in
    let in_class : IsTrue (is_in_class s.class v) = subst (λ (x : List ℕ). is_in_class s.class x ≡ true) kept.1 kept.0 in
    let count : length w ≡ m = text.count in
    let w_full : s.length ≡ lengths.Fixed → length w ≡ s.max = λ fixed. count ∙ full fixed in
    let again : with_padding s v ≡ w = refilled s s.pad w v good.pad w_full un in
    record {
      fits = record { length = length_fits s.length s.pad s.max w v (omega arith) w_full un; class = in_class; pad = un.clean };
      stands = subst (λ (x : List ℕ). Stands s.coding body x) (sym again) text.stands;
      count = ap length again ∙ count;
    }

-- ---- the whole part

bytes_take : (n : ℕ) (b : List ℕ) → ((i : ℕ) → get_or b i 0 < 256) → (i : ℕ) → get_or (take n b) i 0 < 256
bytes_take n b h i =
    elim (cases_lt i n) [
      | inl lt ↦ rw (get_or-take n b i 0 lt) (h i)
      | inr le ↦ rw (get_or_past (take n b) i 0 (omega (arith, length-take n b))) (omega arith)
    ]

prefix_takes : (s : FieldSpec) (m : ℕ) (p : List ℕ) → IsGood s → length p ≡ prefix_size s.length → ((i : ℕ) → get_or p i 0 < 256) → prefix_of s p ≡ Ok m → (m ≤ s.max) × (s.length ≡ lengths.Fixed → m ≡ s.max) × (p ≡ prefix s.length m)
prefix_takes s m p good len fits e =
    let read = bind_ok (count_of s.length s.max p) (λ n. cond (ltb s.max n) (Err LengthOver) (Ok n)) m e in
    let kept = refused_over (ltb s.max read.0) LengthOver read.0 m read.2 in
    let counted : count_of s.length s.max p ≡ Ok m = read.1 ∙ ap Ok kept.1 in
    (omega (arith, ltb-false s.max read.0 kept.0, kept.1), λ fixed. fixed_count s.length s.max m p fixed counted, (count_takes s.length s.max m p (λ fixed. max_small s good) len fits counted).bytes)

pub part_takes : (s : FieldSpec) (b v : List ℕ) (n : ℕ) → IsGood s → ((i : ℕ) → get_or b i 0 < 256) → part_at s b ≡ got v n → (n ≤ length b) × Part s v (take n b)
part_takes s b v n good fits e =
    let front = prefix_size s.length in
    let one = more_or (ltb (length b) front) (at_prefix s b (prefix_of s (take front b))) v n e in
    let two = prefix_or s b (prefix_of s (take front b)) v n one.1 in
    let m : ℕ = two.0 in
    let size = body_size s.coding m in
    let three = more_or (ltb (length b) (front + size)) (at_body (front + size) (body_of s m (take size (drop front b)))) v n two.2 in
    let four = body_or (front + size) (body_of s m (take size (drop front b))) v n three.1 in
    let room : front + size ≤ length b = ltb-false (length b) (front + size) three.0 in
    let p : List ℕ = take front b in
    let after : List ℕ = drop front b in
    let body : List ℕ = take size after in
    let plen : length p ≡ front = omega (arith, length-take front b) in
    let alen : length after + front ≡ length b = omega (arith, length-drop front b) in
    let blen : length body ≡ size = omega (arith, length-take size after) in
    let count = prefix_takes s m p good plen (λ i. bytes_take front b fits i) two.1 in
    let tells = body_takes s m body v good count.0 count.1 blen four.0 in
    let split : b ≡ (p ++ body) ++ drop size after = sym (append_assoc p body (drop size after) ∙ ap (λ (l : List ℕ). p ++ l) (take-append-drop size after) ∙ take-append-drop front b) in
    let whole : take n b ≡ p ++ body = ap (take n) split ∙ take_at (p ++ body) (drop size after) n (length-append p body ∙ omega (arith, four.1)) in
    let known : prefix s.length (length v) ≡ p = (counts s v good tells.fits).prefix ∙ ap (prefix s.length) tells.count ∙ sym count.2 in
    (omega (arith, four.1), (body, (tells.fits, tells.stands), whole ∙ ap (λ (l : List ℕ). l ++ body) (sym known)))

-- ---- what a function that reads has found

pub is_found : (s : FieldSpec) (b : List ℕ) (r : Result Step FieldFault) → IsGood s → ((i : ℕ) → get_or b i 0 < 256) → Reads r (part_at s b) → IfGot r (λ v n. (n ≤ length b) × Part s v (take n b))
is_found s b (Ok (steps.Got value used)) good fits h = part_takes s b value.items used good fits h
is_found s b (Ok steps.More) good fits h = tt
is_found s b (Err e) good fits h = tt
