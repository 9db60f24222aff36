-- The elements whose bodies a view has.
use Rattle.std.proofs.Common.{◌≡◌, ℕ, ◌+◌, ◌<◌, ◌≤◌, Bool, true, false, cond, eqb, is_some, Option, Some, None, Result, Ok, List, [], ◌∷◌, take, drop, refl, sym, ap, subst, ◌∙◌, arith}
use Rattle.std.proofs.lemmas.Bool.{eqb-true}
use Rattle.iso_parts.specs.declared.spec.FieldSpec.{FieldSpec}
use Rattle.iso_table.specs.Layout.{Layout}
use Rattle.iso_wire.specs.Elements.{value_in, has, IsAscending}
use Rattle.iso_wire.specs.Contents.{Contents}
use Rattle.iso_wire.specs.declared.fault.UnpackFault.{UnpackFault}
use Rattle.iso_wire.specs.Viewing.{ViewContents, Views, IsViewed, SpellsBodies}
use Rattle.iso_c.specs.declared.fault.RumpadolFault.{RumpadolFault}
use Rattle.iso_c.specs.FaultNumbers.{no_element}
use Rattle.iso_c.specs.Viewing.{body_fault}

abbrev Values : Type 0
Values = List (ℕ × List ℕ)

abbrev Rows : Type 0
Rows = List (Option FieldSpec)

-- the bodies ascend as the elements do
pub wires_ascend : (rows : Rows) (low : ℕ) (es ws : Values) (b : List ℕ) → SpellsBodies rows es ws b → IsAscending low es → IsAscending low ws
wires_ascend rows low [] [] b wired asc = tt
wires_ascend rows low [] (w ∷ ws) b wired asc = absurd wired
wires_ascend rows low (e ∷ es) [] b wired asc = absurd wired
wires_ascend rows low (e ∷ es) (w ∷ ws) b wired asc =
    let rest : IsAscending (e.0 + 1) ws = wires_ascend rows (e.0 + 1) es ws wired.1 wired.6 asc.3 in
    subst (λ (k : ℕ). (low ≤ k) × (k ≤ 128) × (k ≡ 65 → ⊥) × IsAscending (k + 1) ws) (sym wired.3) (asc.0, asc.1, asc.2, rest)

missing_by : (u : Bool) (n : ℕ) (e w : ℕ × List ℕ) (es ws : Values) → eqb w.0 n ≡ u → w.0 ≡ e.0 → (value_in ws n ≡ None → has es n ≡ false)
    → cond u (Some w.1) (value_in ws n) ≡ None → is_some (cond (eqb e.0 n) (Some e.1) (value_in es n)) ≡ false
missing_by true n e w es ws h same rest none = absurd cc
missing_by false n e w es ws h same rest none =
    let no : eqb e.0 n ≡ false = sym (ap (λ (k : ℕ). eqb k n) same) ∙ h in
    ap (λ (u : Bool). is_some (cond u (Some e.1) (value_in es n))) no ∙ rest none

-- an element without a body isn't there
pub no_body : (rows : Rows) (n : ℕ) (es ws : Values) (b : List ℕ) → SpellsBodies rows es ws b → value_in ws n ≡ None → has es n ≡ false
no_body rows n [] [] b wired none = refl
no_body rows n [] (w ∷ ws) b wired none = absurd wired
no_body rows n (e ∷ es) [] b wired none = absurd wired
no_body rows n (e ∷ es) (w ∷ ws) b wired none =
    missing_by (eqb w.0 n) n e w es ws refl wired.3 (no_body rows n es ws wired.1 wired.6) none

pub viewed_ascend : (t : Layout) (view : ViewContents) (b : List ℕ) → IsViewed t view b → IsAscending 2 view.wires
viewed_ascend t view b is = wires_ascend t.rows 2 is.0.elements view.wires is.3.0.parts is.3.1 is.3.0.ascending

abbrev missing_when : ℕ → Bool → Option RumpadolFault
missing_when n u = cond u None (Some (no_element n))

-- an element without a body is told to be missing
pub body_missing : (t : Layout) (view : ViewContents) (b : List ℕ) (n : ℕ) (r : Result (Contents × ℕ) UnpackFault) → Views t b (Ok view) r → value_in view.wires n ≡ None → body_fault n r ≡ Some (no_element n)
body_missing t view b n r views none =
    ap (body_fault n) views.2 ∙ ap (missing_when n) (no_body t.rows n views.0 view.wires (drop views.1 (take view.used b)) views.3 none)

high_by : (u : Bool) (n : ℕ) (e : ℕ × List ℕ) (es : Values) → eqb e.0 n ≡ u → e.0 ≤ 128 → 128 < n → value_in es n ≡ None → cond u (Some e.1) (value_in es n) ≡ None
high_by true n e es same le high none = absurd (let eq : e.0 ≡ n = eqb-true e.0 n same in omega (arith, eq, le, high))
high_by false n e es same le high none = none

-- no element is above 128
pub none_above : (low n : ℕ) (es : Values) → IsAscending low es → 128 < n → value_in es n ≡ None
none_above low n [] asc high = refl
none_above low n (e ∷ es) asc high = high_by (eqb e.0 n) n e es refl asc.1 high (none_above (e.0 + 1) n es asc.3 high)
