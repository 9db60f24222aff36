-- One field more is found or left.
use Rattle.std.proofs.Common.{◌≡◌, ◌∙◌, ◌+◌, ◌∷◌, ap, length, string_bytes, subst, sym}
use Rattle.std.specs.Option.{option_or}
use Rattle.serde_json.specs.View.{members_view, view}
use Rattle.iso_table.specs.Accepted.{row_of}
use Rattle.iso_table.specs.Members.{member_count}
use Rattle.iso_import.specs.Found.{found, found_count}
use Rattle.iso_import.specs.Step.{IsRow, TakesField}
use Rattle.iso_import.specs.Told.{bitmap_told, first_told, mti_told, row_told}
use Rattle.iso_import.proofs.Joining.{stand_on}
use Rattle.iso_import.proofs.Telling.{counted-on, told-on}
use Rattle.iso_import.proofs.moov.taken_from.Goals as goal

pub loop-key-preserved : goal.loop-key-preserved
loop-key-preserved c =
    let old = c.loop-key.taken in
    let new = c.take_field.new.taken in
    let key = string_bytes c.in-Some.key.now in
    let field = view c.in-Some.field.now in
    let rest = members_view c.next.new.self in
    let steps : c.loop-key.key-iterator ≡ (c.in-Some.key.now, c.in-Some.field.now) ∷ c.next.new.self = c.in-Some.ensures.steps in
    let key-is : c.as_str.result.now ≡ key = c.as_str.ensures.value in
    let told = subst (λ k. TakesField k field (found old) (found new)) key-is c.in_ok-take_field.ensures.told in
    let invariant = c.loop-key.invariant in
    record {
      rows = stand_on IsRow old.rows.items new.rows.items c.take_field.ensures.rows invariant.rows;
      mti = told-on _ old.mti new.mti (mti_told key field) (first_told mti_told rest)
          (invariant.mti ∙ ap (λ es. option_or old.mti (first_told mti_told (members_view es))) steps) told.mti;
      bitmap = told-on _ old.bitmap new.bitmap (bitmap_told key field) (first_told bitmap_told rest)
          (invariant.bitmap ∙ ap (λ es. option_or old.bitmap (first_told bitmap_told (members_view es))) steps) told.bitmap;
      told = λ n element. told-on _ (row_of old.rows.items n) (row_of new.rows.items n) (row_told n key field) (first_told (row_told n) rest)
          (invariant.told n element ∙ ap (λ es. option_or (row_of old.rows.items n) (first_told (row_told n) (members_view es))) steps) (told.rows n element);
      left = counted-on (length old.left.items + found_count (found old)) (length new.left.items + found_count (found new)) (member_count rest) (member_count (members_view c.args.fields.now.entries))
          (ap (λ es. length old.left.items + found_count (found old) + member_count (members_view es)) (sym steps) ∙ invariant.left) c.in_ok-take_field.ensures.counted;
    }
