use Rattle.std.proofs.Common.{◌≡◌, ◌<◌, ◌/◌, ◌++◌, ℕ, Some, None, ap, subst, refl, ◌∙◌, arith, rules}
use Rattle.std.proofs.lemmas.Result.{err_from_is_err_and}
use Rattle.std.specs.List.{flat_map}
use Rattle.iso_parts.specs.Digits.{four_digits_of}
use Rattle.iso_parts.specs.declared.bitmap.BitmapCoding.{BitmapCoding}
use Rattle.iso_parts.specs.declared.digits.Digits.{Digits}
use Rattle.iso_parts.specs.Bitmap.{contains, PlainBitmaps}
use Rattle.iso_parts.specs.Mti.{mti_number}
use Rattle.iso_wire.specs.declared.fault.PackFault.TheVariants.{WrongVersion}
use Rattle.iso_wire.specs.Refusal.{first_refusal, message_refusal}
use Rattle.iso_wire.specs.Spelling.{Parts, plain_of}
use Rattle.iso_wire.proofs.Orders.{Values}
use Rattle.iso_wire.proofs.Packs.{plain_spelling_lem, three_pieces, kept_behind, kept_same, kept_more, refused_elements}
use Rattle.iso_wire.proofs.packing.append_spelling.Goals as goal

pub returns-clause-packed : goal.returns-clause-packed
returns-clause-packed c =
    let t = c.args.table.now in
    let m = c.args.message.now in
    let mti = c.mti-mti.result in
    let f = plain_of t.rows in
    let set = contains c.elements-numbers.result in
    let maps = c.in_ok-append.ensures.ok.0 in
    let same : mti_number mti ≡ m.mti = c.mti-mti.ensures in
    let small : m.mti < 10000 = omega (arith, same, mti.version_digit, mti.class_digit, mti.function_digit, mti.origin_digit) in
    let version : m.mti / 1000 ≡ t.version = omega (arith, same, mti.version_digit, mti.class_digit, mti.function_digit, mti.origin_digit, c.if-mti-version.false, c.version.ensures.version) in
    let plain : PlainBitmaps t.bitmap set maps = subst (λ (k : BitmapCoding). PlainBitmaps k set maps) c.bitmap.ensures c.in_ok-append.ensures.ok.1 in
    let spelled : Parts t.rows m.elements (flat_map f m.elements) = subst (λ (es : Values). Parts t.rows es (flat_map f es)) c.parts-elements.ensures.elements c.in_ok-append_parts.ensures.spelled in
    let start = c.make_room.new.out.items in
    let head : c.append_mti.new.out.items ≡ start ++ four_digits_of t.mti m.mti =
    c.in_ok-append_mti.ensures.ok ∙ ap (λ (k : Digits). start ++ four_digits_of k (mti_number mti)) c.mti.ensures ∙ ap (λ (n : ℕ). start ++ four_digits_of t.mti n) same in
    let tail : c.append_parts.new.out.items ≡ c.append.new.out.items ++ flat_map f m.elements = c.in_ok-append_parts.ensures.written ∙ ap (λ (es : Values). c.append.new.out.items ++ flat_map f es) c.parts-elements.ensures.elements in
    let whole = three_pieces c.args.out.now.items c.make_room.new.out.items c.append_mti.new.out.items c.append.new.out.items c.append_parts.new.out.items (four_digits_of t.mti m.mti) maps (flat_map f m.elements) c.make_room.ensures head c.in_ok-append.ensures.ok.2 tail in
    let bytes = four_digits_of t.mti m.mti ++ (maps ++ flat_map f m.elements) in
    (bytes, plain_spelling_lem t m set maps bytes small version c.parts-elements.ensures.ascending c.elements-numbers.ensures plain spelled refl, whole)

pub returns-in_err-append_parts-clause-kept : goal.returns-in_err-append_parts-clause-kept
returns-in_err-append_parts-clause-kept c =
    let p = err_from_is_err_and c.from_residual-in_err-append_parts.result c.from_residual-in_err-append_parts.ensures.1 in
    rw p.1 (kept_behind c.args.out.now.items c.make_room.new.out.items c.append_mti.new.out.items c.append.new.out.items c.append_parts.new.out.items _ _ c.make_room.ensures c.in_ok-append_mti.ensures.ok c.in_ok-append.ensures.ok.2 c.in_err-append_parts.ensures.kept)

pub returns-then-mti-version-clause-fault : goal.returns-then-mti-version-clause-fault
returns-then-mti-version-clause-fault c =
    let told : message_refusal c.args.table.now c.args.message.now ≡ Some WrongVersion = search rules in
    λ other. told

pub returns-clause-accepted : goal.returns-clause-accepted
returns-clause-accepted c =
    let mti = c.mti-mti.result in
    let same : mti_number mti ≡ c.args.message.now.mti = c.mti-mti.ensures in
    let version : c.args.message.now.mti / 1000 ≡ c.args.table.now.version = omega (arith, same, mti.version_digit, mti.class_digit, mti.function_digit, mti.origin_digit, c.if-mti-version.false, c.version.ensures.version) in
    refused_elements c.args.table.now c.args.message.now version ∙ subst (λ (es : Values). first_refusal c.args.table.now.rows es ≡ None) c.parts-elements.ensures.elements c.in_ok-append_parts.ensures.fits

pub returns-clause-bytes : goal.returns-clause-bytes
returns-clause-bytes c = c.append_parts.ensures.bytes

pub returns-clause-good : goal.returns-clause-good
returns-clause-good c = c.version.ensures.good

pub returns-in_err-append_parts-clause-fault : goal.returns-in_err-append_parts-clause-fault
returns-in_err-append_parts-clause-fault c =
    let mti = c.mti-mti.result in
    let same : mti_number mti ≡ c.args.message.now.mti = c.mti-mti.ensures in
    let version : c.args.message.now.mti / 1000 ≡ c.args.table.now.version = omega (arith, same, mti.version_digit, mti.class_digit, mti.function_digit, mti.origin_digit, c.if-mti-version.false, c.version.ensures.version) in
    let p = err_from_is_err_and c.from_residual-in_err-append_parts.result c.from_residual-in_err-append_parts.ensures.1 in
    rw (p.1, p.2) (λ other. refused_elements c.args.table.now c.args.message.now version
    ∙ subst (λ (es : Values). first_refusal c.args.table.now.rows es ≡ Some c.in_err-append_parts.field-0.0) c.parts-elements.ensures.elements (c.in_err-append_parts.ensures.fault other))

pub returns-in_err-make_room-clause-fault : goal.returns-in_err-make_room-clause-fault
returns-in_err-make_room-clause-fault c =
    let p = err_from_is_err_and c.from_residual.result c.from_residual.ensures.1 in
    rw (p.1, p.2) (λ other. absurd (other refl))

pub returns-in_err-make_room-clause-kept : goal.returns-in_err-make_room-clause-kept
returns-in_err-make_room-clause-kept c =
    let p = err_from_is_err_and c.from_residual.result c.from_residual.ensures.1 in
    rw p.1 (kept_same c.args.out.now.items c.make_room.new.out.items c.make_room.ensures)

pub returns-in_err-append_mti-clause-fault : goal.returns-in_err-append_mti-clause-fault
returns-in_err-append_mti-clause-fault c =
    let p = err_from_is_err_and c.from_residual-in_err-append_mti.result c.from_residual-in_err-append_mti.ensures.1 in
    rw (p.1, p.2) (λ other. absurd (other refl))

pub returns-in_err-append_mti-clause-kept : goal.returns-in_err-append_mti-clause-kept
returns-in_err-append_mti-clause-kept c =
    let p = err_from_is_err_and c.from_residual-in_err-append_mti.result c.from_residual-in_err-append_mti.ensures.1 in
    rw p.1 (kept_same c.args.out.now.items c.append_mti.new.out.items (c.in_err-append_mti.ensures.unchanged ∙ c.make_room.ensures))

pub returns-in_err-append-clause-fault : goal.returns-in_err-append-clause-fault
returns-in_err-append-clause-fault c =
    let p = err_from_is_err_and c.from_residual-in_err-append.result c.from_residual-in_err-append.ensures.1 in
    rw (p.1, p.2) (λ other. absurd (other refl))

pub returns-in_err-append-clause-kept : goal.returns-in_err-append-clause-kept
returns-in_err-append-clause-kept c =
    let p = err_from_is_err_and c.from_residual-in_err-append.result c.from_residual-in_err-append.ensures.1 in
    rw p.1 (kept_more c.args.out.now.items c.append.new.out.items (four_digits_of c.mti.result (mti_number c.mti-mti.result)) (c.in_err-append.ensures.unchanged ∙ c.in_ok-append_mti.ensures.ok ∙ ap (λ l. l ++ four_digits_of c.mti.result (mti_number c.mti-mti.result)) c.make_room.ensures))
