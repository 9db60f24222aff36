-- What a message that is read says of its pieces.
use Rattle.std.proofs.Common.{◌≡◌, ℕ, ◌+◌, List, ◌∷◌, ◌++◌, length, drop, Option, Some, Result, Ok, Err, refl, sym, ap, subst, ◌∙◌}
use Rattle.iso_parts.specs.declared.spec.FieldSpec.{FieldSpec}
use Rattle.iso_parts.specs.Building.{IsPart}
use Rattle.iso_parts.specs.Reading.{FieldReading, got, more, fault, part_at}
use Rattle.iso_table.specs.Layout.{Layout, row_at}
use Rattle.iso_wire.specs.declared.fault.UnpackFault.{UnpackFault}
use Rattle.iso_wire.specs.Contents.{Contents}
use Rattle.iso_wire.specs.Beginning.{beginning_at}
use Rattle.iso_wire.specs.Taking.{IsRead}
use Rattle.iso_parts.specs.Numbers.{numbers_in}
use Rattle.iso_parts.specs.Mti.{mti_size}
use Rattle.iso_wire.specs.Reading.{◌>>=◌, type_at, words_at, answer, value_by, value_at, elements_at, message_at, whole, IsFaultOf}
use Rattle.iso_wire.proofs.Loop.{with_front}
use Rattle.iso_wire.proofs.Orders.{Values}
use Rattle.iso_wire.proofs.Readings.{behind_maps, behind_type, message_is}

-- ---- an element

part_by : (s : FieldSpec) (n at len : ℕ) (o : FieldReading) → IsRead (answer s n at len o) → IsPart o
part_by s n at len (got v used) h = (v, used, refl)
part_by s n at len more h = absurd h
part_by s n at len (fault e) h = absurd h

-- where its value is read, its bytes begin with a part
pub part_read : (rows : List (Option FieldSpec)) (s : FieldSpec) (n at : ℕ) (b : List ℕ) → row_at rows n ≡ Some s → IsRead (value_at rows n at b) → IsPart (part_at s b)
part_read rows s n at b row read = part_by s n at (length b) (part_at s b) (subst (λ (o : Option FieldSpec). IsRead (value_by o n at b)) row read)

pub value_is : (rows : List (Option FieldSpec)) (s : FieldSpec) (n at : ℕ) (b v : List ℕ) (used : ℕ) → row_at rows n ≡ Some s → part_at s b ≡ got v used → value_at rows n at b ≡ Ok (v, used)
value_is rows s n at b v used row part = ap (λ (o : Option FieldSpec). value_by o n at b) row ∙ ap (answer s n at (length b)) part

-- ---- the elements

bind_read : {A B : Type 0} (r : Result A UnpackFault) (f : A → Result B UnpackFault) → IsRead (r >>= f) → IsRead r
bind_read (Ok x) f h = tt
bind_read (Err e) f h = absurd h

-- where all are read, the first of those that are left is
pub first_read : (rows : List (Option FieldSpec)) (front : Values) (old ns : List ℕ) (n at : ℕ) (b : List ℕ) (total : Result (Values × ℕ) UnpackFault) → old ≡ n ∷ ns → with_front front (elements_at rows old at b) ≡ total → IsRead total
    → IsRead (value_at rows n at b)
first_read rows front old ns n at b total is so_far read =
    let left : IsRead (elements_at rows old at b) = bind_read (elements_at rows old at b) (λ x. Ok (front ++ x.0, x.1)) (subst IsRead (sym so_far) read) in
    let all : IsRead (elements_at rows (n ∷ ns) at b) = subst (λ (l : List ℕ). IsRead (elements_at rows l at b)) is left in
    bind_read (value_at rows n at b) _ all

-- ---- the whole message

abbrev pub made : ℕ → Values → Contents
made mti es = record { mti = mti; elements = es }

-- the message, behind what it begins with
abbrev pub behind_beginning : Layout → List ℕ → ℕ × List ℕ × ℕ → Result (Contents × ℕ) UnpackFault
behind_beginning t b begun = elements_at t.rows begun.1 begun.2 (drop begun.2 b) >>= λ x. whole (made begun.0 x.0) x.1

abbrev three : ℕ → List ℕ → ℕ → Result (ℕ × List ℕ × ℕ) UnpackFault
three mti ns at = Ok (mti, ns, at)

begun_by_words : (t : Layout) (b : List ℕ) (mti : ℕ) (r : Result (ℕ × ℕ × ℕ) UnpackFault)
    → r >>= behind_maps t b mti ≡ (r >>= λ w. three mti (numbers_in w.0 w.1) (mti_size t.mti + w.2)) >>= behind_beginning t b
begun_by_words t b mti (Ok w) = refl
begun_by_words t b mti (Err e) = refl

begun_by_type : (t : Layout) (b : List ℕ) (r : Result ℕ UnpackFault)
    → r >>= behind_type t b ≡ (r >>= λ mti. words_at t (mti_size t.mti) (drop (mti_size t.mti) b) >>= λ w. three mti (numbers_in w.0 w.1) (mti_size t.mti + w.2)) >>= behind_beginning t b
begun_by_type t b (Ok mti) = begun_by_words t b mti (words_at t (mti_size t.mti) (drop (mti_size t.mti) b))
begun_by_type t b (Err e) = refl

-- reading a message is reading what it begins with, and then its elements
pub message_begun : (t : Layout) (b : List ℕ) → message_at t b ≡ beginning_at t b >>= behind_beginning t b
message_begun t b = message_is t b ∙ begun_by_type t b (type_at t b)

-- where it is read, so are its elements
pub elements_read : (t : Layout) (b : List ℕ) (x : ℕ × List ℕ × ℕ) → beginning_at t b ≡ Ok x → IsRead (message_at t b) → IsRead (elements_at t.rows x.1 x.2 (drop x.2 b))
elements_read t b x begun read =
    let behind : IsRead (behind_beginning t b x) = subst IsRead (message_begun t b ∙ ap (λ r. r >>= behind_beginning t b) begun) read in
    bind_read (elements_at t.rows x.1 x.2 (drop x.2 b)) (λ read. whole (made x.0 read.0) read.1) behind

-- ---- what each piece gives the message

pub message_built : (t : Layout) (b : List ℕ) (x : ℕ × List ℕ × ℕ) (es : Values) (end : ℕ) → beginning_at t b ≡ Ok x → elements_at t.rows x.1 x.2 (drop x.2 b) ≡ Ok (es, end)
    → message_at t b ≡ whole (made x.0 es) end
message_built t b x es end begun elements =
    message_begun t b ∙ ap (λ r. r >>= behind_beginning t b) begun ∙ ap (λ r. r >>= λ read. whole (made x.0 read.0) read.1) elements

pub beginning_fault : (t : Layout) (b : List ℕ) (e : UnpackFault) → IsFaultOf e (beginning_at t b) → IsFaultOf e (message_at t b)
beginning_fault t b e f = (f.0, λ other. message_begun t b ∙ ap (λ r. r >>= behind_beginning t b) (f.1 other))

pub elements_fault : (t : Layout) (b : List ℕ) (x : ℕ × List ℕ × ℕ) (e : UnpackFault) → beginning_at t b ≡ Ok x → IsFaultOf e (elements_at t.rows x.1 x.2 (drop x.2 b)) → IsFaultOf e (message_at t b)
elements_fault t b x e begun f =
    (f.0, λ other. message_begun t b ∙ ap (λ r. r >>= behind_beginning t b) begun ∙ ap (λ r. r >>= λ read. whole (made x.0 read.0) read.1) (f.1 other))
