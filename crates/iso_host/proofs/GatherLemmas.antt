-- A body of which some bytes came.
use Rattle.std.proofs.Common.{◌≡◌, ◌≢◌, ℕ, zero, suc, ◌<◌, ◌≤◌, List, [], ◌∷◌, ◌++◌, length, length-append, Option, Some, None, Err, sym, ap, subst, ◌∙◌, arith}
use Rattle.iso_wire.specs.declared.fault.UnpackFault.{UnpackFault}
use Rattle.iso_wire.specs.declared.fault.UnpackCause.TheVariants.{Short}
use Rattle.iso_table.specs.Layout.{Layout, AreGood}
use Rattle.iso_wire.specs.Contents.{Contents}
use Rattle.iso_wire.specs.Unpacker.{Feeding}
use Rattle.iso_wire.specs.Reading.{message_at, whole}
use Rattle.iso_wire.specs.ReadingLaws.{IsShort, ReadingStays, ReadsSpellings}
use Rattle.iso_wire.specs.Spelling.{AreBytes}
use Rattle.iso_host.specs.Asking.{message_in, whole_by}
use Rattle.iso_host.specs.Gathering.{Holds, IsGathered, IsLost, ReadsBody}
use Rattle.iso_host.specs.Hosting.{IsBodyFault}
use Rattle.iso_host.specs.declared.handled.BodyFault.{BodyFault}
use Rattle.iso_host.specs.declared.handled.BodyFault.TheVariants.{Stops, Behind}
use Rattle.iso_host.proofs.AnswerLemmas.{no_message}
use Rattle.iso_host.proofs.BodyLemmas.{is_there}

-- ---- what the bytes tell, whatever follows

pub lost_fault : ReadingStays → (t : Layout) (b : List ℕ) (e : UnpackFault) → AreGood t.rows → AreBytes b → message_at t b ≡ Err e → e.cause ≢ Short → IsLost t b (Stops e)
lost_fault stays t b e good bytes read other rest some = stays t b rest good bytes (λ short. other (subst IsShort read short)) ∙ read

pub lost_behind : ReadingStays → (t : Layout) (b : List ℕ) (m : Contents) (n end : ℕ) → AreGood t.rows → AreBytes b → message_at t b ≡ whole m n → n ≤ length b → end ≡ n → IsLost t b (Behind end)
lost_behind stays t b m n end good bytes read within same rest some = (
  (m, stays t b rest good bytes (λ short. absurd (subst IsShort read short)) ∙ read ∙ ap (whole m) (sym same)),
  omega (arith, within, same, some, length-append b rest),
)

-- ---- further bytes

pub bytes_append : (a b : List ℕ) → AreBytes a → AreBytes b → AreBytes (a ++ b)
bytes_append [] b first second i = second i
bytes_append (x ∷ a) b first second zero = first 0
bytes_append (x ∷ a) b first second (suc i) = bytes_append a b (λ k. first (suc k)) second i

-- of one that may be a message
pub more_fed : (u new : Feeding) (part piece : List ℕ) (told : Option BodyFault) → IsGathered u part None → new.table ≡ u.table → AreBytes piece → Holds new (u.taken ++ piece) told → IsGathered new (part ++ piece) told
more_fed u new part piece told gathered same bytes holds = record {
  good = subst (λ (t : Layout). AreGood t.rows) (sym same) gathered.good;
  bytes = bytes_append part piece gathered.bytes bytes;
  holds = subst (λ (l : List ℕ). Holds new (l ++ piece) told) gathered.holds.0 holds;
}

-- ---- the last bytes

-- all of it is one message
pub reads_whole : ReadsSpellings → (t : Layout) (b : List ℕ) (m : Contents) (n : ℕ) → AreGood t.rows → AreBytes b → message_at t b ≡ whole m n → n ≡ length b → ReadsBody t b m None
unfolding message_in
reads_whole reads t b m n good bytes read all = (
  ap (whole_by (length b)) (read ∙ ap (whole m) all) ∙ is_there (length b) m,
  (_, ((reads t m n b good bytes).0 read).1),
)

-- its message ends before it does
pub reads_behind : ReadsSpellings → (t : Layout) (b : List ℕ) (m into : Contents) (n : ℕ) → AreGood t.rows → AreBytes b → message_at t b ≡ whole m n → n ≢ length b → ReadsBody t b into (Some (Behind n))
reads_behind reads t b m into n good bytes read other =
    let within : n ≤ length b = ((reads t m n b good bytes).0 read).0 in
    let fault : IsBodyFault t b (Behind n) = ((m, read), before within other) in
    (no_message t b (Behind n) fault, fault)
  where
    before : n ≤ length b → n ≢ length b → n < length b
    before within other = omega (arith, within, other)

-- what was known of it before
pub reads_lost : (u : Feeding) (part piece : List ℕ) (into : Contents) (fault : BodyFault) → IsGathered u part (Some fault) → 0 < length piece → ReadsBody u.table (part ++ piece) into (Some fault)
reads_lost u part piece into fault gathered some =
    let is = gathered.holds.2 piece some in
    (no_message u.table (part ++ piece) fault is, is)

-- ---- the unpacker behind a piece

abbrev pub emptied : Feeding → Feeding
emptied u = record { table = u.table; taken = []; stopped = None }

-- it told a message that ends before the body
pub holds_behind : ReadingStays → (old new : Feeding) (b : List ℕ) (m : Contents) (n end : ℕ) → new ≡ emptied old → AreGood old.table.rows → AreBytes b → message_at old.table b ≡ whole m n → n ≤ length b → end ≡ n
    → Holds new b (Some (Behind end))
holds_behind stays old new b m n end is good bytes read within same = (
  ap (λ (u : Feeding). u.taken) is,
  ap (λ (u : Feeding). u.stopped) is,
  subst (λ (t : Layout). IsLost t b (Behind end)) (sym (ap (λ (u : Feeding). u.table) is)) (lost_behind stays old.table b m n end good bytes read within same),
)

-- it told a fault
pub holds_fault : ReadingStays → (old new : Feeding) (b : List ℕ) (e : UnpackFault) → new ≡ emptied old → AreGood old.table.rows → AreBytes b → message_at old.table b ≡ Err e → e.cause ≢ Short → Holds new b (Some (Stops e))
holds_fault stays old new b e is good bytes read other = (
  ap (λ (u : Feeding). u.taken) is,
  ap (λ (u : Feeding). u.stopped) is,
  subst (λ (t : Layout). IsLost t b (Stops e)) (sym (ap (λ (u : Feeding). u.table) is)) (lost_fault stays old.table b e good bytes read other),
)

-- before any byte
pub none_gathered : (u : Feeding) (part : List ℕ) (t : Layout) → u ≡ record { table = t; taken = []; stopped = None } → AreGood t.rows → part ≡ [] → IsGathered u part None
none_gathered u part t is good none = record {
  good = subst (λ (l : Layout). AreGood l.rows) (sym (ap (λ (x : Feeding). x.table) is)) good;
  bytes = subst AreBytes (sym none) no_bytes;
  holds = (ap (λ (x : Feeding). x.taken) is ∙ sym none, ap (λ (x : Feeding). x.stopped) is);
}
  where
    no_bytes : AreBytes []
    no_bytes i = omega arith
