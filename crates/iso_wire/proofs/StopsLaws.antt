-- What follows from the law that reading gives a fault exactly where the bytes stop.
use Rattle.std.proofs.Common.{◌≡◌, ◌≢◌, ℕ, List, ◌++◌, Result, Ok, Err, ◌⊎◌, refl, sym, ap, subst, ◌∙◌, inl, inr}
use Rattle.std.specs.Prelude.{IfErr}
use Rattle.iso_table.specs.Layout.{Layout, AreGood}
use Rattle.iso_wire.specs.declared.fault.UnpackFault.{UnpackFault}
use Rattle.iso_wire.specs.declared.fault.UnpackCause.{UnpackCause}
use Rattle.iso_wire.specs.declared.fault.UnpackCause.TheVariants.{Short, Memory}
use Rattle.iso_wire.specs.declared.unpacker.Fed.{Fed}
use Rattle.iso_wire.specs.declared.unpacker.Fed.TheVariants as fed
use Rattle.iso_wire.specs.Contents.{Contents}
use Rattle.iso_wire.specs.Unpacker.{Feeds, StopsFed}
use Rattle.iso_wire.specs.Viewing.{ViewContents, Views}
use Rattle.iso_wire.specs.Reading.{halt, message_at, whole, Unpacks}
use Rattle.iso_wire.specs.ReadingLaws.{IsShort, ReadsSpellings, ReadingStays}
use Rattle.iso_wire.specs.Spelling.{AreBytes, BeginsWith}
use Rattle.iso_wire.specs.Stops.{Stops}
use Rattle.iso_wire.specs.StopsLaws.{StopsAsRead, SpellsOrStops, NeverBoth, StopsOnce, StopsStay}
use Rattle.iso_wire.proofs.Bytes.{bytes_append}
use Rattle.iso_wire.proofs.StopsMaps.{fault_is, fault_at}

abbrev SpelledOrStopped : Layout → List ℕ → Type 0
SpelledOrStopped t b = ((m : Contents) × (n : ℕ) × BeginsWith t m n b) ⊎ ((at : ℕ) × (element : ℕ) × (cause : UnpackCause) × Stops t b at element cause)

module _ (reads : ReadsSpellings) (stays : ReadingStays) (stops : StopsAsRead) where
  spelled_or_stopped_by : (r : Result (Contents × ℕ) UnpackFault) (t : Layout) (b : List ℕ) → AreGood t.rows → AreBytes b → message_at t b ≡ r → SpelledOrStopped t b
  spelled_or_stopped_by (Ok x) t b good bytes is = inl (x.0, x.1, (reads t x.0 x.1 b good bytes).0 is)
  spelled_or_stopped_by (Err e) t b good bytes is = inr (e.at, e.element, e.cause, (stops t b e.at e.element e.cause good bytes).0 is)

  pub spells_or_stops : SpellsOrStops
  spells_or_stops t b good bytes = spelled_or_stopped_by (message_at t b) t b good bytes refl

  pub never_both : NeverBoth
  never_both t b m n at element cause good bytes begins stop =
      absurd (let other : whole m n ≡ halt element at cause = sym ((reads t m n b good bytes).1 begins) ∙ (stops t b at element cause good bytes).1 stop in cc)

  pub stops_once : StopsOnce
  stops_once t b at element other_at other_element cause other_cause good bytes one two =
      let same = fault_is {A = Contents × ℕ} (fault_at element at cause) (fault_at other_element other_at other_cause) (sym ((stops t b at element cause good bytes).1 one) ∙ (stops t b other_at other_element other_cause good bytes).1 two) in
      (ap (λ (e : UnpackFault). e.at) same, ap (λ (e : UnpackFault). e.element) same, ap (λ (e : UnpackFault). e.cause) same)

  pub stops_stay : StopsStay
  stops_stay t b more at element cause good bytes others long stop =
      let read = (stops t b at element cause good bytes).1 stop in
      let again : message_at t (b ++ more) ≡ message_at t b = stays t b more good bytes (λ short. long (subst IsShort read short)) in
      (stops t (b ++ more) at element cause good (bytes_append b more bytes others)).0 (again ∙ read)

-- ---- what a function that reads answers

module _ (stops : StopsAsRead) where
  -- a fault is where the bytes stop
  pub fault_stops : (t : Layout) (b : List ℕ) (r : Result (Contents × ℕ) UnpackFault) → AreGood t.rows → AreBytes b → Unpacks r (message_at t b) → IfErr r (λ e. e.cause ≢ Memory → Stops t b e.at e.element e.cause)
  fault_stops t b (Ok x) good bytes h = tt
  fault_stops t b (Err e) good bytes h = λ other. (stops t b e.at e.element e.cause good bytes).0 (h.1 other)

  -- and where the bytes stop is the fault
  pub stop_is_told : (t : Layout) (b : List ℕ) (r : Result (Contents × ℕ) UnpackFault) → AreGood t.rows → AreBytes b → Unpacks r (message_at t b) → (at element : ℕ) (cause : UnpackCause) → Stops t b at element cause → Unpacks r (halt element at cause)
  stop_is_told t b r good bytes h at element cause stop = subst (Unpacks r) ((stops t b at element cause good bytes).1 stop) h

  -- a view's fault is where the bytes stop
  pub view_stops : (t : Layout) (b : List ℕ) (r : Result ViewContents UnpackFault) → AreGood t.rows → AreBytes b → Views t b r (message_at t b) → IfErr r (λ e. Stops t b e.at e.element e.cause)
  view_stops t b (Ok v) good bytes h = tt
  view_stops t b (Err e) good bytes h = (stops t b e.at e.element e.cause good bytes).0 h

  -- and where the bytes stop is its fault
  pub stop_is_viewed : (t : Layout) (b : List ℕ) (r : Result ViewContents UnpackFault) → AreGood t.rows → AreBytes b → Views t b r (message_at t b) → (at element : ℕ) (cause : UnpackCause) → Stops t b at element cause → Views t b r (halt element at cause)
  stop_is_viewed t b r good bytes h at element cause stop = subst (Views t b r) ((stops t b at element cause good bytes).1 stop) h

  short_stops : (r : Result (Contents × ℕ) UnpackFault) (t : Layout) (b : List ℕ) → AreGood t.rows → AreBytes b → message_at t b ≡ r → IsShort r → (at : ℕ) × (element : ℕ) × Stops t b at element Short
  short_stops (Ok x) t b good bytes is h = absurd h
  short_stops (Err e) t b good bytes is h = (e.at, e.element, subst (λ (c : UnpackCause). Stops t b e.at e.element c) h ((stops t b e.at e.element e.cause good bytes).0 is))

  -- what is answered to a piece tells where all the bytes stop
  pub fed_stops : (t : Layout) (before : ℕ) (b : List ℕ) (r : Result Fed UnpackFault) → AreGood t.rows → AreBytes b → Feeds before r (message_at t b) → StopsFed t b r
  fed_stops t before b (Ok (fed.Done message used)) good bytes h = tt
  fed_stops t before b (Ok fed.More) good bytes h = short_stops (message_at t b) t b good bytes refl h
  fed_stops t before b (Err e) good bytes h = λ other. (stops t b e.at e.element e.cause good bytes).0 (h.0.1 other)

  -- and where they stop is answered
  pub stop_is_fed : (t : Layout) (before : ℕ) (b : List ℕ) (r : Result Fed UnpackFault) → AreGood t.rows → AreBytes b → Feeds before r (message_at t b) → (at element : ℕ) (cause : UnpackCause) → Stops t b at element cause → Feeds before r (halt element at cause)
  stop_is_fed t before b r good bytes h at element cause stop = subst (Feeds before r) ((stops t b at element cause good bytes).1 stop) h
