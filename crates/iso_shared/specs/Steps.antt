-- What the calls of a log do.
use Rattle.std.specs.Prelude.{◌≡◌, ◌≢◌, ℕ, ◌+◌, true, false, List, [], ◌∷◌, ◌++◌}
use Rattle.std.specs.Prelude.{Some, None, Result, Ok, Err, slice_get, IsSomeAnd, MatchBool, MatchOption}
use Rattle.iso_record.specs.declared.row.Row.{Row}
use Rattle.iso_durable.specs.declared.log.LogFailed.{LogFailed}
use Rattle.iso_shared.specs.declared.log.SharedLog.{SharedLog}
use Rattle.iso_shared.specs.declared.why.Why.{Why}
use Rattle.iso_shared.specs.declared.why.Why.TheVariants.{Fenced, InDoubt, Away, TooLarge, Memory}
use Rattle.iso_shared.specs.Batch.{is_filed}
use Rattle.iso_shared.specs.Store.{Grows, SentOnly}
use Rattle.iso_shared.specs.Log.{made, made_bytes, is_full}

module _ {S P : Type 0} (kept sent : S → List (List ℕ)) where
  -- the batch that was being made stands at the place behind those that were known, and these rows are left
  pub record Sends (old new : SharedLog S P) (left : List Row) : Type 0 where
    pub grows : Grows (kept old.store) (kept new.store)
    pub sent_only : SentOnly (sent old.store) (sent new.store) (made_bytes old)
    pub filed : is_filed (made old) ≡ true
    pub stands : slice_get (kept new.store) old.seen ≡ Some (made_bytes old)
    pub seen : new.seen ≡ old.seen + 1
    pub rows : new.rows.items ≡ left
    pub writer : new.writer ≡ old.writer

  -- nothing was sent, and these rows are left
  pub record Holds (old new : SharedLog S P) (left : List Row) : Type 0 where
    pub store : new.store ≡ old.store
    pub seen : new.seen ≡ old.seen
    pub rows : new.rows.items ≡ left
    pub writer : new.writer ≡ old.writer

  -- it failed: the batch may come to stand, and the log is as it was
  pub record Stays (old new : SharedLog S P) : Type 0 where
    pub grows : Grows (kept old.store) (kept new.store)
    pub sent_only : SentOnly (sent old.store) (sent new.store) (made_bytes old)
    pub seen : new.seen ≡ old.seen
    pub synced : new.synced ≡ old.synced
    pub rows : new.rows.items ≡ old.rows.items
    pub writer : new.writer ≡ old.writer

  -- the reason of a failure
  abbrev pub IsWhy : SharedLog S P → SharedLog S P → Why → Type 0
  IsWhy old new Fenced =
      (other : List ℕ) × (slice_get (kept new.store) old.seen ≡ Some other)
      × (other ≢ made_bytes old)
  IsWhy old new InDoubt = Unit {0}
  IsWhy old new Away = sent new.store ≡ sent old.store
  IsWhy old new TooLarge = is_filed (made old) ≡ false
  IsWhy old new Memory = sent new.store ≡ sent old.store

  -- a row is added: it joins the batch, or begins the next one where that is full
  pub record Adds (old new : SharedLog S P) (row : Row) : Type 0 where
    pub steps : MatchBool (is_full old) (Sends old new (row ∷ []))
        (Holds old new (old.rows.items ++ row ∷ []))
    pub synced : new.synced ≡ old.synced

  -- the batch is sent, if it has an order
  abbrev pub FlushesBy : List Row → SharedLog S P → SharedLog S P → Type 0
  FlushesBy [] old new = Holds old new []
  FlushesBy (r ∷ rs) old new = Sends old new []

  -- what waits is synced
  pub record Flushes (old new : SharedLog S P) : Type 0 where
    pub steps : FlushesBy old.rows.items old new
    pub synced : new.synced ≡ new.seen

  -- it succeeds only where no call failed before, and tells why from then on
  abbrev pub Fails : SharedLog S P → SharedLog S P → Result Unit LogFailed → Type 0
  Fails old new (Ok done) = (old.failure ≡ None) × (new.failure ≡ None)
  Fails old new (Err e) = MatchOption old.failure (IsSomeAnd new.failure (IsWhy old new))
      (λ before. new.failure ≡ Some before)
