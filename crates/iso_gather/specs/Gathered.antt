-- What a disk shows that gathers writes.
use Rattle.std.specs.Prelude.{◌≡◌, ◌&&◌, ℕ, Bool, not, List}
use Rattle.sqlite_disk.specs.declared.Disk.{Ghosts}
use Rattle.sqlite_disk.specs.declared.tally.Tally.{Tally as Counts}
use Rattle.iso_gather.specs.declared.gathered.GatheredDisk.{GatheredDisk}
use Rattle.iso_gather.specs.Shown.{shown, Leaves}

module _ {D : Type 0} {g : Ghosts D} where
  -- the disk that it hands writes to
  abbrev pub inner_of : GatheredDisk D g → D
  inner_of it = it.inner

  -- its member `seen`
  abbrev pub seen_of : GatheredDisk D g → List ℕ
  seen_of it = shown it.at it.waiting.items (g.seen it.inner)

  -- its member `may_leave`
  abbrev pub left_of : GatheredDisk D g → List ℕ → Type 0
  left_of it = Leaves it.at it.waiting.items (g.may_leave it.inner)

  -- its member `is_usable`: no sync has failed, nor the writing of what waited for it
  abbrev pub usable_of : GatheredDisk D g → Bool
  usable_of it = g.is_usable it.inner && not it.has_failed

  -- its member `tally_of`: the disk below counts the damage, and this one the calls that write and find no room
  abbrev pub counts_of : GatheredDisk D g → Counts
  counts_of it = record { caught = (g.tally_of it.inner).caught; refused = it.refused }

  -- a call that doesn't read leaves these of the disk below as they were
  pub record IsKept (old new : GatheredDisk D g) : Type 0 where
    pub calm : g.is_clean new.inner ≡ g.is_clean old.inner
    pub fair : g.is_fair new.inner ≡ g.is_fair old.inner
    pub key : g.key_of new.inner ≡ g.key_of old.inner
    pub caught : (g.tally_of new.inner).caught ≡ (g.tally_of old.inner).caught
