use Rattle.std.proofs.Common.{◌≡◌, drop}
use Rattle.iso_front.specs.Shards.{shard_in}
use Rattle.iso_front.proofs.shards.shard_in.Given as goal

-- the prefixes so far don't begin the account number
abbrev pub invariant-loop-one : goal.invariant-loop-one
invariant-loop-one l = shard_in (drop l.one-index l.given) l.pan ≡ shard_in l.given l.pan
