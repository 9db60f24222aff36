-- What stops a piece of one peer.
use Rattle.std.proofs.Common.{◌≡◌, ℕ, List, sym, subst, drop}
use Rattle.std.specs.Prelude.{Bool, Some, true, IfOk, OnErr}
use Rattle.iso_issuer.specs.Books.{Books}
use Rattle.iso_host.specs.Peers.{Refuses, Unfinished}
use Rattle.iso_host.specs.declared.peer.PeerFault.{PeerFault}
use Rattle.iso_host.specs.declared.peer.PeerFault.TheVariants as peer
use Rattle.iso_peers.specs.Connection.{ConnectionState}
use Rattle.iso_peers.specs.Pieces.{PieceLaws, TakenSoFar}
use Rattle.iso_peers.specs.Turn.{AtBooks, TakesAll, RefusesTurn, BooksChange, at_books, books_change}
use Rattle.iso_peers.specs.declared.fault.TurnFault.{TurnFault}
use Rattle.iso_peers.specs.declared.fault.TurnFault.TheVariants.{Log, BadHeader, Memory}
use Rattle.iso_lines.specs.Hearing.{stopped_at}

module _ (books : Books) (laws : PieceLaws books) (first mid : AtBooks) (new : ConnectionState) (after : Books) (bytes : List ℕ) (used : ℕ)
    (so : TakenSoFar first mid bytes used) (same : new ≡ mid.connection) where
  refused_by : (why : PeerFault) → Refuses mid.connection.peer mid.books after (drop used bytes) why → TakesAll first (at_books new after) bytes (record { used = used; stopped = Some why })
  refused_by why refuses =
      subst (λ (c : ConnectionState). TakesAll first (at_books c after) bytes (record { used = used; stopped = Some why })) (sym same)
      (laws.refused first mid bytes used after why so refuses)

  -- a fault stops it, unless the log had failed
  pub stopped_takes : (failed : Bool) (why : TurnFault) → RefusesTurn failed mid.connection.peer (books_change mid.books after) (drop used bytes) why
      → IfOk (stopped_at used why) (TakesAll first (at_books new after) bytes)
  stopped_takes failed Log refused = tt
  stopped_takes failed BadHeader refused = refused_by peer.BadHeader refused.1
  stopped_takes failed Memory refused = refused_by peer.Memory refused.1

-- only a log that had failed fails
pub stopped_refuses : (failed : Bool) (p : Unfinished) (books : BooksChange) (bytes : List ℕ) (used : ℕ) (why : TurnFault) → RefusesTurn failed p books bytes why → OnErr (stopped_at used why) (failed ≡ true)
stopped_refuses failed p books bytes used Log refused = refused.0
stopped_refuses failed p books bytes used BadHeader refused = tt
stopped_refuses failed p books bytes used Memory refused = tt
