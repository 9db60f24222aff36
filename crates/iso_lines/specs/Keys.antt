-- The peers of a host, by their keys, and what stays of them.
use Rattle.std.specs.Prelude.{◌≡◌, ◌≢◌, ℕ, All, List, [], Option, None, Some}
use Rattle.slab.specs.Slab.{get}
use Rattle.iso_lines.specs.declared.peer.Peer.{Peer}
use Rattle.iso_lines.specs.declared.peers.Peers.{Peers}
use Rattle.iso_lines.specs.Standing.{closing_of}

module _ {S : Type 0} where
  -- the peer under a key
  abbrev pub peer_at : Peers S → ℕ → Option (Peer S)
  peer_at peers key = get peers.all key

  -- the keys of those that a turn looks at, in their order
  abbrev pub looked_at : Peers S → List ℕ
  looked_at peers = peers.listed.items

  -- under every other key the peer is as it was
  abbrev pub OthersStay : ℕ → Peers S → Peers S → Type 0
  OthersStay key old new = (k : ℕ) → k ≢ key → peer_at new k ≡ peer_at old k

  -- under every key but these the peer is as it was
  abbrev pub AllOthersStay : List ℕ → Peers S → Peers S → Type 0
  AllOthersStay keys old new = (k : ℕ) → All (λ key. k ≢ key) keys → peer_at new k ≡ peer_at old k

  -- under every key the peer is as it was
  abbrev pub AllStay : Peers S → Peers S → Type 0
  AllStay old new = (k : ℕ) → peer_at new k ≡ peer_at old k

  -- a peer was let in on this stream: nothing came of it, and nothing waits
  abbrev pub IsLetIn : S → Option (Peer S) → Type 0
  IsLetIn stream None = ⊥
  IsLetIn stream (Some p) =
      (p.stream ≡ stream)
      × (p.connection.peer.held ≡ []) × (p.connection.waiting ≡ []) × (p.guarded.held ≡ [])
      × (p.guarded.waiting ≡ [])

  -- a peer is the same but for when it is looked at: its stream, its line, what it holds and what waits, and how it stands
  pub record IsSame (old new : Peer S) : Type 0 where
    pub stream : new.stream ≡ old.stream
    pub line : new.line ≡ old.line
    pub direct : new.connection ≡ old.connection
    pub guarded : new.guarded ≡ old.guarded
    pub notes : new.notes ≡ old.notes
    pub standing : new.standing ≡ old.standing

  -- so it is, where there is one
  abbrev pub SameAt : Option (Peer S) → Option (Peer S) → Type 0
  SameAt None after = after ≡ None
  SameAt (Some p) None = ⊥
  SameAt (Some p) (Some q) = IsSame p q

  -- at this moment a peer stays the same, or it was to be closed and is gone
  abbrev pub StaysOrGoes : ℕ → Option (Peer S) → Option (Peer S) → Type 0
  StaysOrGoes now None after = after ≡ None
  StaysOrGoes now (Some p) None = closing_of p.line.terms.now.limits p.standing now ≢ None
  StaysOrGoes now (Some p) (Some q) = IsSame p q

  -- so does each of them
  abbrev pub EachStaysOrGoes : ℕ → Peers S → Peers S → Type 0
  EachStaysOrGoes now old new = (k : ℕ) → StaysOrGoes now (peer_at old k) (peer_at new k)
