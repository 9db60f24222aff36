-- What moves between an exchange and its host.
use Rattle.std.specs.Prelude.{◌≡◌, ℕ, List, ◌++◌, Option}
use Rattle.std.specs.Io.KnownBytes.{Appends, Consumes}
use Rattle.iso_replay.specs.Exchanging.{Standing}

-- the host took a front of what is to be sent; nothing came
pub record Sends (before after : Option (List ℕ)) (old new : Standing) : Type 0 where
  pub front : List ℕ
  pub taken : Appends before after front
  pub sent : old.unsent ≡ front ++ new.unsent
  pub heard : new.heard ≡ old.heard
  pub wanted : new.wanted ≡ old.wanted
  pub patience : new.patience ≡ old.patience

-- a piece came; nothing was sent
pub record Hears (before after : Option (List ℕ)) (old new : Standing) : Type 0 where
  pub piece : List ℕ
  pub read : Consumes before after piece
  pub header : new.heard.header ≡ old.heard.header
  pub came : new.heard.bytes ≡ old.heard.bytes ++ piece
  pub unsent : new.unsent ≡ old.unsent
  pub wanted : new.wanted ≡ old.wanted
  pub patience : new.patience ≡ old.patience
