-- An exchange, turn after turn.
use Rattle.std.proofs.Common.{◌≡◌, ◌∙◌, ◌++◌, ℕ, sym, ap, List, append_assoc}
use Rattle.std.specs.Prelude.{Option}
use Rattle.std.specs.Io.KnownBytes.{Appends, Consumes}
use Rattle.std.proofs.KnownBytes.{Appends-trans, Consumes-trans}
use Rattle.iso_replay.specs.Exchanging.{Standing}
use Rattle.iso_replay.specs.Moving.{Sends, Hears}

-- a front of the frames was sent, and the rest is to be sent
pub record SentSo (frames : List ℕ) (before now : Option (List ℕ)) (s : Standing) : Type 0 where
  pub front : List ℕ
  pub taken : Appends before now front
  pub joined : frames ≡ front ++ s.unsent

-- what came is what was read
pub record HeardSo (before now : Option (List ℕ)) (s : Standing) : Type 0 where
  pub read : Consumes before now s.heard.bytes

pub sent_more : (frames : List ℕ) (before now later : Option (List ℕ)) (s t : Standing) → SentSo frames before now s → Sends now later s t → SentSo frames before later t
sent_more frames before now later s t so_far more = record {
  front = so_far.front ++ more.front;
  taken = Appends-trans before now later so_far.front more.front so_far.taken more.taken;
  joined = so_far.joined ∙ ap (λ (l : List ℕ). so_far.front ++ l) more.sent ∙ sym (append_assoc so_far.front more.front t.unsent);
}

pub still_sent : (frames : List ℕ) (before now : Option (List ℕ)) (s t : Standing) → SentSo frames before now s → t.unsent ≡ s.unsent → SentSo frames before now t
still_sent frames before now s t so_far same = record {
  front = so_far.front;
  taken = so_far.taken;
  joined = so_far.joined ∙ ap (λ (l : List ℕ). so_far.front ++ l) (sym same);
}

pub heard_more : (before now later : Option (List ℕ)) (s t : Standing) → HeardSo before now s → Hears now later s t → HeardSo before later t
heard_more before now later s t so_far more = record {
  read = rw more.came (Consumes-trans before now later s.heard.bytes more.piece so_far.read more.read);
}

pub still_heard : (before now : Option (List ℕ)) (s t : Standing) → HeardSo before now s → t.heard ≡ s.heard → HeardSo before now t
still_heard before now s t so_far same = record { read = rw same so_far.read }
