-- A read of a peer, and what is heard by it.
use Rattle.std.proofs.Common.{◌≡◌, ◌∙◌, ◌++◌, ℕ, Bool, true, false, refl, sym, ap, subst, List, [], append-nil}
use Rattle.std.specs.Prelude.{Option, Some, None, IsSome}
use Rattle.std.specs.Io.KnownBytes.{Consumes}
use Rattle.iso_issuer.specs.Books.{Books}
use Rattle.iso_peers.specs.Connection.{ConnectionState}
use Rattle.iso_guard.specs.Guarding.{GuardedState}
use Rattle.iso_lines.specs.declared.line.Line.{Line}
use Rattle.iso_lines.specs.declared.peer.Peer.{Peer}
use Rattle.iso_lines.specs.declared.standing.Closing.{Closing}
use Rattle.iso_lines.specs.Guarded.{guard_at, is_guarded}
use Rattle.iso_lines.specs.Hearing.{growth, Dealing, dealing_by, dealing_of, HearsBytes, HearsAlone, KeepsBytes}
use Rattle.iso_lines.proofs.Turns.{ended_goes_on, still_heard}
use Rattle.iso_lines.proofs.Taken.{is_off}

-- its bytes stay, and it ended or not
pub keeps_dealing : {S : Type 0} (p q : Peer S) (e : Option Closing) → KeepsBytes p q → q.standing.ended ≡ e
    → dealing_of q ≡ dealing_by (is_guarded p.line.terms.now) p.line p.connection p.guarded e
keeps_dealing p q e keeps ends =
    ap (λ (l : Line). dealing_by (is_guarded l.terms.now) l q.connection q.guarded q.standing.ended) keeps.line
    ∙ ap (λ (c : ConnectionState). dealing_by (is_guarded p.line.terms.now) p.line c q.guarded q.standing.ended) keeps.direct
    ∙ ap (λ (g : GuardedState). dealing_by (is_guarded p.line.terms.now) p.line p.connection g q.standing.ended) keeps.guarded
    ∙ ap (λ (o : Option Closing). dealing_by (is_guarded p.line.terms.now) p.line p.connection p.guarded o) ends

-- nothing is taken, and the peer ends
pub refused_heard : (key : ℕ) (d e : Dealing) (b after : Books) (bytes : List ℕ) (why : Closing) → after ≡ b → e.line ≡ d.line → e.held ≡ d.held → e.waiting ≡ d.waiting → d.ended ≡ None → e.ended ≡ Some why
    → HearsBytes key d e (growth b after) bytes
refused_heard key d e b after bytes why same line held waiting none ends = record {
  arrivals = [];
  own = tt;
  entered = same;
  line = line;
  heard = record {
    rest = d.held ++ bytes;
    front = refl;
    fit = tt;
    answers = [];
    are = refl;
    waits = waiting ∙ sym (append-nil d.waiting);
    stays = λ is. absurd (ended_goes_on why (sym ends ∙ is));
    whole = λ is no_frame. absurd (ended_goes_on why (sym ends ∙ is));
    over = λ why is. refl;
  };
}

abbrev pub KeepsOthers : {S : Type 0} → Peer S → Peer S → Type 0
KeepsOthers p q = (q.line ≡ p.line) × (q.connection ≡ p.connection) × (q.guarded ≡ p.guarded)

-- the line and the bytes of a peer stay, whatever its stream
pub others_dealing : {S : Type 0} (p q : Peer S) → KeepsOthers p q → q.standing.ended ≡ p.standing.ended → dealing_of q ≡ dealing_of p
others_dealing p q keeps ends =
    ap (λ (l : Line). dealing_by (is_guarded l.terms.now) l q.connection q.guarded q.standing.ended) keeps.0
    ∙ ap (λ (c : ConnectionState). dealing_by (is_guarded p.line.terms.now) p.line c q.guarded q.standing.ended) keeps.1
    ∙ ap (λ (g : GuardedState). dealing_by (is_guarded p.line.terms.now) p.line p.connection g q.standing.ended) keeps.2
    ∙ ap (λ (o : Option Closing). dealing_by (is_guarded p.line.terms.now) p.line p.connection p.guarded o) ends

-- nothing is heard
none_heard : (key : ℕ) (d : Dealing) (b : Books) → HearsBytes key d d (growth b b) []
none_heard key d b = record {
  arrivals = [];
  own = tt;
  entered = refl;
  line = refl;
  heard = still_heard key (guard_at d.line) d.held d.waiting d.ended b [] refl refl;
}

-- bytes are heard, and then only how the peer stands is noted
pub heard_then : {S : Type 0} (key : ℕ) (p q r : Peer S) (before after : Books) (bytes : List ℕ) → KeepsBytes q r → r.standing.ended ≡ q.standing.ended
    → HearsBytes key (dealing_of p) (dealing_of q) (growth before after) bytes → HearsBytes key (dealing_of p) (dealing_of r) (growth before after) bytes
heard_then key p q r before after bytes keeps ends heard =
    subst (λ (e : Dealing). HearsBytes key (dealing_of p) e (growth before after) bytes) (sym (keeps_dealing q r q.standing.ended keeps ends)) heard

-- the peer ends, and none of its bytes is taken
pub ended_heard : {S : Type 0} (key : ℕ) (p q : Peer S) (b : Books) (bytes : List ℕ) (why : Closing) → KeepsBytes p q → p.standing.ended ≡ None → q.standing.ended ≡ Some why
    → HearsBytes key (dealing_of p) (dealing_of q) (growth b b) bytes
ended_heard key p q b bytes why keeps none ends =
    subst (λ (e : Dealing). HearsBytes key (dealing_of p) e (growth b b) bytes) (sym (keeps_dealing p q (Some why) keeps ends))
    (by_line (is_guarded p.line.terms.now) p.line p.connection p.guarded p.standing.ended none)
  where
    by_line : (t : Bool) (l : Line) (c : ConnectionState) (g : GuardedState) (e : Option Closing) → e ≡ None → HearsBytes key (dealing_by t l c g e) (dealing_by t l c g (Some why)) (growth b b) bytes
    by_line true l c g e is = refused_heard key (dealing_by true l c g e) (dealing_by true l c g (Some why)) b b bytes why refl refl refl refl is refl
    by_line false l c g e is = refused_heard key (dealing_by false l c g e) (dealing_by false l c g (Some why)) b b bytes why refl refl refl refl is refl

module _ {S : Type 0} (remaining : S → Option (List ℕ)) where
  -- bytes came, and are heard
  pub read_heard : (key : ℕ) (p m q : Peer S) (before after : Books) (bytes : List ℕ) → KeepsOthers p m → m.standing.ended ≡ p.standing.ended
      → Consumes (remaining p.stream) (remaining m.stream) bytes → q.stream ≡ m.stream → HearsBytes key (dealing_of m) (dealing_of q) (growth before after) bytes
      → HearsAlone remaining key p q (growth before after)
  read_heard key p m q before after bytes keeps ends given stream heard = record {
    bytes = bytes;
    given = subst (λ (s : S). Consumes (remaining p.stream) (remaining s) bytes) (sym stream) given;
    hears = subst (λ (d : Dealing). HearsBytes key d (dealing_of q) (growth before after) bytes) (others_dealing p m keeps ends) heard;
  }

  -- none came
  pub read_none : (key : ℕ) (p q : Peer S) (b : Books) → KeepsOthers p q → q.standing.ended ≡ p.standing.ended → Consumes (remaining p.stream) (remaining q.stream) []
      → HearsAlone remaining key p q (growth b b)
  read_none key p q b keeps ends given = record {
    bytes = [];
    given = given;
    hears = subst (λ (d : Dealing). HearsBytes key (dealing_of p) d (growth b b) []) (sym (others_dealing p q keeps ends)) (none_heard key (dealing_of p) b);
  }

  -- none came, and it ended
  pub read_over : (key : ℕ) (p m q : Peer S) (b : Books) → KeepsOthers p m → m.standing.ended ≡ p.standing.ended → Consumes (remaining p.stream) (remaining m.stream) []
      → KeepsBytes m q → p.standing.ended ≡ None → IsSome q.standing.ended → HearsAlone remaining key p q (growth b b)
  read_over key p m q b keeps ends given bytes none some = record {
    bytes = [];
    given = subst (λ (s : S). Consumes (remaining p.stream) (remaining s) []) (sym bytes.stream) given;
    hears = subst (λ (d : Dealing). HearsBytes key d (dealing_of q) (growth b b) []) (others_dealing p m keeps ends) (by_end q.standing.ended refl some);
  }
    where
      by_end : (e : Option Closing) → q.standing.ended ≡ e → IsSome e → HearsBytes key (dealing_of m) (dealing_of q) (growth b b) []
      by_end (Some why) is some = ended_heard key m q b [] why bytes (ends ∙ none) is
      by_end None is some = absurd (subst is_off some tt)
