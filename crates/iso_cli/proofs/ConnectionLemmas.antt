-- Connections that were served one after the other.
use Rattle.std.proofs.Common.{◌≡◌, refl, sym, ap, subst, ◌∙◌, inl, inr, ◌+◌, ◌<◌, ℕ, List, [], ◌∷◌, ◌++◌, append-nil, arith}
use Rattle.std.proofs.KnownBytes.{Appends-nil, Appends-trans}
use Rattle.std.proofs.lemmas.List.{length-append}
use Rattle.std.proofs.lemmas.List.Concat.{flat_map-append}
use Rattle.std.proofs.lemmas.List.Elements.{All-nil, All-push}
use Rattle.std.specs.Prelude.{◌≢◌, flat_map, Result, Ok, Err}
use Rattle.std.specs.declared.option.Option.{Option}
use Rattle.std.specs.Io.KnownBytes.{Appends}
use Rattle.iso_table.specs.Layout.{Layout}
use Rattle.iso_issuer.specs.Books.{Books}
use Rattle.iso_host.specs.Links.{Agreed}
use Rattle.iso_host.specs.Serving.{Leaves, Standing}
use Rattle.iso_host.specs.Entering.{books_after_bodies, BodiesGoOn, StaysWithout}
use Rattle.iso_host.specs.declared.fault.Report.{Report}
use Rattle.iso_host.specs.declared.fault.ServeFault.{ServeFault}
use Rattle.iso_host.specs.declared.fault.ServeFault.TheVariants.{Read, Write, BadHeader, CutFrame, Memory, TooManyTurns}
use Rattle.iso_cli.specs.Connections.{Connection, CountsBodies, Lines, OneJournal, Port, Serves, TellsAll, fault_line, output_line}
use Rattle.iso_cli.specs.OneConnection.{IsConnection, TellsConnectionEnd, TellsEnd}

-- ---- so far

-- so many connections were served and told
pub record SoFar (t : Layout) (before now : Port) (served : ℕ) : Type 0 where
  pub connections : List Connection
  pub one_journal : OneJournal t before.books now.books served connections
  pub tells_all : TellsAll before.told now.told served connections

pub so_far_none : (t : Layout) (before : Port) → StaysWithout before.books → SoFar t before before 0
so_far_none t before stays = record {
  connections = [];
  one_journal = record { few = omega arith; journal = sym (stays t); counted = All-nil _ };
  tells_all = record { every = refl; output = Appends-nil before.told.output; faults = Appends-nil before.told.faults; memory = All-nil _ };
}

-- one connection more, on the journal that those before it left
one_more : BodiesGoOn → (t : Layout) (old mid new : Books) (served most : ℕ) (connections : List Connection) (ended : Result Report ServeFault) → OneJournal t old mid served connections
    → served < most → (next : IsConnection t mid new ended) → OneJournal t old new most (connections ++ record { bodies = next.bodies; ended = ended } ∷ [])
one_more go_on t old mid new served most connections ended so_far room next = record {
  few = rw (length-append connections (record { bodies = next.bodies; ended = ended } ∷ [])) (omega (arith, so_far.few, room));
  journal =
      next.journal ∙ ap (λ (b : Books). books_after_bodies t b next.bodies) so_far.journal ∙ go_on t old (flat_map (λ c. c.bodies) connections) next.bodies
      ∙ ap (books_after_bodies t old) (ap (λ (l : List (List ℕ)). flat_map (λ c. c.bodies) connections ++ l) (sym (append-nil next.bodies))
      ∙ sym (flat_map-append (λ c. c.bodies) connections (record { bodies = next.bodies; ended = ended } ∷ [])));
  counted = All-push (λ c. CountsBodies t c.bodies c.ended) connections (record { bodies = next.bodies; ended = ended }) so_far.counted next.counted;
}

-- its lines behind those before
lines_more : (line : Connection → List ℕ) (held written new : Option (List ℕ)) (connections : List Connection) (c : Connection)
    → Appends held written (flat_map line connections) → Appends written new (line c) → Appends held new (flat_map line (connections ++ c ∷ []))
lines_more line held written new connections c before here =
    subst (Appends held new) (ap (λ (l : List ℕ). flat_map line connections ++ l) (sym (append-nil (line c))) ∙ sym (flat_map-append line connections (c ∷ [])))
    (Appends-trans held written new (flat_map line connections) (line c) before here)

pub so_far_more : BodiesGoOn → (t : Layout) (before now next : Port) (served : ℕ) (ended : Result Report ServeFault)
    → SoFar t before now served → IsConnection t now.books next.books ended → TellsEnd now.told next.told ended → SoFar t before next (served + 1)
so_far_more go_on t before now next served ended so_far connection end = record {
  connections = so_far.connections ++ record { bodies = connection.bodies; ended = ended } ∷ [];
  one_journal = one_more go_on t before.books now.books next.books served (served + 1) so_far.connections ended so_far.one_journal (omega arith) connection;
  tells_all = record {
    every = length-append so_far.connections (record { bodies = connection.bodies; ended = ended } ∷ []) ∙ ap (λ n. n + 1) so_far.tells_all.every;
    output = lines_more (λ c. output_line c.ended) before.told.output now.told.output next.told.output so_far.connections (record { bodies = connection.bodies; ended = ended }) so_far.tells_all.output end.output;
    faults = lines_more (λ c. fault_line c.ended) before.told.faults now.told.faults next.told.faults so_far.connections (record { bodies = connection.bodies; ended = ended }) so_far.tells_all.faults end.faults;
    memory = All-push (λ c. c.ended ≢ Err Memory) so_far.connections (record { bodies = connection.bodies; ended = ended }) so_far.tells_all.memory end.memory;
  };
}

-- what was told of an end, where the next connection is served
pub told_on : (before after : Lines) (ended : Result Report ServeFault) (status : ℕ) → TellsConnectionEnd before after ended status → status ≡ 0 → TellsEnd before after ended
told_on before after ended status (inl end) none = end.1
told_on before after ended status (inr failed) none = absurd (omega (arith, failed, none))

-- and where it isn't
pub told_off : (before after : Lines) (ended : Result Report ServeFault) (status : ℕ) → TellsConnectionEnd before after ended status → (status ≡ 0 → ⊥) → status ≡ 3
told_off before after ended status (inl end) some = absurd (some end.0)
told_off before after ended status (inr failed) some = failed

-- ---- at the end

-- the last one was served, and not told
pub serves_some : BodiesGoOn → (t : Layout) (before now after : Port) (count served : ℕ) (ended : Result Report ServeFault) (status : ℕ)
    → SoFar t before now served → served < count → IsConnection t now.books after.books ended → status ≡ 3 → Serves t before after count status
serves_some go_on t before now after count served ended status so_far room next failed = record {
  connections = so_far.connections ++ record { bodies = next.bodies; ended = ended } ∷ [];
  one_journal = one_more go_on t before.books now.books after.books served count so_far.connections ended so_far.one_journal room next;
  outcome = inr failed;
}

-- ---- one connection

-- a stream that was served is a connection
pub is_connection : (l : Agreed) (before after : Standing) (ended : Result Report ServeFault) → Leaves l before after ended → IsConnection l.table before.books after.books ended
is_connection l before after (Ok report) o = record { bodies = o.0; journal = o.2.books; counted = o.4.2 }
is_connection l before after (Err Read) o = record { bodies = o.0; journal = o.2.books; counted = tt }
is_connection l before after (Err BadHeader) o = record { bodies = o.0; journal = o.2.books; counted = tt }
is_connection l before after (Err CutFrame) o = record { bodies = o.0; journal = o.2.books; counted = tt }
is_connection l before after (Err Write) o = record { bodies = o.0; journal = o.2.books; counted = tt }
is_connection l before after (Err Memory) o = record { bodies = o.0; journal = o.2.books; counted = tt }
is_connection l before after (Err TooManyTurns) o = record { bodies = o.0; journal = o.2.books; counted = tt }
