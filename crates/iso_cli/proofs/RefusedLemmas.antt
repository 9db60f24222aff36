-- Which stop a fault is.
use Rattle.std.proofs.Common.{◌≡◌, ◌≢◌, inl, inr, ℕ, Bool, true, false, IsTrue, List, [], ◌∷◌, Option, IfSome, IfErr, OnOk, Result, Ok, Err, refl, ap, subst, sym, ◌∙◌, arith}
use Rattle.std.specs.Prelude.{codes}
use Rattle.std.specs.Io.KnownBytes.{Appends}
use Rattle.iso_host.specs.Counts.{Stream, Usage}
use Rattle.iso_host.specs.declared.fault.Report.{Report}
use Rattle.iso_table.specs.Document.{IsNotJson, IsDocumentFault}
use Rattle.iso_table.specs.declared.fault.TableFault.{TableFault}
use Rattle.iso_table.specs.declared.fault.TableFault.TheVariants.{NotJson, Shape, BadVersion, BadNumber, Twice, BadMax, CodingClass, PadNotAllowed, Profile, Memory}
use Rattle.iso_cli.specs.Stop.{status_of, line_of, stop_of_table, stop_of_words}
use Rattle.iso_cli.specs.Connections.{report_text}
use Rattle.iso_cli.specs.Tells.{Tells, TellsLineOf, TellsReport}
use Rattle.iso_cli.specs.Turns.{HasFailed, RunUsesAllTurns}
use Rattle.iso_cli.specs.Refused.{HoldsNone}
use Rattle.iso_cli.specs.Words.{AsksShow, is_name}
use Rattle.iso_cli.specs.declared.stop.Stop.{Stop}
use Rattle.iso_cli.specs.declared.stop.Stop.TheVariants.{Memory as NoMemory, TooManyTurns, Words, Write}
use Rattle.iso_cli.specs.declared.words.WordsFault.{WordsFault}
use Rattle.iso_cli.specs.declared.words.WordsFault.TheVariants as words
use Rattle.iso_cli.proofs.StreamingLemmas.{known_all}

-- a document that holds no good table, by its fault
module _ (held : List ℕ) where
  by_fault : (e : TableFault) → (e ≡ NotJson → IsNotJson held) → (e ≢ Memory → e ≢ NotJson → IsDocumentFault held e) → status_of (stop_of_table e) ≡ 1
      → HoldsNone held (stop_of_table e)
  by_fault Memory n f s = absurd (omega (arith, s))
  by_fault NotJson n f s = (n, λ d. f (λ p. cc) d)
  by_fault Shape n f s = (n, λ d. f (λ p. cc) d)
  by_fault BadVersion n f s = (n, λ d. f (λ p. cc) d)
  by_fault (BadNumber m) n f s = (n, λ d. f (λ p. cc) d)
  by_fault (Twice m) n f s = (n, λ d. f (λ p. cc) d)
  by_fault (BadMax m) n f s = (n, λ d. f (λ p. cc) d)
  by_fault (CodingClass m) n f s = (n, λ d. f (λ p. cc) d)
  by_fault (PadNotAllowed m) n f s = (n, λ d. f (λ p. cc) d)
  by_fault Profile n f s = (n, λ d. f (λ p. cc) d)

-- the same of the document that a word names
pub holds_none : (known : Option (List ℕ)) (held : List ℕ) (e : TableFault) (stop : Stop) → IfSome known (λ all. all ≡ held) → stop ≡ stop_of_table e
    → (e ≡ NotJson → IsNotJson held) → (e ≢ Memory → e ≢ NotJson → IsDocumentFault held e) → status_of stop ≡ 1
    → IfSome known (λ all. HoldsNone all stop)
holds_none known held e stop same is n f s =
    known_all known held (λ all. HoldsNone all stop) same
    (subst (λ (x : Stop). HoldsNone held x) (sym is) (by_fault held e n f (subst (λ (x : Stop). status_of x ≡ 1) is s)))

-- where status 1 was given, the line of a stop of that status was told whole
pub told_whole : (before after : Stream) (stop : Stop) (given : ℕ) → TellsLineOf before after stop (status_of stop) given → given ≡ 1
    → (status_of stop ≡ 1) × Appends before.bytes after.bytes (line_of stop)
told_whole before after stop given (inl (inl told)) one = (sym told.given_is ∙ one, told.whole)
told_whole before after stop given (inl (inr untold)) one = absurd (omega (arith, untold.status, one))
told_whole before after stop given (inr (inl told)) one = absurd (omega (arith, told.given_is, one))
told_whole before after stop given (inr (inr untold)) one = absurd (omega (arith, untold.status, one))

-- where status 0 was given, the line of a report was told whole
pub report_whole : (before after : Stream) (report : Report) (given : ℕ) → TellsReport before after report given → given ≡ 0
    → Appends before.bytes after.bytes (report_text report)
report_whole before after report given (inl (inl told)) zero = told.whole
report_whole before after report given (inl (inr untold)) zero = absurd (omega (arith, untold.status, zero))
report_whole before after report given (inr (inl told)) zero = absurd (omega (arith, told.given_is, zero))
report_whole before after report given (inr (inr untold)) zero = absurd (omega (arith, untold.status, zero))

-- and where status 3 was, one of what failed, or the fault stream did
module _ (words : List (List ℕ)) (used_before used_after : Usage) (before after : Stream) where
  no_memory : Tells before after NoMemory 3 → HasFailed words used_before used_after before after
  no_memory (inl told) = inl record { stop = NoMemory; status = refl; line = told.whole; turns = λ is. cc }
  no_memory (inr untold) = inr untold.failures

  pub told_failure : (stop : Stop) (given : ℕ) → TellsLineOf before after stop (status_of stop) given → given ≡ 3
      → (stop ≡ TooManyTurns → RunUsesAllTurns words used_before used_after)
      → HasFailed words used_before used_after before after
  told_failure stop given (inl (inl told)) three turns = inl record { stop = stop; status = sym told.given_is ∙ three; line = told.whole; turns = turns }
  told_failure stop given (inl (inr untold)) three turns = inr untold.failures
  told_failure stop given (inr told) three turns = no_memory (subst (λ n. Tells before after NoMemory n) three told)

  pub report_failure : (report : Report) (given : ℕ) → TellsReport before after report given → given ≡ 3
      → HasFailed words used_before used_after before after
  report_failure report given (inl (inl told)) three = absurd (omega (arith, told.given_is, three))
  report_failure report given (inl (inr untold)) three = inr untold.failures
  report_failure report given (inr told) three = no_memory (subst (λ n. Tells before after NoMemory n) three told)

-- the words' own faults have another status
pub words_stop : (fault : WordsFault) (stop : Stop) → stop ≡ stop_of_words fault → status_of stop ≡ 1 → ⊥
words_stop words.Refused stop is one = absurd (omega (arith, one, ap status_of is))
words_stop words.Memory stop is one = absurd (omega (arith, one, ap status_of is))

-- and so has that of an output that fails
pub write_stops : {X : Type 0} (r : Result X Stop) (P : Stop → Type 0) → IfErr r (λ stop. stop ≡ Write) → IfErr r (λ stop. status_of stop ≡ 1 → P stop)
write_stops (Ok x) P failed = tt
write_stops (Err stop) P failed = λ one. absurd (omega (arith, one, ap status_of failed))

-- which is no stop of words, and none of turns
pub write_words : {X : Type 0} (r : Result X Stop) → IfErr r (λ stop. stop ≡ Write) → IfErr r (λ stop. stop ≢ Words)
write_words (Ok x) failed = tt
write_words (Err stop) failed = λ is. cc

pub write_turns : {X : Type 0} (r : Result X Stop) → IfErr r (λ stop. stop ≡ Write) → IfErr r (λ stop. stop ≢ TooManyTurns)
write_turns (Ok x) failed = tt
write_turns (Err stop) failed = λ is. cc

-- a stop that is handed on is none of words, or of turns, where the first isn't, and nothing was done
module _ {X : Type 0} (r : Result X Stop) (e : Stop) (p : (x : Stop) × (r ≡ Err x) × (x ≡ e)) where
  pub handed_words : e ≢ Words → IfErr r (λ stop. stop ≢ Words)
  handed_words other = rw (p.1, p.2) other

  pub handed_turns : e ≢ TooManyTurns → IfErr r (λ stop. stop ≢ TooManyTurns)
  handed_turns other = rw (p.1, p.2) other

  pub handed_ok : (P : Type 0) → OnOk r P
  handed_ok P = rw (p.1) tt

-- ---- what the words ask

-- the words name one table to show
pub same_show : (words : List (List ℕ)) (s t : List ℕ) (a b : Bool) → IsTrue (is_name s) → IsTrue (is_name t) → AsksShow words s a → AsksShow words t b → s ≡ t
same_show words s t false false s_name t_name p q = cc
same_show words s t false true s_name t_name p (inl q) = cc
same_show words s t false true s_name t_name p (inr q) = cc
same_show words s t true false s_name t_name (inl p) q = cc
same_show words s t true false s_name t_name (inr p) q = cc
same_show words s t true true s_name t_name (inl p) (inl q) = cc
same_show words s t true true s_name t_name (inr p) (inr q) = cc
same_show words s t true true s_name t_name (inl p) (inr q) =
    let is : t ≡ codes "--clear" = cc in
    let no : false ≡ true = subst (λ (l : List ℕ). IsTrue (is_name l)) is t_name in
    cc
same_show words s t true true s_name t_name (inr p) (inl q) =
    let is : s ≡ codes "--clear" = cc in
    let no : false ≡ true = subst (λ (l : List ℕ). IsTrue (is_name l)) is s_name in
    cc

-- and one pair of tables to convert between
pub same_convert : (words : List (List ℕ)) (a b c d : List ℕ) → words ≡ codes "convert" ∷ a ∷ c ∷ [] → words ≡ codes "convert" ∷ b ∷ d ∷ [] → (a ≡ b) × (c ≡ d)
same_convert words a b c d p q = (cc, cc)
