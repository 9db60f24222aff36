-- What the words ask is one job.
use Rattle.std.proofs.Common.{◌≡◌, inl, inr, ℕ, Bool, true, false, IsTrue, List, [], ◌∷◌, Option, Some, None, IfSome, IsSomeAnd, Result, Err, refl, ap, subst, sym, ◌∙◌}
use Rattle.std.specs.Borrow.{Bor}
use Rattle.std.specs.Io.KnownBytes.{Appends}
use Rattle.std.specs.Prelude.{codes}
use Rattle.iso_host.specs.Counts.{Usage}
use Rattle.iso_host.specs.Serving.{UsesAllTurns}
use Rattle.iso_host.specs.declared.fault.Report.{Report}
use Rattle.iso_wire.specs.declared.header.Header.{Header}
use Rattle.iso_wire.specs.declared.header.Header.TheVariants.{Binary2, Ascii4, Bcd2}
use Rattle.iso_cli.specs.AtHand.{AtHand}
use Rattle.iso_cli.specs.Check.{ChecksIfAsked, ChecksOnStreams}
use Rattle.iso_cli.specs.Connections.{report_text}
use Rattle.iso_cli.specs.Convert.{ConvertsIfAsked, ConvertsOnStreams}
use Rattle.iso_cli.specs.Echo.{EchoesOnStreams}
use Rattle.iso_cli.specs.Jobs.{DoesJob, DoesAskedJob, Performs, StopsJob, StopsAskedJob}
use Rattle.iso_cli.specs.Refused.{ConvertStops, EchoStops, IsRefused, NamesNone, ShowStops}
use Rattle.iso_cli.specs.Run.{RunsIfAsked, RunsOnStreams}
use Rattle.iso_cli.specs.Show.{ShowsIfAsked, ShowsOnStreams}
use Rattle.iso_cli.specs.Stop.{line_of, status_of, stop_of_words}
use Rattle.iso_cli.specs.Turns.{RunUsesAllTurns, most_turns}
use Rattle.iso_cli.specs.Words.{Asks, AsksNothing, AsksShow, header_name, is_name}
use Rattle.iso_cli.specs.declared.stop.Stop.{Stop}
use Rattle.iso_cli.specs.declared.stop.Stop.TheVariants.{TooManyTurns, Words}
use Rattle.iso_cli.specs.declared.words.Job.{Job}
use Rattle.iso_cli.specs.declared.words.Job.TheVariants.{Echo, Check, Show, Convert, Run}
use Rattle.iso_cli.specs.declared.words.WordsFault.{WordsFault}
use Rattle.iso_cli.specs.declared.words.WordsFault.TheVariants as fault_of
use Rattle.iso_cli.proofs.RefusedLemmas.{same_convert, same_show, words_stop}

-- ---- by a job that the words ask

-- what such a job does
pub done : (words : List (List ℕ)) (w : AtHand) (report : Option Report) (found job : Job) → Asks words found → found ≡ job → DoesJob job w report → DoesAskedJob words w report
done words w report found job asks is does = record { job = job; asked = subst (λ (j : Job). Asks words j) is asks; does = does }

-- all turns of a host on a stream were taken
pub uses_all : (words : List (List ℕ)) (found : Job) (table accounts : Bor (List ℕ)) (header : Header) (before after : Usage)
    → Asks words found → found ≡ Run table accounts header → UsesAllTurns before after most_turns → RunUsesAllTurns words before after
uses_all words found table accounts header before after asks is uses =
    let asked = subst (λ (j : Job). Asks words j) is asks in
    (table.now, accounts.now, header, asked.2, uses)

module _ (words : List (List ℕ)) (w : AtHand) (before after : Usage) where
  -- and what stops it, which isn't that the words ask nothing
  pub stopped : (r : Result (Option Report) Stop) (stop : Stop) (found job : Job) → (x : Stop) × (r ≡ Err x) × (x ≡ stop) → Asks words found → found ≡ job
      → (stop ≡ Words → ⊥) → (status_of stop ≡ 1 → StopsJob job w.file w.input stop) → (stop ≡ TooManyTurns → RunUsesAllTurns words before after)
      → Performs words w before after r
  stopped r stop found job (x, err, same) asks is other stops turns =
      subst (λ (y : Result (Option Report) Stop). Performs words w before after y) (sym (err ∙ ap Err same)) record {
        nothing = λ e. absurd (other e);
        refused = λ one. record { job = job; asked = subst (λ (j : Job). Asks words j) is asks; stops = stops one };
        turns = turns;
      }

  -- no job is stopped where the words are refused
  pub unasked : (r : Result (Option Report) Stop) (fault : WordsFault) → (x : Stop) × (r ≡ Err x) × (x ≡ stop_of_words fault)
      → (fault ≡ fault_of.Refused → AsksNothing words) → Performs words w before after r
  unasked r fault_of.Refused (x, err, same) none =
      subst (λ (y : Result (Option Report) Stop). Performs words w before after y) (sym (err ∙ ap Err same)) record {
        nothing = λ e. none refl;
        refused = λ one. absurd (words_stop fault_of.Refused x same (ap status_of same ∙ one));
        turns = λ is. cc;
      }
  unasked r fault_of.Memory (x, err, same) none =
      subst (λ (y : Result (Option Report) Stop). Performs words w before after y) (sym (err ∙ ap Err same)) record {
        nothing = λ e. cc;
        refused = λ one. absurd (words_stop fault_of.Memory x same (ap status_of same ∙ one));
        turns = λ is. cc;
      }

-- ---- by the words: the job is the one that they ask

-- `show`'s flag is the one that its words have
same_clear : (words : List (List ℕ)) (s t : List ℕ) (a b : Bool) → AsksShow words s a → AsksShow words t b → a ≡ b
same_clear words s t false false p q = refl
same_clear words s t true true p q = refl
same_clear words s t false true p (inl q) = cc
same_clear words s t false true p (inr q) = cc
same_clear words s t true false (inl p) q = cc
same_clear words s t true false (inr p) q = cc

-- one header has a name
same_header : (a b : Header) → header_name a ≡ header_name b → a ≡ b
same_header Binary2 Binary2 is = refl
same_header Binary2 Ascii4 is = cc
same_header Binary2 Bcd2 is = cc
same_header Ascii4 Binary2 is = cc
same_header Ascii4 Ascii4 is = refl
same_header Ascii4 Bcd2 is = cc
same_header Bcd2 Binary2 is = cc
same_header Bcd2 Ascii4 is = cc
same_header Bcd2 Bcd2 is = refl

module _ (words : List (List ℕ)) (P : Job → Type 0) where
  by_none : (Q : Type 0) → (P Echo → Q) → words ≡ [] → (job : Job) → Asks words job → P job → Q
  by_none Q f is Echo asks p = f p
  by_none Q f is (Check table) asks p = cc (asks.1)
  by_none Q f is (Show table false) asks p = cc (asks.1)
  by_none Q f is (Show table true) (named, inl asks) p = cc
  by_none Q f is (Show table true) (named, inr asks) p = cc
  by_none Q f is (Convert from to) asks p = cc (asks.2)
  by_none Q f is (Run table accounts header) asks p = cc (asks.2)

  by_check : (Q : List ℕ → Type 0) → ((table : Bor (List ℕ)) → P (Check table) → Q table.now) → (t : List ℕ) → words ≡ codes "check" ∷ t ∷ []
      → (job : Job) → Asks words job → P job → Q t
  by_check Q f t is (Check table) asks p =
      let same : table.now ≡ t = cc (asks.1) in
      subst Q same (f table p)
  by_check Q f t is Echo asks p = cc
  by_check Q f t is (Show table false) asks p = cc (asks.1)
  by_check Q f t is (Show table true) (named, inl asks) p = cc
  by_check Q f t is (Show table true) (named, inr asks) p = cc
  by_check Q f t is (Convert from to) asks p = cc (asks.2)
  by_check Q f t is (Run table accounts header) asks p = cc (asks.2)

  by_convert : (Q : List ℕ → List ℕ → Type 0) → ((from to : Bor (List ℕ)) → P (Convert from to) → Q from.now to.now) → (a b : List ℕ)
      → words ≡ codes "convert" ∷ a ∷ b ∷ [] → (job : Job) → Asks words job → P job → Q a b
  by_convert Q f a b is (Convert from to) asks p =
      let same = same_convert words from.now a to.now b (asks.2) is in
      subst (λ (x : List ℕ). Q x b) same.0 (subst (λ (x : List ℕ). Q from.now x) same.1 (f from to p))
  by_convert Q f a b is Echo asks p = cc
  by_convert Q f a b is (Check table) asks p = cc (asks.1)
  by_convert Q f a b is (Show table false) asks p = cc (asks.1)
  by_convert Q f a b is (Show table true) (named, inl asks) p = cc
  by_convert Q f a b is (Show table true) (named, inr asks) p = cc
  by_convert Q f a b is (Run table accounts header) asks p = cc (asks.2)

  by_run : (Q : List ℕ → List ℕ → Header → Type 0) → ((table accounts : Bor (List ℕ)) (h : Header) → P (Run table accounts h) → Q table.now accounts.now h)
      → (a b : List ℕ) (h : Header) → words ≡ codes "run" ∷ a ∷ b ∷ header_name h ∷ [] → (job : Job) → Asks words job → P job → Q a b h
  by_run Q f a b h is (Run table accounts header) asks p =
      let first : table.now ≡ a = cc (asks.2) in
      let second : accounts.now ≡ b = cc (asks.2) in
      let name : header_name header ≡ header_name h = cc (asks.2) in
      subst (λ (x : List ℕ). Q x b h) first (subst (λ (x : List ℕ). Q table.now x h) second (subst (λ (x : Header). Q table.now accounts.now x) (same_header header h name) (f table accounts header p)))
  by_run Q f a b h is Echo asks p = cc
  by_run Q f a b h is (Check table) asks p = cc (asks.1)
  by_run Q f a b h is (Show table false) asks p = cc (asks.1)
  by_run Q f a b h is (Show table true) (named, inl asks) p = cc
  by_run Q f a b h is (Show table true) (named, inr asks) p = cc
  by_run Q f a b h is (Convert from to) asks p = cc (asks.2)

  by_show : (Q : List ℕ → Bool → Type 0) → ((table : Bor (List ℕ)) (clear : Bool) → P (Show table clear) → Q table.now clear) → (t : List ℕ) (b : Bool) → IsTrue (is_name t)
      → AsksShow words t b → (job : Job) → Asks words job → P job → Q t b
  by_show Q f t b name is (Show table clear) asks p =
      subst (λ (x : List ℕ). Q x b) (same_show words table.now t clear b (asks.0) name (asks.1) is)
      (subst (λ (x : Bool). Q table.now x) (same_clear words table.now t clear b (asks.1) is) (f table clear p))
  by_show Q f t false name is Echo asks p = cc
  by_show Q f t false name is (Check table) asks p = cc (asks.1)
  by_show Q f t false name is (Convert from to) asks p = cc (asks.2)
  by_show Q f t false name is (Run table accounts header) asks p = cc (asks.2)
  by_show Q f t true name (inl is) Echo asks p = cc
  by_show Q f t true name (inl is) (Check table) asks p = cc (asks.1)
  by_show Q f t true name (inl is) (Convert from to) asks p = cc (asks.2)
  by_show Q f t true name (inl is) (Run table accounts header) asks p = cc (asks.2)
  by_show Q f t true name (inr is) Echo asks p = cc
  by_show Q f t true name (inr is) (Check table) asks p = cc (asks.1)
  by_show Q f t true name (inr is) (Convert from to) asks p = cc (asks.2)
  by_show Q f t true name (inr is) (Run table accounts header) asks p = cc (asks.2)

-- so what was done is what they ask
module _ (words : List (List ℕ)) (w : AtHand) (report : Option Report) (d : DoesAskedJob words w report) where
  pub echoes : words ≡ [] → EchoesOnStreams w.input w.before w.after
  echoes none = by_none words (λ j. DoesJob j w report) (EchoesOnStreams w.input w.before w.after) (λ p. p) none d.job d.asked d.does

  pub checks : ChecksIfAsked words w.file w.before w.after
  checks = λ t named is. by_check words (λ j. DoesJob j w report) (λ t. ChecksOnStreams w.file t w.before w.after) (λ table p. p) t is d.job d.asked d.does

  pub shows : ShowsIfAsked words w.file w.input w.before w.after
  shows = λ t b named is. by_show words (λ j. DoesJob j w report) (λ t b. ShowsOnStreams w t b) (λ table clear p. p) t b named is d.job d.asked d.does

  pub converts : ConvertsIfAsked words w.file w.input w.before w.after
  converts = λ a b is. by_convert words (λ j. DoesJob j w report) (λ a b. ConvertsOnStreams w a b) (λ from to p. p) a b is d.job d.asked d.does

  pub runs : (held written : Option (List ℕ)) → IfSome report (λ r. Appends held written (report_text r)) → RunsIfAsked words w held written
  runs held written told = λ a b h is. reported a b h held written report told
      (by_run words (λ j. DoesJob j w report) (λ a b h. IsSomeAnd report (RunsOnStreams w a b h)) (λ table accounts h p. p) a b h is d.job d.asked d.does)
    where
      reported : (a b : List ℕ) (h : Header) (held written : Option (List ℕ)) (known : Option Report) → IfSome known (λ r. Appends held written (report_text r))
          → IsSomeAnd known (RunsOnStreams w a b h) → (r : Report) × RunsOnStreams w a b h r × Appends held written (report_text r)
      reported a b h held written None tells p = absurd p
      reported a b h held written (Some r) tells p = (r, p, tells)

-- and likewise what stopped it
module _ (words : List (List ℕ)) (file : List ℕ → Option (List ℕ)) (input held written : Option (List ℕ)) (stop : Stop) where
  pub refused : StopsAskedJob words file input stop → status_of stop ≡ 1 → Appends held written (line_of stop) → IsRefused words file input held written
  refused s status line = record {
    stop = stop;
    status = status;
    line = line;
    echo = λ none. by_none words (λ j. StopsJob j file input stop) (EchoStops input stop) (λ p. p) none s.job s.asked s.stops;
    check = λ t named is. by_check words (λ j. StopsJob j file input stop) (λ t. NamesNone file t stop) (λ table p. p) t is s.job s.asked s.stops;
    show = λ t b named is. by_show words (λ j. StopsJob j file input stop) (λ t b. ShowStops file t input stop) (λ table clear p. p) t b named is s.job s.asked s.stops;
    convert = λ a b is. by_convert words (λ j. StopsJob j file input stop) (λ a b. ConvertStops file a b input stop) (λ from to p. p) a b is s.job s.asked s.stops;
  }
