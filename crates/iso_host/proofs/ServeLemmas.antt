-- One step of the loop of `serve`.
use Rattle.std.proofs.Common.{◌≡◌, ◌≢◌, ℕ, ◌+◌, ◌≤◌, Bool, true, false, cond, List, [], ◌∷◌, ◌++◌, length, take, drop, sym, subst, refl, arith, ap, ◌∙◌, append_assoc, append-nil, zero-add, length-append, Some, None, Ok, Err, inl, inr, take-append-drop}
use Rattle.std.proofs.lemmas.List.Sums.{sum_by-append}
use Rattle.std.proofs.KnownBytes.{Appends-trans, Appends-nil, Consumes-trans}
use Rattle.std.specs.declared.option.Option.{Option}
use Rattle.std.specs.Io.Iter.{u64_saturate}
use Rattle.std.specs.Io.KnownBytes.{Appends, Consumes, Keeps, IsAtEnd, prepend_known}
use Rattle.iso_table.specs.Layout.{Layout}
use Rattle.iso_wire.specs.declared.header.Header.{Header}
use Rattle.iso_wire.specs.declared.header.Header.TheVariants.{Binary2, Ascii4, Bcd2}
use Rattle.iso_wire.specs.FrameLaws.{FrameLaws}
use Rattle.iso_wire.specs.Framing.{frame_of, frames_of, largest, NoFrame, is_bad_header, BadIsNoFrame, BadStays}
use Rattle.iso_order.specs.declared.verdict.Verdict.{Verdict}
use Rattle.iso_issuer.specs.Books.{Books}
use Rattle.iso_issuer.specs.Laws.{FirstsGoOn, books_after}
use Rattle.iso_host.proofs.FrameLemmas.{frames_more, fit_more}
use Rattle.iso_host.proofs.JournalLemmas.{books_more, books_none}
use Rattle.iso_host.proofs.OutputLemmas.{output_none, output_more, output_front, front_more}
use Rattle.iso_host.proofs.Running.{AnswersPart, AnswersWhole, Going, Running}
use Rattle.iso_host.proofs.StreamLemmas.{flushed_more, flushed_so, waits_behind}
use Rattle.iso_host.specs.Asking.{message_in, asked_of, count_asked, has_answer, is_silent, is_unreadable}
use Rattle.iso_host.specs.Counts.{Counts, Stream, Usage, usage}
use Rattle.iso_host.specs.Entering.{books_after_bodies}
use Rattle.iso_host.specs.Handling.{books_after_body}
use Rattle.iso_host.specs.Output.{IsAnswer, IsOutput}
use Rattle.iso_host.specs.Hosting.{Answers, Replying}
use Rattle.iso_host.specs.Links.{Agreed}
use Rattle.iso_host.specs.NextFrame.{EndsBefore, Taking}
use Rattle.iso_host.specs.Reading.{EndsInside, Reading, to_come}
use Rattle.iso_host.specs.Serving.{Serves, Leaves, IsCut, Reports, IsFlushed, LastWaits, Flushes, Sending, sending, standing, standing_of}
use Rattle.iso_host.specs.Reporting.{ReportsOneMore, count_with}
use Rattle.iso_host.specs.Answering.{FlushesAll, SpendsOnWrite, WritesPart}
use Rattle.iso_host.specs.Turns.{Spends, TakesTurns}
use Rattle.iso_host.specs.declared.fault.Report.{Report}
use Rattle.iso_host.specs.declared.fault.ServeFault.{ServeFault}
use Rattle.iso_host.specs.declared.fault.ServeFault.TheVariants.{Read, Write, BadHeader, CutFrame, Memory, TooManyTurns}

-- what was taken and what waits in the window was read
taken_behind : (a r : Option (List ℕ)) (taken window : List ℕ) → Consumes a (prepend_known window r) taken → Consumes a r (taken ++ window)
taken_behind None r taken window read = tt
taken_behind (Some x) None taken window read = absurd read
taken_behind (Some x) (Some y) taken window read = read ∙ sym (append_assoc taken window y)

pub none_taken : (a b : Option (List ℕ)) → Keeps a b → Consumes a b []
none_taken None b kept = tt
none_taken (Some x) None kept = absurd kept
none_taken (Some x) (Some y) kept = sym kept

none_waits : (a : Option (List ℕ)) → Consumes a (prepend_known [] a) []
none_waits None = tt
none_waits (Some x) = refl

-- no frame begins where there is no byte
pub no_byte : (h : Header) → NoFrame h []
no_byte Binary2 body more fits e = cc
no_byte Ascii4 body more fits e = cc
no_byte Bcd2 body more fits e = cc

-- nothing is handled yet
serves_none : (l : Agreed) (start : Sending) (window : List ℕ) → books_after start.books [] ≡ start.books → window ≡ []
    → Serves l (standing_of start) (standing (prepend_known window start.unread) start.writer.bytes start.books) [] []
serves_none l start window kept none = record {
  read = subst (λ (w : List ℕ). Consumes start.unread (prepend_known w start.unread) []) (sym none) (none_waits start.unread);
  fit = tt;
  books = sym (books_none l.table start.books kept);
  bytes = [];
  output = output_none l.table l.header start.books;
  answers = Appends-nil start.writer.bytes;
}

module _ (l : Agreed) (start now : Sending) (bodies : List (List ℕ)) (serves : Serves l (standing_of start) (standing_of now) bodies []) where
  -- some bytes behind the frames are read, the window's last
  read_part : (left : Option (List ℕ)) (window part : List ℕ) → Consumes now.unread (prepend_known window left) part → Consumes start.unread left (frames_of l.header bodies ++ (part ++ window))
  read_part left window part taken =
      let bytes : ((frames_of l.header bodies ++ []) ++ part) ++ window ≡ frames_of l.header bodies ++ (part ++ window) =
      append_assoc (frames_of l.header bodies ++ []) part window ∙ append_assoc (frames_of l.header bodies) [] (part ++ window) in
      subst (Consumes start.unread left) bytes
      (taken_behind start.unread left ((frames_of l.header bodies ++ []) ++ part) window (Consumes-trans start.unread now.unread (prepend_known window left) _ _ serves.read taken))

  -- all frames are handled, and these bytes are read behind them
  serves_part : (left : Option (List ℕ)) (window part : List ℕ) → Consumes now.unread (prepend_known window left) part
      → Serves l (standing_of start) (standing left now.writer.bytes now.books) bodies (part ++ window)
  serves_part left window part taken = record {
    read = read_part left window part taken;
    fit = serves.fit;
    books = serves.books;
    bytes = serves.bytes;
    output = serves.output;
    answers = serves.answers;
  }

  -- it stops before the next body is handled
  stops_here : (left : Option (List ℕ)) (window part : List ℕ) → Consumes now.unread (prepend_known window left) part → IsCut l (standing_of start) (standing left now.writer.bytes now.books)
  stops_here left window part taken =
      let front = output_front l.table l.header start.books bodies serves.bytes serves.output in (
        bodies,
        part ++ window,
        record {
          read = read_part left window part taken;
          fit = serves.fit;
          books = serves.books;
          bytes = serves.bytes;
          answers = serves.answers;
          less = front.0;
          less_output = front.1;
          no_less = front.2;
          most = serves.bytes;
          most_output = serves.output;
          no_more = ([], sym (append-nil serves.bytes));
        },
      )

  -- the answer is the next one of the output
  answer_more : (body answer : List ℕ) → IsAnswer l.table l.header now.books body answer → IsAnswer l.table l.header (books_after_bodies l.table start.books bodies) body answer
  answer_more body answer is = subst (λ (b : Books). IsAnswer l.table l.header b body answer) serves.books is

  module _ (go_on : FirstsGoOn) (joins : FrameLaws) where
    -- the journal goes on by the body's order
    entered_more : (new : Books) (body : List ℕ) → new ≡ books_after_body l.table now.books body → new ≡ books_after_bodies l.table start.books (bodies ++ body ∷ [])
    entered_more new body enters = enters ∙ ap (λ (b : Books). books_after_body l.table b body) serves.books ∙ sym (books_more go_on l.table start.books bodies body)

    -- the frame is the next one
    read_more : (next : Option (List ℕ)) (body : List ℕ) → Consumes now.unread next (frame_of l.header body) → Consumes start.unread next (frames_of l.header (bodies ++ body ∷ []) ++ [])
    read_more next body taken =
        let frames : (frames_of l.header bodies ++ []) ++ frame_of l.header body ≡ frames_of l.header (bodies ++ body ∷ []) ++ [] =
        append_assoc (frames_of l.header bodies) [] (frame_of l.header body) ∙ ap (λ (k : List ℕ). frames_of l.header bodies ++ k) (sym (append-nil (frame_of l.header body)))
        ∙ sym (frames_more joins l.header bodies body []) in
        subst (Consumes start.unread next) frames (Consumes-trans start.unread now.unread next _ _ serves.read taken)

    -- one more body is handled and answered
    serves_more : (next : Option (List ℕ)) (after : Stream) (new : Books) (body : List ℕ) → Consumes now.unread next (frame_of l.header body) → length body ≤ largest l.header
        → AnswersWhole l now.books new (message_in l.table body) now.writer after → Serves l (standing_of start) (standing next after.bytes new) (bodies ++ body ∷ []) []
    serves_more next after new body taken fits whole = record {
      read = read_more next body taken;
      fit = fit_more joins l.header bodies body serves.fit fits;
      books = entered_more new body whole.entered;
      bytes = serves.bytes ++ whole.bytes;
      output = output_more l.table l.header start.books bodies body serves.bytes whole.bytes serves.output (answer_more body whole.bytes whole.answer);
      answers = Appends-trans start.writer.bytes now.writer.bytes after.bytes _ _ serves.answers whole.appends;
    }

    -- one more body is handled, and of its answer nothing or a part is written
    stops_after : (left : Option (List ℕ)) (after : Stream) (window : List ℕ) (new : Books) (body : List ℕ) → FlushesAll start.writer.counts now.writer.counts serves.bytes
        → Consumes now.unread (prepend_known window left) (frame_of l.header body) → length body ≤ largest l.header
        → AnswersPart l now.books new (message_in l.table body) now.writer after → LastWaits l start (sending left after new)
    stops_after left after window new body flushed taken fits (enters, (answer, is, some)) = (
      bodies ++ body ∷ [],
      window,
      record {
        read = subst (Consumes start.unread left) (ap (λ (k : List ℕ). k ++ window) (append-nil (frames_of l.header (bodies ++ body ∷ []))))
            (taken_behind start.unread left (frames_of l.header (bodies ++ body ∷ []) ++ []) window (read_more (prepend_known window left) body taken));
        fit = fit_more joins l.header bodies body serves.fit fits;
        books = entered_more new body enters;
        bytes = serves.bytes ++ take some.count answer;
        answers = Appends-trans start.writer.bytes now.writer.bytes after.bytes _ _ serves.answers some.appends;
        less = serves.bytes;
        less_output = subst (λ k. IsOutput l.table l.header start.books k serves.bytes) (sym (front_more bodies body)) serves.output;
        no_less = (take some.count answer, refl);
        most = serves.bytes ++ answer;
        most_output = output_more l.table l.header start.books bodies body serves.bytes answer serves.output (answer_more body answer is);
        no_more = (
          drop some.count answer,
          ap (λ (k : List ℕ). serves.bytes ++ k) (sym (take-append-drop some.count answer)) ∙ sym (append_assoc serves.bytes (take some.count answer) (drop some.count answer)),
        );
      },
      waits_behind start.writer.counts now.writer.counts after.counts serves.bytes answer some.count flushed some.within some.waits,
    )

    -- one more body is handled without memory for its answer
    stops_unmade : (left : Option (List ℕ)) (window part body more : List ℕ) (new : Books) → Consumes now.unread (prepend_known window left) part → part ++ window ≡ frame_of l.header body ++ more
        → length body ≤ largest l.header → new ≡ books_after_body l.table now.books body → (answer : List ℕ) → IsAnswer l.table l.header now.books body answer
        → IsCut l (standing_of start) (standing left now.writer.bytes new)
    stops_unmade left window part body more new taken is fits enters answer made = (
      bodies ++ body ∷ [],
      more,
      record {
        read = subst (Consumes start.unread left) (ap (λ (k : List ℕ). frames_of l.header bodies ++ k) is ∙ sym (frames_more joins l.header bodies body more)) (read_part left window part taken);
        fit = fit_more joins l.header bodies body serves.fit fits;
        books = entered_more new body enters;
        bytes = serves.bytes;
        answers = serves.answers;
        less = serves.bytes;
        less_output = subst (λ k. IsOutput l.table l.header start.books k serves.bytes) (sym (front_more bodies body)) serves.output;
        no_less = ([], sym (append-nil serves.bytes));
        most = serves.bytes ++ answer;
        most_output = output_more l.table l.header start.books bodies body serves.bytes answer serves.output (answer_more body answer made);
        no_more = (answer, refl);
      },
    )

-- ---- a call that ends

module _ (l : Agreed) (start now : Sending) (report : Report) (going : Going l start now report) where
  -- answering a body ends the call
  stops_answering : FirstsGoOn → FrameLaws → (left : Option (List ℕ)) (after : Stream) (window : List ℕ) (new : Books) (body : List ℕ) → Consumes now.unread (prepend_known window left) (frame_of l.header body)
      → length body ≤ largest l.header → AnswersPart l now.books new (message_in l.table body) now.writer after → LastWaits l start (sending left after new)
  stops_answering go_on joins left after window new body taken fits part = stops_after l start now going.bodies going.serves go_on joins left after window new body going.flushed taken fits part

  pub stop_at : FirstsGoOn → FrameLaws → (T : Type 0) (left : Option (List ℕ)) (after : Stream) (window : List ℕ) (new : Books) (before turns : ℕ) (body : List ℕ) (fault : ServeFault)
      → Consumes now.unread (prepend_known window left) (frame_of l.header body) → length body ≤ largest l.header
      → AnswersPart l now.books new (message_in l.table body) now.writer after → SpendsOnWrite {T = T} now.writer.counts after.counts before turns (Err fault)
      → Leaves l (standing_of start) (standing left after.bytes new) (Err fault)
  stop_at go_on joins T left after window new before turns body Read taken fits part spent = absurd spent
  stop_at go_on joins T left after window new before turns body BadHeader taken fits part spent = absurd spent
  stop_at go_on joins T left after window new before turns body CutFrame taken fits part spent = absurd spent
  stop_at go_on joins T left after window new before turns body Write taken fits part spent = let waits = stops_answering go_on joins left after window new body taken fits part in (waits.0, waits.1, waits.2)
  stop_at go_on joins T left after window new before turns body TooManyTurns taken fits part spent = let waits = stops_answering go_on joins left after window new body taken fits part in (waits.0, waits.1, waits.2)
  stop_at go_on joins T left after window new before turns body Memory taken fits part spent = let waits = stops_answering go_on joins left after window new body taken fits part in (waits.0, waits.1, waits.2)

  -- and what then waits for a flush
  pub waits_at : FirstsGoOn → FrameLaws → (T : Type 0) (left : Option (List ℕ)) (after : Stream) (window : List ℕ) (new : Books) (before turns : ℕ) (body : List ℕ) (fault : ServeFault)
      → Consumes now.unread (prepend_known window left) (frame_of l.header body) → length body ≤ largest l.header
      → AnswersPart l now.books new (message_in l.table body) now.writer after → SpendsOnWrite {T = T} now.writer.counts after.counts before turns (Err fault)
      → Flushes l start (sending left after new) (Err fault)
  waits_at go_on joins T left after window new before turns body Read taken fits part spent = absurd spent
  waits_at go_on joins T left after window new before turns body BadHeader taken fits part spent = absurd spent
  waits_at go_on joins T left after window new before turns body CutFrame taken fits part spent = absurd spent
  waits_at go_on joins T left after window new before turns body Memory taken fits part spent =
      subst (IsFlushed start.writer.counts) (sym spent) (flushed_so start.writer.counts now.writer.counts going.serves.bytes going.flushed)
  waits_at go_on joins T left after window new before turns body Write taken fits part spent = stops_answering go_on joins left after window new body taken fits part
  waits_at go_on joins T left after window new before turns body TooManyTurns taken fits part spent = inr (stops_answering go_on joins left after window new body taken fits part)

  -- the input ends between two frames
  pub ends_whole : (left : Option (List ℕ)) (window : List ℕ) (new : Books) → Keeps now.unread (prepend_known window left) → window ≡ [] → IsAtEnd left → new ≡ now.books
      → Leaves l (standing_of start) (standing left now.writer.bytes new) (Ok report)
  ends_whole left window new kept none end same =
      let read = serves_part l start now going.bodies going.serves left window [] (none_taken now.unread (prepend_known window left) kept) in
      subst (λ (b : Books). Leaves l (standing_of start) (standing left now.writer.bytes b) (Ok report)) (sym same)
      (going.bodies, window, read, subst (NoFrame l.header) (sym none) (no_byte l.header), (none, end, going.reports))

  -- all frames are handled, or it stops behind them, with the books as they are
  abbrev LeavesBehind : Option (List ℕ) → Books → ServeFault → Type 0
  LeavesBehind left new fault = Leaves l (standing_of start) (standing left now.writer.bytes new) (Err fault)

  -- a frame doesn't come to its end
  stop_inside : BadIsNoFrame → BadStays → (before after : Reading) (fault : ServeFault) → to_come before ≡ now.unread → EndsInside l.header before after fault → LeavesBehind after.reader.bytes now.books fault
  stop_inside bad stays before after Read same (part, taken, none, needs) =
      let all : part ++ after.window ≡ part = ap (λ (k : List ℕ). part ++ k) none ∙ append-nil part in
      let read = serves_part l start now going.bodies going.serves after.reader.bytes after.window part (subst (λ (o : Option (List ℕ)). Consumes o (to_come after) part) same taken) in
      (going.bodies, part ++ after.window, read, subst (NoFrame l.header) (sym all) needs.no_frame, tt)
  stop_inside bad stays before after CutFrame same (part, taken, none, needs, some, end) =
      let all : part ++ after.window ≡ part = ap (λ (k : List ℕ). part ++ k) none ∙ append-nil part in
      let read = serves_part l start now going.bodies going.serves after.reader.bytes after.window part (subst (λ (o : Option (List ℕ)). Consumes o (to_come after) part) same taken) in (
        going.bodies,
        part ++ after.window,
        read,
        subst (NoFrame l.header) (sym all) needs.no_frame,
        (subst (λ (k : List ℕ). k ≢ []) (sym all) some, end, ap (is_bad_header l.header) all ∙ needs.no_fault),
      )
  stop_inside bad stays before after BadHeader same (part, taken, is_bad) =
      let fault = stays l.header part after.window is_bad in
      let read = serves_part l start now going.bodies going.serves after.reader.bytes after.window part (subst (λ (o : Option (List ℕ)). Consumes o (to_come after) part) same taken) in
      (going.bodies, part ++ after.window, read, bad l.header (part ++ after.window) fault, fault)
  stop_inside bad stays before after TooManyTurns same (part, taken) =
      stops_here l start now going.bodies going.serves after.reader.bytes after.window part (subst (λ (o : Option (List ℕ)). Consumes o (to_come after) part) same taken)
  stop_inside bad stays before after Memory same (part, taken) =
      stops_here l start now going.bodies going.serves after.reader.bytes after.window part (subst (λ (o : Option (List ℕ)). Consumes o (to_come after) part) same taken)
  stop_inside bad stays before after Write same ends = absurd ends

  -- the next frame doesn't come to its end, or its body isn't answered
  pub stop_before : FirstsGoOn → FrameLaws → BadIsNoFrame → BadStays → (before after : Taking) (fault : ServeFault) → EndsBefore l before after fault → to_come before.input ≡ now.unread
      → before.host.books ≡ now.books → LeavesBehind after.input.reader.bytes after.host.books fault
  stop_before go_on joins bad stays before after Read (inside, kept) same books =
      subst (λ (b : Books). LeavesBehind after.input.reader.bytes b Read) (sym (kept ∙ books)) (stop_inside bad stays before.input after.input Read same inside)
  stop_before go_on joins bad stays before after CutFrame (inside, kept) same books =
      subst (λ (b : Books). LeavesBehind after.input.reader.bytes b CutFrame) (sym (kept ∙ books)) (stop_inside bad stays before.input after.input CutFrame same inside)
  stop_before go_on joins bad stays before after TooManyTurns (inside, kept) same books =
      subst (λ (b : Books). LeavesBehind after.input.reader.bytes b TooManyTurns) (sym (kept ∙ books)) (stop_inside bad stays before.input after.input TooManyTurns same inside)
  stop_before go_on joins bad stays before after BadHeader (part, taken, is_bad, kept) same books =
      let read = serves_part l start now going.bodies going.serves after.input.reader.bytes after.input.window part (subst (λ (o : Option (List ℕ)). Consumes o (to_come after.input) part) same taken) in
      subst (λ (b : Books). LeavesBehind after.input.reader.bytes b BadHeader) (sym (kept ∙ books))
      (going.bodies, part ++ after.input.window, read, bad l.header (part ++ after.input.window) is_bad, is_bad)
  stop_before go_on joins bad stays before after Memory (part, taken, inl kept) same books =
      subst (λ (b : Books). LeavesBehind after.input.reader.bytes b Memory) (sym (kept ∙ books))
      (stops_here l start now going.bodies going.serves after.input.reader.bytes after.input.window part (subst (λ (o : Option (List ℕ)). Consumes o (to_come after.input) part) same taken))
  stop_before go_on joins bad stays before after Memory (part, taken, inr (body, more, is, fits, enters)) same books =
      stops_unmade l start now going.bodies going.serves go_on joins after.input.reader.bytes after.input.window part body more after.host.books
      (subst (λ (o : Option (List ℕ)). Consumes o (to_come after.input) part) same taken) is fits (enters.0 ∙ ap (λ (b : Books). books_after_body l.table b body) books)
      enters.1.0 (subst (λ (b : Books). IsAnswer l.table l.header b body enters.1.0) books enters.1.1)
  stop_before go_on joins bad stays before after Write ends same books = absurd ends

-- ---- the report

-- one more of a kind, or none
saturated : (is_kind : Bool) (c total n m : ℕ) → n ≡ u64_saturate c → m ≡ count_with is_kind n → total ≡ c + cond is_kind 1 0 → m ≡ u64_saturate total
saturated true c total n m e f g = omega arith
saturated false c total n m e f g = omega arith

-- the counts of one kind of body
counts_more : (t : Layout) (kind : Option Verdict → Bool) (bodies : List (List ℕ)) (body : List ℕ) (n m : ℕ) → n ≡ u64_saturate (count_asked t kind bodies)
    → m ≡ count_with (kind (asked_of t body)) n → m ≡ u64_saturate (count_asked t kind (bodies ++ body ∷ []))
counts_more t kind bodies body n m e f =
    saturated (kind (asked_of t body)) (count_asked t kind bodies) (count_asked t kind (bodies ++ body ∷ [])) n m e f
    (sum_by-append (λ b. cond (kind (asked_of t b)) 1 0) bodies (body ∷ []) ∙ ap (λ k. count_asked t kind bodies + k) (zero-add (cond (kind (asked_of t body)) 1 0)))

frames_counted : (bodies : List (List ℕ)) (body : List ℕ) (n m : ℕ) → n ≡ u64_saturate (length bodies) → m ≡ u64_saturate (n + 1) → m ≡ u64_saturate (length (bodies ++ body ∷ []))
frames_counted bodies body n m e f = saturated true (length bodies) (length (bodies ++ body ∷ [])) n m e f (length-append bodies (body ∷ []))

reports_more : (t : Layout) (old new : Report) (bodies : List (List ℕ)) (body : List ℕ) → Reports t old bodies → ReportsOneMore old new (asked_of t body) → Reports t new (bodies ++ body ∷ [])
reports_more t old new bodies body r s = record {
  frames = frames_counted bodies body _ _ r.frames s.frames;
  answered = counts_more t has_answer bodies body _ _ r.answered s.answered;
  silent = counts_more t is_silent bodies body _ _ r.silent s.silent;
  unreadable = counts_more t is_unreadable bodies body _ _ r.unreadable s.unreadable;
}

-- ---- the loop

-- the loop begins
pub going_none : (l : Agreed) (start : Sending) (report : Report) (window : List ℕ) → books_after start.books [] ≡ start.books → window ≡ [] → Reports l.table report []
    → Going l start (sending (prepend_known window start.unread) start.writer start.books) report
unfolding serves_none
going_none l start report window kept none reports = record {
  bodies = [];
  serves = serves_none l start window kept none;
  flushed = inr (refl, refl);
  reports = reports;
}

-- it goes on behind the frame
pub going_more : FirstsGoOn → FrameLaws → (l : Agreed) (start now : Sending) (next : Option (List ℕ)) (after : Stream) (new : Books) (before report : Report) (body : List ℕ)
    → Going l start now before → Consumes now.unread next (frame_of l.header body) → length body ≤ largest l.header
    → AnswersWhole l now.books new (message_in l.table body) now.writer after → ReportsOneMore before report (asked_of l.table body) → Going l start (sending next after new) report
unfolding serves_more
going_more go_on joins l start now next after new before report body going taken fits whole reports = record {
  bodies = going.bodies ++ body ∷ [];
  serves = serves_more l start now going.bodies going.serves go_on joins next after new body taken fits whole;
  flushed = flushed_more start.writer.counts now.writer.counts after.counts going.serves.bytes whole.bytes going.flushed whole.flushed;
  reports = reports_more l.table before report going.bodies body going.reports reports;
}

pub running_write : (before now : Usage) (w : Counts) (turns left left' : ℕ) → Running before now turns left → TakesTurns now.writer w left left' → Spends now.writer w left left' → Running before (usage now.reader w) turns left'
running_write before now w turns left left' running takes spends = record {
  calls = omega (arith, running.calls, takes);
  moved = omega (arith, running.moved, spends.moved);
  reader = running.reader;
  writer = spends.failures ∙ running.writer;
}

pub running_read : (before now : Usage) (r : Counts) (turns left left' : ℕ) → Running before now turns left → TakesTurns now.reader r left left' → Spends now.reader r left left' → Running before (usage r now.writer) turns left'
running_read before now r turns left left' running takes spends = record {
  calls = omega (arith, running.calls, takes);
  moved = omega (arith, running.moved, spends.moved);
  reader = spends.failures ∙ running.reader;
  writer = running.writer;
}

-- ---- one answer

-- it was written, from an empty buffer
pub written_whole : (l : Agreed) (before after : Replying) (body : List ℕ) (written sent : Stream) → before.out ≡ [] → Answers l before after body
    → Appends written.bytes sent.bytes after.out → FlushesAll written.counts sent.counts after.out → AnswersWhole l before.books after.books (message_in l.table body) written sent
written_whole l before after body written sent none (entered, (bytes, answer, grows)) appends flushed =
    let is : after.out ≡ bytes = grows ∙ ap (λ (k : List ℕ). k ++ bytes) none in
    record {
      entered = entered;
      bytes = bytes;
      answer = answer;
      appends = subst (Appends written.bytes sent.bytes) is appends;
      flushed = subst (FlushesAll written.counts sent.counts) is flushed;
    }

-- or in part
pub written_part : (l : Agreed) (before after : Replying) (body : List ℕ) (written sent : Stream) → before.out ≡ [] → Answers l before after body
    → WritesPart written sent after.out → AnswersPart l before.books after.books (message_in l.table body) written sent
written_part l before after body written sent none (entered, (bytes, answer, grows)) part =
    let is : after.out ≡ bytes = grows ∙ ap (λ (k : List ℕ). k ++ bytes) none in
    (entered, (bytes, answer, subst (WritesPart written sent) is part))
