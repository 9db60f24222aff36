-- Block after block of a stream.
use Rattle.std.proofs.Common.{◌≡◌, ◌∙◌, ◌++◌, inl, inr, ℕ, refl, sym, ap, subst, true, List, [], ◌∷◌, take, drop, append_assoc, append-nil, take-append-drop}
use Rattle.std.proofs.KnownBytes.{Appends-trans, Appends-nil, Consumes-trans}
use Rattle.std.specs.Prelude.{Option, Some, None, Result, Ok, Err}
use Rattle.std.specs.Io.KnownBytes.{Appends, Consumes, Keeps, IsAtEnd}
use Rattle.iso_table.specs.Layout.{Layout}
use Rattle.iso_wire.specs.declared.header.Header.{Header}
use Rattle.iso_wire.specs.declared.header.Header.TheVariants.{Binary2, Ascii4, Bcd2}
use Rattle.iso_wire.specs.FrameLaws.{FrameLaws}
use Rattle.iso_wire.specs.Framing.{frames_of, AllFit, NoFrame, BadIsNoFrame, is_bad_header}
use Rattle.iso_order.specs.Order.{Instruction}
use Rattle.iso_issuer.specs.Books.{Books}
use Rattle.iso_host.specs.Links.{agreed}
use Rattle.iso_host.specs.Entering.{books_after_bodies, BodiesGoOn, StaysWithout}
use Rattle.iso_host.specs.Handling.{BodyAlone}
use Rattle.iso_host.specs.Output.{IsAnswer, IsOutputFrom, IsOutput, NoOutput}
use Rattle.iso_host.specs.Peers.{Unfinished, Refuses, unfinished}
use Rattle.iso_host.specs.Serving.{Serves, IsWhole, standing}
use Rattle.iso_host.specs.declared.peer.PeerFault.{PeerFault}
use Rattle.iso_host.specs.declared.peer.PeerFault.TheVariants as peer
use Rattle.iso_peers.specs.Connection.{ConnectionState}
use Rattle.iso_peers.specs.Turn.{TakesAll, StopsAt, at_books}
use Rattle.iso_peers.specs.declared.turn.Turned.{Turned}
use Rattle.iso_host.specs.declared.fault.Report.{Report}
use Rattle.iso_service.specs.Serving.{AreKept, EndsAt, Hands, Leaves, Stay, StayBehind, UnlessLog, WithoutMemory, stop_of}
use Rattle.iso_service.specs.declared.fault.ServiceFault.{ServiceFault}
use Rattle.iso_service.specs.declared.fault.ServiceFault.TheVariants.{Read, Write, BadHeader, CutFrame, Memory, Log}

-- ---- streams

keeps_self : (a : Option (List ℕ)) → Consumes a a []
keeps_self None = tt
keeps_self (Some x) = refl

pub kept_none : (a b : Option (List ℕ)) → Keeps a b → Appends a b []
kept_none None b kept = tt
kept_none (Some x) None kept = absurd kept
kept_none (Some x) (Some y) kept = kept ∙ sym (append-nil x)

none_taken : (a b : Option (List ℕ)) → Keeps a b → Consumes a b []
none_taken None b kept = tt
none_taken (Some x) None kept = absurd kept
none_taken (Some x) (Some y) kept = sym kept

-- no frame begins where there is no byte
pub no_byte : (h : Header) → NoFrame h []
no_byte Binary2 body more fits e = cc
no_byte Ascii4 body more fits e = cc
no_byte Bcd2 body more fits e = cc

-- ---- bodies behind others

-- output at the books after some bodies is output behind them
output_behind : (t : Layout) (h : Header) (books : Books) (before earlier bodies : List (List ℕ)) (bytes : List ℕ) → BodiesGoOn
    → IsOutputFrom (agreed t h) (books_after_bodies t books before) earlier bodies bytes → IsOutputFrom (agreed t h) books (before ++ earlier) bodies bytes
output_behind t h books before earlier [] bytes law is = is
output_behind t h books before earlier (x ∷ xs) bytes law is = (
  is.0,
  is.1,
  subst (λ (b : Books). IsAnswer t h b x is.0) (law t books before earlier) is.2,
  subst (λ (l : List (List ℕ)). IsOutputFrom (agreed t h) books l xs is.1) (sym (append_assoc before earlier (x ∷ []))) (output_behind t h books before (earlier ++ x ∷ []) xs is.1 law is.3),
  is.4,
)

output_joined : (t : Layout) (h : Header) (books : Books) (earlier xs ys : List (List ℕ)) (a b : List ℕ)
    → IsOutputFrom (agreed t h) books earlier xs a → IsOutputFrom (agreed t h) books (earlier ++ xs) ys b → IsOutputFrom (agreed t h) books earlier (xs ++ ys) (a ++ b)
output_joined t h books earlier [] ys a b first second =
    subst (λ (l : List ℕ). IsOutputFrom (agreed t h) books earlier ys (l ++ b)) (sym first) (subst (λ (l : List (List ℕ)). IsOutputFrom (agreed t h) books l ys b) (append-nil earlier) second)
output_joined t h books earlier (x ∷ xs) ys a b first second = (
  first.0,
  first.1 ++ b,
  first.2,
  output_joined t h books (earlier ++ x ∷ []) xs ys first.1 b first.3 (subst (λ (l : List (List ℕ)). IsOutputFrom (agreed t h) books l ys b) (sym (append_assoc earlier (x ∷ []) xs)) second),
  ap (λ (l : List ℕ). l ++ b) first.4 ∙ append_assoc first.0 first.1 b,
)

output_append : (t : Layout) (h : Header) (books : Books) (xs ys : List (List ℕ)) (a b : List ℕ) → BodiesGoOn
    → IsOutput t h books xs a → IsOutput t h (books_after_bodies t books xs) ys b → IsOutput t h books (xs ++ ys) (a ++ b)
unfolding IsOutput
output_append t h books xs ys a b law first second =
    output_joined t h books [] xs ys a b first (subst (λ (l : List (List ℕ)). IsOutputFrom (agreed t h) books l ys b) (append-nil xs) (output_behind t h books xs [] ys b law second))

output_alone : (t : Layout) (h : Header) (books : Books) (body first : List ℕ) → books_after_bodies t books [] ≡ books → IsAnswer t h books body first
    → IsOutput t h books (body ∷ []) first
unfolding IsOutput
output_alone t h books body first without answer =
    (first, [], subst (λ (b : Books). IsAnswer t h b body first) (sym without) answer, refl, sym (append-nil first))

-- ---- the stream so far

module _ (t : Layout) (h : Header) (unread held : Option (List ℕ)) (old : Books) where
  -- the whole frames that were read are entered and answered, and nothing waits
  pub record Going (left written : Option (List ℕ)) (now : Books) (c : ConnectionState) : Type 0 where
    pub bodies : List (List ℕ)
    pub served : Serves (agreed t h) (standing unread held old) (standing left written now) bodies c.peer.held
    pub partial : NoFrame h c.peer.held
    pub none : c.waiting ≡ []

  served_none : NoOutput → StaysWithout old → Serves (agreed t h) (standing unread held old) (standing unread held old) [] []
  served_none no_output without = record {
    read = keeps_self unread;
    fit = tt;
    books = sym (without t);
    bytes = [];
    output = no_output t h old;
    answers = Appends-nil held;
  }

  pub at_first : (c : ConnectionState) → NoOutput → StaysWithout old → c.peer.held ≡ [] → c.waiting ≡ [] → Going unread held old c
  at_first c no_output without empty none = record {
    bodies = [];
    served = subst (Serves (agreed t h) (standing unread held old) (standing unread held old) []) (sym empty) (served_none no_output without);
    partial = subst (NoFrame h) (sym empty) (no_byte h);
    none = none;
  }

  -- nothing is written yet
  pub kept_first : (may_leave : List Instruction → Type 0) → NoOutput → StaysWithout old → Stay may_leave old → AreKept (agreed t h) held held old may_leave
  kept_first may_leave no_output without stay = record {
    bodies = [];
    answers = [];
    output = no_output t h old;
    shown = [];
    front = ([], refl);
    appends = Appends-nil held;
    stay = subst (Stay may_leave) (sym (without t)) stay;
  }

  -- there is no memory for a block
  pub no_block : NoOutput → StaysWithout old → WithoutMemory (agreed t h) (standing unread held old) (standing unread held old)
  no_block no_output without = (old, [], [], served_none no_output without, inl refl)

  module _ (left written : Option (List ℕ)) (now : Books) (c : ConnectionState) (going : Going left written now c) where
    -- a read that fails takes nothing
    pub unread_now : (next : Option (List ℕ)) → Keeps left next → IsWhole (agreed t h) (standing unread held old) (standing next written now) (λ bodies rest. Unit {0})
    unread_now next kept = (
      going.bodies,
      c.peer.held,
      record {
        fit = going.served.fit;
        books = going.served.books;
        bytes = going.served.bytes;
        output = going.served.output;
        answers = going.served.answers;
        read = subst (Consumes unread next) (append-nil (frames_of h going.bodies ++ c.peer.held)) (Consumes-trans unread left next _ _ going.served.read (none_taken left next kept));
      },
      going.partial,
      tt,
    )

    -- what was written is kept
    pub kept_now : (may_leave : List Instruction → Type 0) → Stay may_leave now → AreKept (agreed t h) held written old may_leave
    kept_now may_leave stay = record {
      bodies = going.bodies;
      answers = going.served.bytes;
      output = going.served.output;
      shown = going.served.bytes;
      front = ([], sym (append-nil going.served.bytes));
      appends = going.served.answers;
      stay = subst (Stay may_leave) going.served.books stay;
    }

    -- so it is where the log fails, and nothing more is written
    pub kept_failed : (next : Option (List ℕ)) (may_leave : List Instruction → Type 0) → Keeps written next → StayBehind may_leave now.orders
        → AreKept (agreed t h) held next old may_leave
    kept_failed next may_leave keeps stay = record {
      bodies = going.bodies;
      answers = going.served.bytes;
      output = going.served.output;
      shown = going.served.bytes;
      front = ([], sym (append-nil going.served.bytes));
      appends = subst (Appends held next) (append-nil going.served.bytes) (Appends-trans held written next _ _ going.served.answers (kept_none written next keeps));
      stay = subst (Stay may_leave) going.served.books stay;
    }

    -- the input ends
    pub at_end : (next : Option (List ℕ)) → Consumes left next [] → IsAtEnd next → (result : Result Report ServiceFault) → EndsAt c.peer.held result
        → Leaves (agreed t h) (standing unread held old) (standing next written now) result
    at_end next read end result ends = by result ends
      where
        served : Serves (agreed t h) (standing unread held old) (standing next written now) going.bodies c.peer.held
        served = record {
          fit = going.served.fit;
          books = going.served.books;
          bytes = going.served.bytes;
          output = going.served.output;
          answers = going.served.answers;
          read = subst (Consumes unread next) (append-nil (frames_of h going.bodies ++ c.peer.held)) (Consumes-trans unread left next _ _ going.served.read read);
        }

        by : (result : Result Report ServiceFault) → EndsAt c.peer.held result → Leaves (agreed t h) (standing unread held old) (standing next written now) result
        by (Ok report) ends = (going.bodies, c.peer.held, served, going.partial, (ends, end))
        by (Err CutFrame) ends = (going.bodies, c.peer.held, served, going.partial, (ends, end))
        by (Err Read) ends = absurd ends
        by (Err Write) ends = absurd ends
        by (Err BadHeader) ends = absurd ends
        by (Err Memory) ends = absurd ends
        by (Err Log) ends = absurd ends

    -- nothing more is read
    pub reads_no_more : IsWhole (agreed t h) (standing unread held old) (standing left written now) (λ bodies rest. Unit {0})
    reads_no_more = (going.bodies, c.peer.held, going.served, going.partial, tt)

    module _ (next : Option (List ℕ)) (block : List ℕ) (c2 : ConnectionState) (now2 : Books) (turned : Turned) (joins : FrameLaws) (alone : BodyAlone) (law : BodiesGoOn)
        (table : c.peer.table ≡ t) (header : c.peer.header ≡ h) (table2 : c2.peer.table ≡ t) (header2 : c2.peer.header ≡ h)
        (read : Consumes left next block) (taken : TakesAll (at_books c now) (at_books c2 now2) block turned) where
      abbrev mid : Books
      mid = books_after_bodies t now taken.bodies

      abbrev all_bodies : List (List ℕ)
      all_bodies = going.bodies ++ taken.bodies

      abbrev behind : List ℕ
      behind = drop turned.used block

      joined : c.peer.held ++ take turned.used block ≡ frames_of h taken.bodies ++ c2.peer.held
      joined = subst (λ (k : Header). c.peer.held ++ take turned.used block ≡ frames_of k taken.bodies ++ c2.peer.held) header taken.joined

      bytes_are : (frames_of h going.bodies ++ c.peer.held) ++ block ≡ frames_of h all_bodies ++ (c2.peer.held ++ behind)
      bytes_are =
          append_assoc (frames_of h going.bodies) c.peer.held block
          ∙ ap (λ (l : List ℕ). frames_of h going.bodies ++ l) (ap (λ (l : List ℕ). c.peer.held ++ l) (sym (take-append-drop turned.used block))
          ∙ sym (append_assoc c.peer.held (take turned.used block) behind) ∙ ap (λ (l : List ℕ). l ++ behind) joined
          ∙ append_assoc (frames_of h taken.bodies) c2.peer.held behind)
          ∙ sym (append_assoc (frames_of h going.bodies) (frames_of h taken.bodies) (c2.peer.held ++ behind))
          ∙ ap (λ (l : List ℕ). l ++ (c2.peer.held ++ behind)) (sym (joins.joined h going.bodies taken.bodies))

      all_fit : AllFit h all_bodies
      all_fit = joins.fit h going.bodies taken.bodies going.served.fit (subst (λ (k : Header). AllFit k taken.bodies) header taken.fit)

      all_books : mid ≡ books_after_bodies t old all_bodies
      all_books = ap (λ (b : Books). books_after_bodies t b taken.bodies) going.served.books ∙ law t old going.bodies taken.bodies

      all_output : IsOutput t h old all_bodies (going.served.bytes ++ taken.answers)
      all_output =
          output_append t h old going.bodies taken.bodies going.served.bytes taken.answers law going.served.output
          (subst (λ (b : Books). IsOutput t h b taken.bodies taken.answers) going.served.books
          (subst (λ (k : Header). IsOutput t k now taken.bodies taken.answers) header
          (subst (λ (u : Layout). IsOutput u c.peer.header now taken.bodies taken.answers) table taken.output)))

      pub waits : c2.waiting ≡ taken.answers
      waits = taken.waits ∙ ap (λ (l : List ℕ). l ++ taken.answers) going.none

      stops : StopsAt c2.peer mid now2 behind turned.stopped
      stops = subst (λ (u : Layout). StopsAt c2.peer (books_after_bodies u now taken.bodies) now2 behind turned.stopped) table taken.stops

      served_to : (shown : Option (List ℕ)) → Appends written shown c2.waiting → Serves (agreed t h) (standing unread held old) (standing next shown mid) all_bodies (c2.peer.held ++ behind)
      served_to shown appends = record {
        read = subst (Consumes unread next) bytes_are (Consumes-trans unread left next _ _ going.served.read read);
        fit = all_fit;
        books = all_books;
        bytes = going.served.bytes ++ taken.answers;
        output = all_output;
        answers = Appends-trans held written shown _ _ going.served.answers (subst (Appends written shown) waits appends);
      }

      -- a block was taken whole
      pub goes_on : (shown : Option (List ℕ)) (c3 : ConnectionState) → Appends written shown c2.waiting → turned.stopped ≡ None → c3.peer ≡ c2.peer → c3.waiting ≡ []
          → Going next shown now2 c3
      goes_on shown c3 appends none same empty =
          let end = subst (StopsAt c2.peer mid now2 behind) none stops in
          let held_is : c2.peer.held ++ behind ≡ c3.peer.held =
          ap (λ (l : List ℕ). c2.peer.held ++ l) end.0 ∙ append-nil c2.peer.held ∙ ap (λ (p : Unfinished). p.held) (sym same) in
          record {
            bodies = all_bodies;
            served = subst (λ (b : Books). Serves (agreed t h) (standing unread held old) (standing next shown b) all_bodies c3.peer.held) (sym end.2)
                (subst (Serves (agreed t h) (standing unread held old) (standing next shown mid) all_bodies) held_is (served_to shown appends));
            partial = subst (λ (p : Unfinished). NoFrame h p.held) (sym same) (subst (λ (k : Header). NoFrame k c2.peer.held) header2 end.1);
            none = empty;
          }

      -- a header isn't of digits
      pub ends_bad : (shown : Option (List ℕ)) → BadIsNoFrame → Appends written shown c2.waiting → turned.stopped ≡ Some peer.BadHeader
          → IsWhole (agreed t h) (standing unread held old) (standing next shown now2) (λ bodies rest. is_bad_header h rest ≡ true)
      ends_bad shown bad_law appends is =
          let end = subst (StopsAt c2.peer mid now2 behind) is stops in
          let bad = subst (λ (k : Header). is_bad_header k (c2.peer.held ++ behind) ≡ true) header2 end.1 in (
            all_bodies,
            c2.peer.held ++ behind,
            subst (λ (b : Books). Serves (agreed t h) (standing unread held old) (standing next shown b) all_bodies (c2.peer.held ++ behind)) (sym end.0) (served_to shown appends),
            bad_law h (c2.peer.held ++ behind) bad,
            bad,
          )

      refused_memory : turned.stopped ≡ Some peer.Memory → Refuses (unfinished (agreed t h) []) mid now2 (c2.peer.held ++ behind) peer.Memory
      refused_memory is =
          let end = subst (StopsAt c2.peer mid now2 behind) is stops in
          subst (λ (k : Header). Refuses (unfinished (agreed t k) c2.peer.held) mid now2 behind peer.Memory) header2
          (subst (λ (u : Layout). Refuses (unfinished (agreed u c2.peer.header) c2.peer.held) mid now2 behind peer.Memory) table2 end)

      -- memory ran out
      pub ends_memory : (shown : Option (List ℕ)) → Appends written shown c2.waiting → turned.stopped ≡ Some peer.Memory → WithoutMemory (agreed t h) (standing unread held old) (standing next shown now2)
      ends_memory shown appends is = (mid, all_bodies, c2.peer.held ++ behind, served_to shown appends, refused_memory is)

      -- either way
      pub ends_stopped : (shown : Option (List ℕ)) (fault : PeerFault) (result : ServiceFault) → BadIsNoFrame → Appends written shown c2.waiting
          → turned.stopped ≡ Some fault → result ≡ stop_of fault → Leaves (agreed t h) (standing unread held old) (standing next shown now2) (Err result)
      ends_stopped shown peer.BadHeader result bad_law appends is same =
          subst (λ (f : ServiceFault). Leaves (agreed t h) (standing unread held old) (standing next shown now2) (Err f)) (sym same) (ends_bad shown bad_law appends is)
      ends_stopped shown peer.Memory result bad_law appends is same =
          subst (λ (f : ServiceFault). Leaves (agreed t h) (standing unread held old) (standing next shown now2) (Err f)) (sym same) (ends_memory shown appends is)

      -- ---- what was written is kept

      -- the bodies that were entered, and the output for them
      record Entered : Type 0 where
        bodies : List (List ℕ)
        extra : List ℕ
        output : IsOutput t h old bodies (going.served.bytes ++ (taken.answers ++ extra))
        books : now2 ≡ books_after_bodies t old bodies

      entered_same : now2 ≡ mid → Entered
      entered_same same = record {
        bodies = all_bodies;
        extra = [];
        output = subst (λ (l : List ℕ). IsOutput t h old all_bodies (going.served.bytes ++ l)) (sym (append-nil taken.answers)) all_output;
        books = same ∙ all_books;
      }

      entered_more : (body first : List ℕ) → now2 ≡ books_after_bodies t mid (body ∷ []) → IsAnswer t h mid body first → Entered
      entered_more body first more answer = record {
        bodies = all_bodies ++ body ∷ [];
        extra = first;
        output = subst (λ (l : List ℕ). IsOutput t h old (all_bodies ++ body ∷ []) l) (append_assoc going.served.bytes taken.answers first)
            (output_append t h old all_bodies (body ∷ []) (going.served.bytes ++ taken.answers) first law all_output
            (output_alone t h (books_after_bodies t old all_bodies) body first without (subst (λ (b : Books). IsAnswer t h b body first) all_books answer)));
        books = more ∙ ap (λ (b : Books). books_after_bodies t b (body ∷ [])) all_books ∙ law t old all_bodies (body ∷ []);
      }
        where
          without : books_after_bodies t (books_after_bodies t old all_bodies) [] ≡ books_after_bodies t old all_bodies
          without = law t old all_bodies [] ∙ ap (books_after_bodies t old) (append-nil all_bodies)

      entered : (s : Option PeerFault) → turned.stopped ≡ s → Entered
      entered None is = entered_same (subst (StopsAt c2.peer mid now2 behind) is stops).2
      entered (Some peer.BadHeader) is = entered_same (subst (StopsAt c2.peer mid now2 behind) is stops).0
      entered (Some peer.Memory) is = by (refused_memory is)
        where
          by : Refuses (unfinished (agreed t h) []) mid now2 (c2.peer.held ++ behind) peer.Memory → Entered
          by (inl same) = entered_same same
          by (inr more) = entered_more more.0 more.4.1.0 (more.4.0 ∙ alone t mid more.0) more.4.1.1

      pub kept_after : (shown : Option (List ℕ)) (part more : List ℕ) (may_leave : List Instruction → Type 0) → part ++ more ≡ c2.waiting → Appends written shown part
          → Stay may_leave now2 → AreKept (agreed t h) held shown old may_leave
      kept_after shown part more may_leave parts appends stay =
          let all = entered turned.stopped refl in
          record {
            bodies = all.bodies;
            answers = going.served.bytes ++ (taken.answers ++ all.extra);
            output = all.output;
            shown = going.served.bytes ++ part;
            front = (
              more ++ all.extra,
              ap (λ (l : List ℕ). going.served.bytes ++ (l ++ all.extra)) (sym (parts ∙ waits))
                  ∙ ap (λ (l : List ℕ). going.served.bytes ++ l) (append_assoc part more all.extra) ∙ sym (append_assoc going.served.bytes part (more ++ all.extra)),
            );
            appends = Appends-trans held written shown _ _ going.served.answers appends;
            stay = subst (Stay may_leave) all.books stay;
          }

      -- keeping or writing failed
      pub kept_hands : (fault : ServiceFault) (shown : Option (List ℕ)) (may_leave : List Instruction → Type 0) → Hands written shown c2.waiting (Err fault)
          → StayBehind may_leave now.orders → UnlessLog {T = Unit {0}} (Err fault) (Stay may_leave now2) → AreKept (agreed t h) held shown old may_leave
      kept_hands Log shown may_leave hands before stay = kept_failed shown may_leave hands before
      kept_hands Write shown may_leave hands before stay =
          kept_after shown (take hands.0 c2.waiting) (drop hands.0 c2.waiting) may_leave (take-append-drop hands.0 c2.waiting) hands.2 stay
      kept_hands Read shown may_leave hands before stay = absurd hands
      kept_hands BadHeader shown may_leave hands before stay = absurd hands
      kept_hands CutFrame shown may_leave hands before stay = absurd hands
      kept_hands Memory shown may_leave hands before stay = absurd hands

      pub leaves_hands : (fault : ServiceFault) (shown : Option (List ℕ)) → Hands written shown c2.waiting (Err fault)
          → Leaves (agreed t h) (standing unread held old) (standing next shown now2) (Err fault)
      leaves_hands Log shown hands = tt
      leaves_hands Write shown hands = tt
      leaves_hands Read shown hands = absurd hands
      leaves_hands BadHeader shown hands = absurd hands
      leaves_hands CutFrame shown hands = absurd hands
      leaves_hands Memory shown hands = absurd hands

      -- all of it was written
      pub kept_all : (shown : Option (List ℕ)) (may_leave : List Instruction → Type 0) → Appends written shown c2.waiting → Stay may_leave now2
          → AreKept (agreed t h) held shown old may_leave
      kept_all shown may_leave appends stay = kept_after shown c2.waiting [] may_leave (append-nil c2.waiting) appends stay
