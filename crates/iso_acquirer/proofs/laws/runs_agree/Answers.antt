use Rattle.iso_acquirer.proofs.Agree.{both-agree}
use Rattle.iso_acquirer.proofs.Settled.{books-agree}
use Rattle.iso_acquirer.proofs.Ran.{IssuerLaws, sound-unused, sound-ran, closed-ran}
use Rattle.iso_acquirer.proofs.laws.runs_agree.Goals as goal

pub returns-clause-agree : goal.returns-clause-agree
returns-clause-agree c = λ id accounts limit events n w own is.
    let laws : IssuerLaws = record {
      grow = c.journals_grow.ensures.grown;
      known = c.keys_stay_distinct.ensures.known;
      last = c.keys_stay_distinct.ensures.new;
      distinct = c.keys_stay_distinct.ensures.distinct;
      answered = c.answers_are_entered.ensures;
      stay = c.reversals_stay.ensures.reversed;
      wholly = c.reversals_stay.ensures.wholly;
    } in
    both-agree c.reversals_stay.ensures.none c.granted_stands.ensures.granted c.granted_stands.ensures.declined c.stands_no_more.ensures c.reversed_never_stands.ensures w
    (sound-ran laws _ events n w (sound-unused id accounts limit own) is.can is.ran).sound

pub returns-clause-closed : goal.returns-clause-closed
returns-clause-closed c = λ id accounts limit events n w own is more m later goes_on.
    let laws : IssuerLaws = record {
      grow = c.journals_grow.ensures.grown;
      known = c.keys_stay_distinct.ensures.known;
      last = c.keys_stay_distinct.ensures.new;
      distinct = c.keys_stay_distinct.ensures.distinct;
      answered = c.answers_are_entered.ensures;
      stay = c.reversals_stay.ensures.reversed;
      wholly = c.reversals_stay.ensures.wholly;
    } in
    closed-ran laws w more m later (sound-ran laws _ events n w (sound-unused id accounts limit own) is.can is.ran) goes_on.can goes_on.ran

pub returns-clause-books : goal.returns-clause-books
returns-clause-books c = λ id accounts limit events n w own is.
    let laws : IssuerLaws = record {
      grow = c.journals_grow.ensures.grown;
      known = c.keys_stay_distinct.ensures.known;
      last = c.keys_stay_distinct.ensures.new;
      distinct = c.keys_stay_distinct.ensures.distinct;
      answered = c.answers_are_entered.ensures;
      stay = c.reversals_stay.ensures.reversed;
      wholly = c.reversals_stay.ensures.wholly;
    } in
    books-agree c.journals_grow.ensures.orders c.journals_grow.ensures.found c.granted_stands.ensures.whole c.granted_stands.ensures.declined c.granted_stands.ensures.nothing
    c.reversals_stay.ensures.none c.stands_no_more.ensures c.reversed_never_stands.ensures w
    (sound-ran laws _ events n w (sound-unused id accounts limit own) is.can is.ran).sound

pub returns-clause-sent : goal.returns-clause-sent
returns-clause-sent c = λ id accounts limit events n w own is.
    let laws : IssuerLaws = record {
      grow = c.journals_grow.ensures.grown;
      known = c.keys_stay_distinct.ensures.known;
      last = c.keys_stay_distinct.ensures.new;
      distinct = c.keys_stay_distinct.ensures.distinct;
      answered = c.answers_are_entered.ensures;
      stay = c.reversals_stay.ensures.reversed;
      wholly = c.reversals_stay.ensures.wholly;
    } in
    (sound-ran laws _ events n w (sound-unused id accounts limit own) is.can is.ran).sound.agreed.sent_known
