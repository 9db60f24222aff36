use Rattle.std.proofs.Common.{true, refl}
use Rattle.iso_issuer.specs.Laws.{books_after}
use Rattle.iso_shards.specs.Shards.{sent_to, accounts_in}
use Rattle.iso_shards.specs.Laws.{unused}
use Rattle.iso_shards.proofs.Agreed.{shard_agrees, shard_seen, shard_balances, shard_finds}
use Rattle.iso_shards.proofs.Together.{one_account}
use Rattle.iso_shards.proofs.Steps.{laws_of, same_answer, same_books, others_leave_it, handled}
use Rattle.iso_shards.proofs.Steps.{runs}
use Rattle.iso_shards.proofs.Reversals.{reversals_alike, reversal_granted}
use Rattle.iso_shards.proofs.Concerned.{stand_anywhere, stray_changes_nothing}
use Rattle.iso_shards.proofs.Completions.{is_as_debit}
use Rattle.iso_shards.proofs.Whole.{have_a_whole}
use Rattle.iso_shards.proofs.laws.shards_are_apart.Goals as goal

pub returns-clause-books : goal.returns-clause-books
returns-clause-books c = shard_agrees

pub returns-clause-entries : goal.returns-clause-entries
returns-clause-entries c = λ own whole shard is. (shard_seen own whole shard is).same

pub returns-clause-balances : goal.returns-clause-balances
returns-clause-balances c = shard_balances

pub returns-clause-accounts : goal.returns-clause-accounts
returns-clause-accounts c = λ own whole shard pan is. shard_finds own whole shard is pan

pub returns-clause-begins : goal.returns-clause-begins
returns-clause-begins c = λ own accounts limit its_limit. record { accounts = refl; orders = refl }

pub returns-clause-together : goal.returns-clause-together
returns-clause-together c = one_account

pub returns-clause-anywhere : goal.returns-clause-anywhere
returns-clause-anywhere c = stand_anywhere

pub returns-clause-whole : goal.returns-clause-whole
returns-clause-whole c = λ shard_of count shards. have_a_whole shard_of shards count

pub returns-clause-answers : goal.returns-clause-answers
returns-clause-answers c = λ own whole shard o is sent go.
    let laws = laws_of c.journals_grow.ensures.orders c.journals_grow.ensures.grown
    c.journals_grow.ensures.found c.keys_stay_distinct.ensures.known
    c.keys_stay_distinct.ensures.new c.keys_stay_distinct.ensures.distinct in
    (same_answer laws own whole shard is o sent go, same_books laws own whole shard is o sent go)

pub returns-clause-others : goal.returns-clause-others
returns-clause-others c = λ own whole shard o is off distinct.
    let laws = laws_of c.journals_grow.ensures.orders c.journals_grow.ensures.grown
    c.journals_grow.ensures.found c.keys_stay_distinct.ensures.known
    c.keys_stay_distinct.ensures.new c.keys_stay_distinct.ensures.distinct in
    others_leave_it laws own whole shard is o off distinct

pub returns-clause-runs : goal.returns-clause-runs
returns-clause-runs c = λ own whole shard new_whole new_shard orders results its_results.
    let laws = laws_of c.journals_grow.ensures.orders c.journals_grow.ensures.grown
    c.journals_grow.ensures.found c.keys_stay_distinct.ensures.known
    c.keys_stay_distinct.ensures.new c.keys_stay_distinct.ensures.distinct in
    runs laws own whole shard new_whole new_shard orders results its_results

pub returns-clause-handled : goal.returns-clause-handled
returns-clause-handled c = λ own whole shard orders is.
    let laws = laws_of c.journals_grow.ensures.orders c.journals_grow.ensures.grown
    c.journals_grow.ensures.found c.keys_stay_distinct.ensures.known
    c.keys_stay_distinct.ensures.new c.keys_stay_distinct.ensures.distinct in
    handled laws own whole shard is orders

pub returns-clause-reversals : goal.returns-clause-reversals
returns-clause-reversals c =
    let laws = laws_of c.journals_grow.ensures.orders c.journals_grow.ensures.grown
    c.journals_grow.ensures.found c.keys_stay_distinct.ensures.known
    c.keys_stay_distinct.ensures.new c.keys_stay_distinct.ensures.distinct in
    reversals_alike laws

pub returns-clause-granted : goal.returns-clause-granted
returns-clause-granted c = λ b o.
    let laws = laws_of c.journals_grow.ensures.orders c.journals_grow.ensures.grown
    c.journals_grow.ensures.found c.keys_stay_distinct.ensures.known
    c.keys_stay_distinct.ensures.new c.keys_stay_distinct.ensures.distinct in
    reversal_granted laws b o.key o.act

pub returns-clause-strays : goal.returns-clause-strays
returns-clause-strays c = λ b key original left.
    let laws = laws_of c.journals_grow.ensures.orders c.journals_grow.ensures.grown
    c.journals_grow.ensures.found c.keys_stay_distinct.ensures.known
    c.keys_stay_distinct.ensures.new c.keys_stay_distinct.ensures.distinct in
    stray_changes_nothing (λ pan. true) key original left laws b

pub returns-clause-completions : goal.returns-clause-completions
returns-clause-completions c = λ b key hold m distinct.
    let laws = laws_of c.journals_grow.ensures.orders c.journals_grow.ensures.grown
    c.journals_grow.ensures.found c.keys_stay_distinct.ensures.known
    c.keys_stay_distinct.ensures.new c.keys_stay_distinct.ensures.distinct in
    is_as_debit laws b distinct key hold m

pub returns-clause-day : goal.returns-clause-day
returns-clause-day c = λ own accounts limit its_limit orders go room its_room.
    let laws = laws_of c.journals_grow.ensures.orders c.journals_grow.ensures.grown
    c.journals_grow.ensures.found c.keys_stay_distinct.ensures.known
    c.keys_stay_distinct.ensures.new c.keys_stay_distinct.ensures.distinct in
    let whole = unused accounts limit in
    let shard = unused (accounts_in own accounts) its_limit in
    shard_balances own (books_after whole orders) (books_after shard (sent_to own orders))
    (handled laws own whole shard (record { accounts = refl; orders = refl }) orders go room
    its_room)
