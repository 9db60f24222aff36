use Rattle.iso_order.proofs.requests.add_acquirer.Goals as goal

pub returns : goal.returns
returns c =
    let facts = c.digits_of-digits.ensures in
    let own = c.acquirers_in_own_digits.ensures c.digits_of-digits.result c.args.key.now.acquirer facts.some c.requires.few facts.fits facts.least in
    rw own.1 c.add_number.ensures
