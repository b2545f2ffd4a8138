use Rattle.kb_draw.proofs.Finding.{earliest_at, all_before, some_found, none_found}
use Rattle.kb_draw.proofs.search.first_found.Goals as goal

pub returns-clause-found : goal.returns-clause-found
returns-clause-found g c =
    let search = c.args.search.now in
    let places = g.S.Search.places search in let Has = g.S.Search.has search in let Lacks = g.S.Search.lacks search in
    let first = c.earliest.result in let shares = c.in_ok-shares.ensures in
    let is = rw c.places.ensures at c.earliest.ensures in
    let at = earliest_at places Has Lacks c.in_ok-shares.shares.items first shares.sound is in
    some_found places Has Lacks first.place first.found at
    (all_before places Has Lacks c.in_ok-shares.shares.items first shares.done at is)

pub returns-clause-none : goal.returns-clause-none
returns-clause-none g c =
    let search = c.args.search.now in
    let places = g.S.Search.places search in let Has = g.S.Search.has search in let Lacks = g.S.Search.lacks search in
    let first = c.earliest.result in let shares = c.in_ok-shares.ensures in
    let is = rw c.places.ensures at c.earliest.ensures in
    let at = earliest_at places Has Lacks c.in_ok-shares.shares.items first shares.sound is in
    none_found places Has Lacks first.place first.found at
    (all_before places Has Lacks c.in_ok-shares.shares.items first shares.done at is)
