use Rattle.std.proofs.Common.{◌≡◌, [], List, All, ap, length, sym, ◌∙◌, subst}
use Rattle.kb_share.specs.Versions.{VersionParts}
use Rattle.kb_threads.specs.Sweeps.{RowsAreJoined}
use Rattle.kb_threads.specs.declared.sweeping.Sifted.{Sifted}
use Rattle.kb_threads.proofs.NothingFound.{rows_joined}
use Rattle.kb_threads.proofs.sweeping.sweep.Goals as goal

pub returns : goal.returns
returns g c = λ all none.
    let version = c.args.version in
    let sieved = c.in_ok-sieve.sieve in
    let shares = c.in_ok-shares.shares.items in
    let numbers : length c.numbers.result.now ≡ length version.numbers = ap length c.numbers.ensures.numbers in
    let count : length c.numbers.result.now ≡ length version.rules = numbers ∙ c.numbers.ensures.one_each in
    let same : length sieved.rules ≡ length version.rules = ap (λ (v : VersionParts). length v.rules) c.in_ok-sieve.ensures in
    let nothing = subst (λ (l : List Sifted). All (λ share. share.found.items ≡ []) l) c.deref-2.ensures.value
    (c.nothing_found.ensures none) in
    subst (λ (v : VersionParts). RowsAreJoined v.rules) c.in_ok-sieve.ensures
    (rows_joined sieved.rules (length c.numbers.result.now) c.args.from shares (count ∙ sym same) all c.in_ok-shares.ensures.done
    nothing)
