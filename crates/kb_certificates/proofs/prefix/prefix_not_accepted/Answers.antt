use Rattle.std.proofs.Common.{◌≡◌, true, IfSome, IfNone, List, ℕ, sym, ap, ◌∙◌}
use Rattle.std.proofs.lemmas.Option.{IfSome_then}
use Rattle.std.proofs.lemmas.Result.{IfOk-weaker}
use Rattle.kb_fsa.specs.Table.{is_accepting}
use Rattle.kb_fsa.specs.Language.{Automaton}
use Rattle.kb_leastpair.specs.LeastPair.{IsLeastWord}
use Rattle.kb_leastpair.proofs.Pairs.{none_kept}
use Rattle.kb_structure.specs.Certificates.{PrefixNotAccepted}
use Rattle.kb_structure.specs.StructureOf.{OfAutomata}
use Rattle.kb_certificates.specs.Cascade.{AcceptsLed, IsLeastLed}
use Rattle.kb_certificates.specs.Followers.{rejected_prefix}
use Rattle.kb_certificates.proofs.Prefixes.{least_prefix, no_prefix}
use Rattle.kb_certificates.proofs.prefix.prefix_not_accepted.Goals as goal

pub returns-clause-found : goal.returns-clause-found
returns-clause-found c =
    let acceptor = c.args.acceptor.now in
    let table = acceptor.table in
    let empty : is_accepting table table.initial ≡ true =
    ap (is_accepting table) (sym c.initial.ensures) ∙ sym c.is_accepting.ensures ∙ c.if-not-is_accepting.false in
    IfOk-weaker c.least_word.result (λ found. IfSome found (IsLeastLed table (rejected_prefix table)))
    (λ found. IfSome found (λ u. (multipliers : List Automaton) → OfAutomata acceptor multipliers (λ structure. IsLeastWord (PrefixNotAccepted structure) u)))
    (λ found least. IfSome_then found least (λ u led multipliers order relations.
    least_prefix order relations acceptor multipliers c.requires c.least_word.ensures.automaton empty u led))
    c.least_word.ensures.found

pub returns-clause-none : goal.returns-clause-none
returns-clause-none c =
    let acceptor = c.args.acceptor.now in
    let table = acceptor.table in
    let empty : is_accepting table table.initial ≡ true =
    ap (is_accepting table) (sym c.initial.ensures) ∙ sym c.is_accepting.ensures ∙ c.if-not-is_accepting.false in
    IfOk-weaker c.least_word.result (λ found. IfNone found ((word : List ℕ) → ¬ AcceptsLed table (rejected_prefix table) word))
    (λ found. IfNone found ((multipliers : List Automaton)
    → OfAutomata acceptor multipliers (λ structure. (u : List ℕ) → ¬ PrefixNotAccepted structure u)))
    (λ found none. none_kept found (λ never multipliers order relations.
    no_prefix order relations acceptor multipliers c.requires c.least_word.ensures.automaton empty never) none)
    c.least_word.ensures.none
