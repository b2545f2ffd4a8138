use Rattle.std.proofs.Common.{◌≡◌, ℕ, ◌+◌, List, [], sym, ◌∙◌, subst, arith, rules}
use Rattle.std.proofs.lemmas.Bool.{true≢false}
use Rattle.kb_word.specs.Words.{Pair}
use Rattle.kb_word.specs.WordOrders.{Below}
use Rattle.kb_word.specs.Rewriting.{AreDecreasing}
use Rattle.kb_fsa.specs.Language.{Automaton}
use Rattle.kb_diff.specs.Groups.{group_of}
use Rattle.kb_structure.specs.Labels.{RelatesProducts}
use Rattle.kb_labels.specs.Labels.{IsAnswered, labelling_of}
use Rattle.kb_labels.specs.declared.labels.Labels.TheVariants.{Agree, Differ}
use Rattle.kb_certificates.proofs.Loops.{multiplier_at}
use Rattle.kb_leastpair.specs.LeastPair.{IsLeastPair}
use Rattle.kb_axioms.specs.Truth.{IsDifferentPair, IsFirstDifferent, IsFirstUnresolved}
use Rattle.kb_axioms.proofs.Different.{equal_sides, one_normal_form}
use Rattle.kb_axioms.proofs.Truths.{first_different, none_before, one_more, true_to_group}
use Rattle.kb_axioms.proofs.truth.check_truth.Goals as goal

pub loop-place-init : goal.loop-place-init
loop-place-init g c =
    let presentation = c.args.presentation.now in
    let multipliers = c.args.multipliers.now in
    let rules = g.R.Reducer.rules c.args.reducer.now in record {
      agree = none_before (λ x multiplier. IsAnswered (group_of presentation rules) presentation x multiplier Agree) multipliers;
      sound = λ equal. none_before (λ x multiplier. (label : ℕ → List ℕ) → RelatesProducts (labelling_of presentation x multiplier label)) multipliers;
    }

pub check-requires-clause-alphabet : goal.check-requires-clause-alphabet
check-requires-clause-alphabet g c =
    let multipliers = c.args.multipliers.now in
    let place : ℕ = c.loop-place.place in
    let multiplier = c.index-multipliers-place.result in
    c.requires.multipliers.pairs (place + 1) multiplier (multiplier_at multipliers place multiplier c.loop-place-test.true c.index-multipliers-place.is)

pub least_different-requires-clause-alphabet : goal.least_different-requires-clause-alphabet
least_different-requires-clause-alphabet g c =
    let multipliers = c.args.multipliers.now in
    let place : ℕ = c.loop-place.place in
    let multiplier = c.index-multipliers-place.result in
    c.requires.multipliers.pairs (place + 1) multiplier (multiplier_at multipliers place multiplier c.loop-place-test.true c.index-multipliers-place.is)

pub least_different-requires-clause-confluent : goal.least_different-requires-clause-confluent
least_different-requires-clause-confluent g c = c.requires.confluent c.if-confluent.true

pub least_different-requires-clause-there : goal.least_different-requires-clause-there
least_different-requires-clause-there g c products =
    let presentation = c.args.presentation.now in
    let rules_now = g.R.Reducer.rules c.args.reducer.now in
    let order = c.list.result.now.order in
    let D : List Pair → Type 0 = λ rs. AreDecreasing (Below order) rs in
    let decreasing = subst D c.list.ensures.rules c.as_slice-rules.ensures.decreasing in
    let are = c.requires.confluent c.if-confluent.true in
    let agree = c.in_ok-check.ensures.complete (λ state. []) (equal_sides presentation rules_now order decreasing are)
    (one_normal_form presentation rules_now order decreasing are) products in
    let no : ⊥ = absurd (cc (sym c.in-Differ.is ∙ agree)) in no

pub returns-then-confluent-clause-says : goal.returns-then-confluent-clause-says
returns-then-confluent-clause-says g c =
    let presentation = c.args.presentation.now in
    let multipliers = c.args.multipliers.now in
    let rules_now = g.R.Reducer.rules c.args.reducer.now in
    let order = c.list.result.now.order in
    let D : List Pair → Type 0 = λ rs. AreDecreasing (Below order) rs in
    let decreasing = subst D c.list.ensures.rules c.as_slice-rules.ensures.decreasing in
    let are = c.requires.confluent c.if-confluent.true in
    let place : ℕ = c.loop-place.place in
    let multiplier = c.index-multipliers-place.result in
    let at = multiplier_at multipliers place multiplier c.loop-place-test.true c.index-multipliers-place.is in
    let number : c.new-x.result ≡ place + 1 = c.new-x.ensures in
    let L : ℕ → Type 0 = λ x. IsLeastPair (IsDifferentPair presentation multiplier x) c.in_ok-u-in-Differ.u c.in_ok-u-in-Differ.v in
    let P : ℕ → Type 0 = λ x. IsFirstDifferent presentation multipliers x c.in_ok-u-in-Differ.u c.in_ok-u-in-Differ.v in (
      c.if-confluent.true,
      subst P (sym number) (λ acceptor same.
          first_different presentation multipliers c.requires.multipliers place
          (c.loop-place.invariant.sound (equal_sides presentation rules_now order decreasing are)) acceptor same multiplier at
          c.in_ok-u-in-Differ.u c.in_ok-u-in-Differ.v (subst L number c.in_ok-u-in-Differ.ensures)),
    )

pub returns-in-Differ-clause-says : goal.returns-in-Differ-clause-says
returns-in-Differ-clause-says g c =
    let presentation = c.args.presentation.now in
    let multipliers = c.args.multipliers.now in
    let rules = g.R.Reducer.rules c.args.reducer.now in
    let place : ℕ = c.loop-place.place in
    let multiplier = c.index-multipliers-place.result in
    let at = multiplier_at multipliers place multiplier c.loop-place-test.true c.index-multipliers-place.is in
    let number : c.new-x.result ≡ place + 1 = c.new-x.ensures in
    let answered = rw c.in-Differ.is at c.in_ok-check.ensures.answer in
    let P : ℕ → Type 0 = λ x. IsFirstUnresolved presentation rules multipliers x c.in-Differ.state c.in-Differ.label c.in-Differ.other in
    let A : ℕ → Type 0 = λ x. IsAnswered (group_of presentation rules) presentation x multiplier (Differ c.in-Differ.state c.in-Differ.label c.in-Differ.other) in (
      λ confluent. true≢false (sym confluent ∙ c.if-confluent.false),
      subst P (sym number) (record {
        multiplier = multiplier;
        is_multiplier = at;
        answered = subst A number answered;
        earlier = λ y before less is. c.loop-place.invariant.agree y before (omega (arith, less)) is;
      }),
    )

pub loop-place-preserved : goal.loop-place-preserved
loop-place-preserved g c =
    let presentation = c.args.presentation.now in
    let multipliers = c.args.multipliers.now in
    let rules_now = g.R.Reducer.rules c.args.reducer.now in
    let place : ℕ = c.loop-place.place in
    let multiplier = c.index-multipliers-place.result in
    let at = multiplier_at multipliers place multiplier c.loop-place-test.true c.index-multipliers-place.is in
    let number : c.new-x.result ≡ place + 1 = c.new-x.ensures in
    let A : ℕ → Automaton → Type 0 = λ x one. IsAnswered (group_of presentation rules_now) presentation x one Agree in
    let P : ℕ → Automaton → Type 0 = λ x one. (label : ℕ → List ℕ) → RelatesProducts (labelling_of presentation x one label) in
    let here = rw c.in-Agree.is at c.in_ok-check.ensures.answer in
    let A-at : ℕ → Type 0 = λ x. A x multiplier in
    let P-at : ℕ → Type 0 = λ x. P x multiplier in record {
      agree = one_more A multipliers place multiplier at c.loop-place.invariant.agree (subst A-at number here);
      sound = λ equal. one_more P multipliers place multiplier at (c.loop-place.invariant.sound equal)
          (subst P-at number (λ label. c.in_ok-check.ensures.sound label (search rules) equal));
    }

pub returns-clause-says : goal.returns-clause-says
returns-clause-says g c = λ x multiplier low is. c.loop-place.invariant.agree x multiplier (omega (arith, c.loop-place-test.false)) is

pub returns-clause-sound : goal.returns-clause-sound
returns-clause-sound g c ok equal acceptor same =
    true_to_group c.args.presentation.now c.args.multipliers.now c.requires.multipliers c.loop-place.place
    (c.loop-place.invariant.sound equal) acceptor same (omega (arith, c.loop-place-test.false))
