-- Rules are confluent where irreducible words that are congruent are equal.
use Rattle.std.proofs.Common.{◌≡◌, ℕ, List, sym, subst}
use Rattle.kb_word.specs.Words.{Pair, OneOf}
use Rattle.kb_word.specs.Order.{IsReductionOrder}
use Rattle.kb_word.specs.Congruence.{Congruent, Replaces}
use Rattle.kb_word.specs.Rewriting.{AreDecreasing, IsIrreducible, NormalForm}
use Rattle.kb_word.specs.Overlap.{OverlapOf, IsResolved, IsConfluent, critical_pair}
use Rattle.kb_word.proofs.PathLemmas.{Replaces-implied, congruent_by_replacement, congruent_symmetric, congruent_transitive}
use Rattle.kb_rules.proofs.Exists.{normal_form_exists}
use Rattle.kb_rules.proofs.Reducts.{normal_form_congruent}
use Rattle.kb_rules.proofs.Superposed.{replaced-by-first, replaced-by-second}

-- congruent irreducible words are equal
abbrev pub OneIrreducible : List Pair → Type 0
OneIrreducible rules = (u v : List ℕ) → Congruent (OneOf rules) u v → IsIrreducible (OneOf rules) u → IsIrreducible (OneOf rules) v
    → u ≡ v

-- the rule at an index is one of the rules
replaced_by : (rules : List Pair) {rule : Pair} {u v : List ℕ} → OneOf rules rule → Replaces (λ pair. pair ≡ rule) u v
    → Congruent (OneOf rules) u v
replaced_by rules one replaced =
    congruent_by_replacement (Replaces-implied (λ pair e. let P : Pair → Type 0 = λ p. OneOf rules p in subst P (sym e) one) replaced)

-- the words of a critical pair are congruent
critical_congruent : (rules : List Pair) {i j place : ℕ} {first second : Pair} → OverlapOf rules i j place first second
    → Congruent (OneOf rules) (critical_pair first second place).0 (critical_pair first second place).1
critical_congruent rules {i = i} {j = j} {place = place} {first = first} {second = second} overlap =
    congruent_transitive
    (congruent_symmetric (replaced_by rules (i, overlap.is_first) (replaced-by-first first second place overlap.overlaps)))
    (replaced_by rules (j, overlap.is_second) (replaced-by-second first second place overlap.overlaps))

-- words that have equal normal forms
resolved : {rules : List Pair} {pair : Pair} {m n : List ℕ} → NormalForm rules pair.0 m → NormalForm rules pair.1 n → m ≡ n
    → IsResolved rules pair
resolved {rules = rules} {pair = pair} {m = m} left right same =
    let P : List ℕ → Type 0 = λ w. NormalForm rules pair.1 w in
    record { joint = m; left = left; right = subst P (sym same) right }

pub confluent_from_one : {below : List ℕ → List ℕ → Type 0} → IsReductionOrder below → (rules : List Pair)
    → AreDecreasing below rules → OneIrreducible rules → IsConfluent rules
confluent_from_one order rules decreasing one i j place first second overlap =
    let pair = critical_pair first second place in
    let left = normal_form_exists order rules decreasing pair.0 in
    let right = normal_form_exists order rules decreasing pair.1 in
    let congruent = congruent_transitive (congruent_symmetric (normal_form_congruent left.1))
    (congruent_transitive (critical_congruent rules overlap) (normal_form_congruent right.1)) in
    resolved left.1 right.1 (one left.0 right.0 congruent left.1.irreducible right.1.irreducible)
