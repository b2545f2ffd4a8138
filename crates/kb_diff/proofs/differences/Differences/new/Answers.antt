use Rattle.std.proofs.Common.{◌≡◌, ◌<◌, ◌≤◌, All, ℕ, List, [], length, slice_get, Option, sym, ap, subst, arith}
use Rattle.std.proofs.lemmas.List.Elements.{All-cons, All-nil}
use Rattle.kb_word.specs.Words.{Pair, OneOf}
use Rattle.kb_word.specs.Names.{AreApart}
use Rattle.kb_word.specs.Relations.{IsOver}
use Rattle.kb_word.specs.Rewriting.{IsIrreducible}
use Rattle.kb_diff.specs.Groups.{EachInverts, AreRulesOver}
use Rattle.kb_diff.proofs.GroupLemmas.{empty_is_irreducible}
use Rattle.kb_diff.proofs.Inserting.{apart_alone}
use Rattle.kb_diff.proofs.OverGenerators.{invert_within}
use Rattle.kb_diff.proofs.differences.Differences.new.Goals as goal

pub invariant_of-result : goal.invariant_of-result
invariant_of-result g c =
    let now = c.args.presentation.now in
    let listed = c.args.rules.now in
    let copy = c.in_ok-presentation.presentation in
    let same = c.in_ok-presentation.ensures in
    let rules = c.in_ok-reducer.ensures.rules in
    let words = c.in_ok-words.ensures in
    let N : ℕ → Type 0 = λ n. EachInverts n now.inv in
    let I : List (Option ℕ) → Type 0 = λ inverses. EachInverts copy.n inverses in
    let M : ℕ → Type 0 = λ n. AreRulesOver n listed.rules in
    let R : List Pair → Type 0 = λ rs. AreRulesOver copy.n rs in
    let E : List Pair → Type 0 = λ rs. IsIrreducible (OneOf rs) [] in
    let A : List (List ℕ) → Type 0 = λ ws. AreApart ws in
    let kept_rules = g.R.Reducer.rules c.in_ok-reducer.reducer in
    let left : Pair → Type 0 = OneOf kept_rules in
    let empty : IsIrreducible left [] = subst E (sym rules) (empty_is_irreducible listed.order listed.rules c.as_slice-rules.ensures.decreasing) in
    let O : List (List ℕ) → Type 0 = λ ws. All (λ (w : List ℕ). IsOver copy.n w) ws in
    let W : List (List ℕ) → Type 0 = λ ws. All (λ (w : List ℕ). IsIrreducible left w) ws in
    let count : length c.in_ok-words.words.keys ≡ 1 = ap length words in record {
      within_letters = invert_within copy.n copy.order copy.names copy.inv copy.eqs copy.is_presentation;
      inverses = subst I (sym same.inv) (subst N (sym same.n) c.requires.group);
      letters = subst R (sym rules) (subst M (sym same.n) c.requires.letters);
      empty = empty;
      first = ap (λ (ws : List (List ℕ)). slice_get ws 0) words;
      apart = subst A (sym words) apart_alone;
      within = omega (arith, count, c.requires.most);
      limit = c.ranges.max_diffs.fits;
      over = subst O (sym words) (All-cons (λ (w : List ℕ). IsOver copy.n w) [] [] (All-nil (λ x. (0 < x) × (x ≤ copy.n))) (All-nil (λ (w : List ℕ). IsOver copy.n w)));
      irreducible = subst W (sym words) (All-cons (λ (w : List ℕ). IsIrreducible left w) [] [] empty (All-nil (λ (w : List ℕ). IsIrreducible left w)));
    }
