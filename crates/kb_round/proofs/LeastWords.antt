-- By the differences of all rules exactly the least words are accepted.
use Rattle.std.proofs.Common.{◌≡◌, ℕ, List, [], ◌++◌, length, refl, sym, subst}
use Rattle.std.proofs.lemmas.List.{append-nil}
use Rattle.kb_word.specs.Words.{Pair, OneOf}
use Rattle.kb_word.specs.WordOrders.{Below}
use Rattle.kb_word.specs.WordOrderLaws.{word_orders}
use Rattle.kb_word.specs.Relations.{IsOver}
use Rattle.kb_word.specs.Rewriting.{IsIrreducible}
use Rattle.kb_word.specs.declared.presentation.Presentation.{Presentation}
use Rattle.kb_word.proofs.PathLemmas.{congruent_between}
use Rattle.kb_diff.specs.Groups.{group_of}
use Rattle.kb_diff.specs.Differences.{HaveDifferences}
use Rattle.kb_diff.specs.Languages.{DifferenceAcceptor}
use Rattle.kb_diff.proofs.GroupLemmas.{empty_is_irreducible}
use Rattle.kb_structure.proofs.Letters.{over_front, over_rest}
use Rattle.kb_round.proofs.Elements.{AreSame, IsCompleteGroup, least_of_irreducible, same_over}
use Rattle.kb_round.proofs.Leading.{leads_differs}
use Rattle.kb_round.proofs.KeptDifferences.{kept_of_differences, leads_where_kept}

-- a factor of a word over the generators is over them
factor_over : (n : ℕ) (w before middle after : List ℕ) → w ≡ before ++ middle ++ after → IsOver n w → IsOver n middle
factor_over n w before middle after whole over =
    let P : List ℕ → Type 0 = λ z. IsOver n z in
    over_rest n before middle (over_front n (before ++ middle) after (subst P whole over))

module _ (presentation : Presentation) (rules : List Pair) (is : IsCompleteGroup presentation rules) (words : List (List ℕ)) where
  -- an irreducible word is accepted: a lesser word of the same element in place of a factor would make it lesser
  pub irreducible_accepted : (w : List ℕ) → IsOver presentation.n w → IsIrreducible (OneOf rules) w
      → DifferenceAcceptor (group_of presentation rules) words w
  irreducible_accepted w over irreducible = record {
    letters = over;
    not_greater = λ s factor shown.
        let order = word_orders presentation.order in
        let stands = factor.1 in
        let v : List ℕ = shown.v in
        let over_s = factor_over presentation.n w stands.before s stands.after stands.whole over in
        let P : List ℕ → Type 0 = λ z. AreSame presentation z v in
        let same : AreSame presentation s v =
        subst P (append-nil s) (leads_differs presentation rules is words s v [] [] over_s shown.letters shown.leads) in
        let Q : List ℕ → Type 0 = λ z. AreSame presentation z (stands.before ++ v ++ stands.after) in
        let R : List ℕ → Type 0 = λ z. Below presentation.order (stands.before ++ v ++ stands.after) z in
        let least = least_of_irreducible presentation rules is w irreducible in
        least.least (stands.before ++ v ++ stands.after)
        (subst Q (sym stands.whole) (congruent_between stands.before stands.after same))
        (subst R (sym stands.whole) (order.kept stands.before stands.after v s shown.less));
  }

  module _ (kept : (rule : Pair) → OneOf rules rule → HaveDifferences (group_of presentation rules) words rule.0 rule.1) where
    -- a word that is accepted is irreducible: the differences of a rule show that its left side is greater than its
    -- right side
    pub accepted_irreducible : (w : List ℕ) → DifferenceAcceptor (group_of presentation rules) words w → IsIrreducible (OneOf rules) w
    accepted_irreducible w accepted before rule after one whole =
        let same = is.complete.same.covers rule one in
        let left = factor_over presentation.n w before rule.0 after whole accepted.letters in
        let right = same_over presentation rules is rule.0 rule.1 same left in
        let empty = empty_is_irreducible presentation.order rules is.complete.decreasing in
        let P : List ℕ → Type 0 = λ z. AreSame presentation z rule.1 in
        accepted.not_greater rule.0 (length before, record { before = before; after = after; whole = whole; at = refl })
        (record {
          v = rule.1;
          letters = right;
          less = is.complete.decreasing rule one;
          leads = leads_where_kept presentation rules is words rule.0 rule.1 [] left right empty (subst P (sym (append-nil rule.0)) same)
              (kept_of_differences presentation rules is words rule.0 rule.1 left (kept rule one));
        })
