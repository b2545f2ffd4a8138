use Rattle.std.proofs.Common.{◌≡◌, ℕ, List, length, take, sym, ap, ◌∙◌, subst}
use Rattle.std.proofs.lemmas.List.Elements.{same_from_all_zip}
use Rattle.kb_trie.specs.declared.edge.Edge.{Edge}
use Rattle.kb_trie.specs.Edges.{IsTree, words_of}
use Rattle.kb_trie.specs.Children.{HasChildren}
use Rattle.kb_trie.specs.Ends.{HasEnds}
use Rattle.kb_trie.specs.Tries.{HasSteps}
use Rattle.kb_trie.proofs.ChildLists.{children_copied}
use Rattle.kb_trie.proofs.Ending.{ends_copied}
use Rattle.kb_trie.proofs.Numbers.{by}
use Rattle.kb_trie.proofs.automaton.Automaton.copy.Goals as goal

pub returns-clause-automaton : goal.returns-clause-automaton
returns-clause-automaton c =
    let is = c.requires in
    let old : List Edge = c.args.self.now.edges.keys in
    let words : List (List ℕ) = words_of c.args.self.now.edges.keys in
    let keys : c.in_ok-edges.edges.keys ≡ old =
    same_from_all_zip _ old c.in_ok-edges.edges.keys c.in_ok-edges.ensures.cases (λ x y same. same) in
    let S : List (List ℕ) → Type 0 = λ ws. HasSteps ws c.in_ok-steps.steps in
    let E : List (List ℕ) → Type 0 = λ ws. HasEnds ws c.in_ok-ends.ends in
    let C : List (List ℕ) → Type 0 = λ ws. HasChildren ws c.in_ok-children.children in
    record {
      states = subst IsTree (sym keys) is.states;
      steps = subst S (sym (ap words_of keys)) (c.in_ok-steps.ensures words is.steps);
      ends =
          subst E (sym (ap words_of keys))
          (ends_copied words c.args.self.now.ends c.in_ok-ends.ends c.in_ok-ends.ensures.numbers c.in_ok-ends.ensures.ends is.ends);
      children =
          subst C (sym (ap words_of keys))
          (children_copied words c.args.self.now.children c.in_ok-children.children c.in_ok-children.ensures.lasts
          c.in_ok-children.ensures.earlier is.children);
    }

pub returns-clause-states : goal.returns-clause-states
returns-clause-states c =
    let old : List Edge = c.args.self.now.edges.keys in
    let keys : c.in_ok-edges.edges.keys ≡ old =
    same_from_all_zip _ old c.in_ok-edges.edges.keys c.in_ok-edges.ensures.cases (λ x y same. same) in
    ap (λ (es : List Edge). by (words_of es) (take (length (words_of es)) c.in_ok-ends.ends.numbers.items)) keys
    ∙ ap (λ (ns : List ℕ). by (words_of c.args.self.now.edges.keys) (take (length (words_of c.args.self.now.edges.keys)) ns)) c.in_ok-ends.ensures.numbers
