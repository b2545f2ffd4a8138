use Rattle.std.proofs.Common.{List, ℕ, length, take, ap, ◌∙◌, subst, sym}
use Rattle.kb_trie.specs.Edges.{IsTree, words_of}
use Rattle.kb_trie.specs.Children.{HasChildren}
use Rattle.kb_trie.specs.Ends.{HasEnds}
use Rattle.kb_trie.specs.Tries.{HasSteps}
use Rattle.kb_trie.proofs.Words.{tree_root, words_none}
use Rattle.kb_trie.proofs.automaton.Automaton.root.Goals as goal

pub returns-clause-words : goal.returns-clause-words
returns-clause-words c = ap words_of c.new.ensures.empty ∙ words_none

pub returns-clause-automaton : goal.returns-clause-automaton
returns-clause-automaton c =
    let S : List (List ℕ) → Type 0 = λ words. HasSteps words c.in_ok-steps.steps in
    let E : List (List ℕ) → Type 0 = λ words. HasEnds words c.in_ok-ends.ends in
    let C : List (List ℕ) → Type 0 = λ words. HasChildren words c.in_ok-children.children in
    record {
      states = subst IsTree (sym c.new.ensures.empty) tree_root;
      steps = subst S (sym (ap words_of c.new.ensures.empty ∙ words_none)) c.in_ok-steps.ensures;
      ends = subst E (sym (ap words_of c.new.ensures.empty ∙ words_none)) c.in_ok-ends.ensures.ends;
      children = subst C (sym (ap words_of c.new.ensures.empty ∙ words_none)) c.in_ok-children.ensures;
    }

pub returns-clause-numbers : goal.returns-clause-numbers
returns-clause-numbers c =
    ap (λ (words : List (List ℕ)). take (length words) c.in_ok-ends.ends.numbers.items) (ap words_of c.new.ensures.empty ∙ words_none)
    ∙ ap (λ (ns : List ℕ). take 1 ns) c.in_ok-ends.ensures.numbers
