use Rattle.std.proofs.Common.{ℕ, List, length, get_or, arith, length-set}
use Rattle.std.proofs.lemmas.List.{get_or-take}
use Rattle.kb_trie.specs.Edges.{words_of}
use Rattle.kb_trie.proofs.Ending.{end_renumbered}
use Rattle.kb_trie.proofs.Numbers.{take_set}
use Rattle.kb_trie.proofs.automaton.Automaton.renumber.Goals as goal

pub returns-clause-automaton : goal.returns-clause-automaton
returns-clause-automaton c =
    let is = c.requires.automaton in
    let words : List (List ℕ) = words_of c.args.self.now.edges.keys in
    let numbers : List ℕ = c.args.self.now.ends.numbers.items in
    let ends : List ℕ = c.args.self.now.ends.ends.items in
    record {
      states = is.states;
      steps = is.steps;
      children = is.children;
      ends = record {
        number_room = omega (arith, is.ends.number_room, length-set numbers c.args.state c.args.number);
        end_room = is.ends.end_room;
        each = λ state within.
            end_renumbered words numbers c.args.state c.args.number state (get_or ends state 0)
            (omega (arith, is.ends.number_room, c.requires.state))
            (omega (arith, c.requires.old, get_or-take (length words) numbers c.args.state 0 c.requires.state)) c.requires.some
            (is.ends.each state within);
      };
    }

pub returns-clause-numbers : goal.returns-clause-numbers
returns-clause-numbers c =
    take_set (length (words_of c.args.self.now.edges.keys)) c.args.self.now.ends.numbers.items c.args.state c.args.number c.requires.state
