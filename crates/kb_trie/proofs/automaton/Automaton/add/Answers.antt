use Rattle.std.proofs.Common.{◌≡◌, ℕ, List, ◌∷◌, [], ◌++◌, Bool, if◌then◌else◌, length, sym, ap, ◌∙◌, subst, arith, take, rules}
use Rattle.std.proofs.lemmas.List.{length_push}
use Rattle.kb_trie.specs.declared.edge.Edge.{Edge}
use Rattle.kb_trie.specs.Edges.{IsTree, words_of}
use Rattle.kb_trie.specs.Ends.{HasEnds}
use Rattle.kb_trie.specs.Tries.{HasSteps}
use Rattle.kb_trie.proofs.ChildLists.{children_added}
use Rattle.kb_trie.proofs.Ending.{ends_added}
use Rattle.kb_trie.proofs.Numbers.{by, numbers_added, on_err_any, take_same}
use Rattle.kb_trie.proofs.Edges.{no_edge_is}
use Rattle.kb_trie.proofs.Words.{tree_grow, words_more}
use Rattle.kb_trie.proofs.automaton.Automaton.add.Goals as goal

pub connect-requires-clause-walked : goal.connect-requires-clause-walked
connect-requires-clause-walked c =
    let is = c.requires.automaton in (
      words_of c.args.self.now.edges.keys,
      is.states.are,
      c.make_room.ensures.steps _ is.steps,
      c.step-after.ensures,
      c.requires.state,
      c.in_ok-find_children.ensures,
    )

pub returns-clause-automaton : goal.returns-clause-automaton
returns-clause-automaton c =
    let is = c.requires.automaton in
    let old : List Edge = c.args.self.now.edges.keys in
    let words : List (List ℕ) = words_of c.args.self.now.edges.keys in
    let edge : Edge = record { parent = c.args.state; letter = c.args.letter } in
    let keys : c.insert.new.self.keys ≡ old ++ edge ∷ [] =
    c.in_ok-insert.ensures.keys ∙ ap (λ (b : Bool). if b then old else old ++ edge ∷ []) (no_edge_is old words is.states.spell edge c.requires.none) in
    let has : HasSteps words c.make_room.new.self = c.make_room.ensures.steps words is.steps in
    let S : List (List ℕ) → Type 0 = λ ws. HasSteps ws c.connect.new.self in
    record {
      states =
          subst IsTree (sym keys)
          (tree_grow old edge is.states c.requires.state c.requires.none (omega (arith, c.in_ok-make_room.ensures.room.few, has.count)));
      steps =
          subst S (sym (ap words_of keys ∙ words_more old edge))
          (c.connect.ensures words is.states.are has c.requires.none c.requires.state c.step-after.ensures c.in_ok-find_children.ensures);
      ends =
          ends_added words (words_of c.insert.new.self.keys) c.args.state c.args.letter c.step-after.result c.make_room.new.self.tree.count
          c.make_room-2.new.self c.add.new.self (ap words_of keys ∙ words_more old edge) has.count (omega (arith, c.in_ok-make_room-2.ensures.room))
          (omega (arith, c.in_ok-make_room-2.ensures.end_room)) c.requires.none c.step-after.ensures (c.make_room-2.ensures.ends words is.ends) c.add.ensures.numbers
          c.add.ensures.ends;
      children =
          children_added words (words_of c.insert.new.self.keys) is.states.are c.args.state c.args.letter c.make_room.new.self.tree.count
          c.make_room-3.new.self c.add-2.new.self (ap words_of keys ∙ words_more old edge) has.count c.requires.state c.requires.none
          (c.make_room-3.ensures.children words is.children) (omega (arith, c.in_ok-make_room-3.ensures.last_room))
          (omega (arith, c.in_ok-make_room-3.ensures.earlier_room)) c.add-2.ensures.lasts c.add-2.ensures.earlier;
    }

pub returns-clause-words : goal.returns-clause-words
returns-clause-words c =
    let old : List Edge = c.args.self.now.edges.keys in
    let edge : Edge = record { parent = c.args.state; letter = c.args.letter } in
    let keys : c.insert.new.self.keys ≡ old ++ edge ∷ [] =
    c.in_ok-insert.ensures.keys
    ∙ ap (λ (b : Bool). if b then old else old ++ edge ∷ []) (no_edge_is old (words_of old) c.requires.automaton.states.spell edge c.requires.none) in
    ap words_of keys ∙ words_more old edge

pub returns-clause-state : goal.returns-clause-state
returns-clause-state c =
    let old : List Edge = c.args.self.now.edges.keys in
    let edge : Edge = record { parent = c.args.state; letter = c.args.letter } in
    let keys : c.insert.new.self.keys ≡ old ++ edge ∷ [] =
    c.in_ok-insert.ensures.keys
    ∙ ap (λ (b : Bool). if b then old else old ++ edge ∷ []) (no_edge_is old (words_of old) c.requires.automaton.states.spell edge c.requires.none) in
    c.len.ensures.len ∙ ap length keys ∙ length_push old edge ∙ sym c.requires.automaton.states.spell.count

pub returns-clause-numbers : goal.returns-clause-numbers
returns-clause-numbers c =
    let is = c.requires.automaton in
    let old : List Edge = c.args.self.now.edges.keys in
    let words : List (List ℕ) = words_of c.args.self.now.edges.keys in
    let edge : Edge = record { parent = c.args.state; letter = c.args.letter } in
    let keys : c.insert.new.self.keys ≡ old ++ edge ∷ [] =
    c.in_ok-insert.ensures.keys ∙ ap (λ (b : Bool). if b then old else old ++ edge ∷ []) (no_edge_is old words is.states.spell edge c.requires.none) in
    let has : HasSteps words c.make_room.new.self = c.make_room.ensures.steps words is.steps in
    let there : HasEnds words c.make_room-2.new.self = c.make_room-2.ensures.ends words is.ends in
    numbers_added words (words_of c.insert.new.self.keys) c.args.state c.args.letter c.make_room.new.self.tree.count c.args.self.now.ends.numbers.items
    c.make_room-2.new.self.numbers.items c.add.new.self.numbers.items (ap words_of keys ∙ words_more old edge) has.count
    (omega (arith, c.in_ok-make_room-2.ensures.room)) is.ends.number_room there.number_room c.make_room-2.ensures.numbers c.add.ensures.numbers

pub returns-in_err-make_room-2-clause-err : goal.returns-in_err-make_room-2-clause-err
returns-in_err-make_room-2-clause-err c =
    let is = c.requires.automaton in
    let words : List (List ℕ) = words_of c.args.self.now.edges.keys in
    let there : HasEnds words c.make_room-2.new.self = c.make_room-2.ensures.ends words is.ends in
    let kept : take (length words) c.make_room-2.new.self.numbers.items ≡ take (length words) c.args.self.now.ends.numbers.items =
    take_same (length words) c.make_room-2.new.self.numbers.items c.args.self.now.ends.numbers.items there.number_room is.ends.number_room
    c.make_room-2.ensures.numbers in
    on_err_any _ (ap (λ (ns : List ℕ). by (words_of c.args.self.now.edges.keys) ns) kept)

pub returns-in_err-make_room-3-clause-err : goal.returns-in_err-make_room-3-clause-err
returns-in_err-make_room-3-clause-err c =
    let is = c.requires.automaton in
    let words : List (List ℕ) = words_of c.args.self.now.edges.keys in
    let there : HasEnds words c.make_room-2.new.self = c.make_room-2.ensures.ends words is.ends in
    let kept : take (length words) c.make_room-2.new.self.numbers.items ≡ take (length words) c.args.self.now.ends.numbers.items =
    take_same (length words) c.make_room-2.new.self.numbers.items c.args.self.now.ends.numbers.items there.number_room is.ends.number_room
    c.make_room-2.ensures.numbers in
    on_err_any _ (ap (λ (ns : List ℕ). by (words_of c.args.self.now.edges.keys) ns) kept)

pub returns-in_err-find_children-clause-err : goal.returns-in_err-find_children-clause-err
returns-in_err-find_children-clause-err c =
    let is = c.requires.automaton in
    let words : List (List ℕ) = words_of c.args.self.now.edges.keys in
    let there : HasEnds words c.make_room-2.new.self = c.make_room-2.ensures.ends words is.ends in
    let kept : take (length words) c.make_room-2.new.self.numbers.items ≡ take (length words) c.args.self.now.ends.numbers.items =
    take_same (length words) c.make_room-2.new.self.numbers.items c.args.self.now.ends.numbers.items there.number_room is.ends.number_room
    c.make_room-2.ensures.numbers in
    on_err_any _ (ap (λ (ns : List ℕ). by (words_of c.args.self.now.edges.keys) ns) kept)

pub returns-in_err-insert-clause-err : goal.returns-in_err-insert-clause-err
returns-in_err-insert-clause-err c =
    let is = c.requires.automaton in
    let words : List (List ℕ) = words_of c.args.self.now.edges.keys in
    let there : HasEnds words c.make_room-2.new.self = c.make_room-2.ensures.ends words is.ends in
    let same : words_of c.insert.new.self.keys ≡ words_of c.args.self.now.edges.keys = search rules in
    let kept : take (length words) c.make_room-2.new.self.numbers.items ≡ take (length words) c.args.self.now.ends.numbers.items =
    take_same (length words) c.make_room-2.new.self.numbers.items c.args.self.now.ends.numbers.items there.number_room is.ends.number_room
    c.make_room-2.ensures.numbers in
    on_err_any _
    (ap (λ (ws : List (List ℕ)). by ws (take (length ws) c.make_room-2.new.self.numbers.items)) same
    ∙ ap (λ (ns : List ℕ). by (words_of c.args.self.now.edges.keys) ns) kept)
