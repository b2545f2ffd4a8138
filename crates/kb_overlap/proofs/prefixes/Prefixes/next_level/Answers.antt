use Rattle.std.proofs.Common.{ℕ, ◌+◌, List, [], drop, sym, subst, arith}
use Rattle.kb_word.specs.Words.{Pair}
use Rattle.kb_trie.specs.States.{word}
use Rattle.kb_index.specs.Lefts.{left_at}
use Rattle.kb_overlap.specs.declared.left_sides.Overlap.{Overlap}
use Rattle.kb_overlap.specs.Prefixes.{GoesOn}
use Rattle.kb_overlap.specs.Ways.{EndsRead, Gains}
use Rattle.kb_overlap.proofs.Gaining.{Over, over_none, over_more}
use Rattle.kb_overlap.proofs.Reached.{reached_level}
use Rattle.kb_overlap.proofs.Sweeping.{level_state, met_level, over_all}
use Rattle.kb_overlap.proofs.prefixes.Prefixes.next_level.Goals as goal

pub loop-state-init : goal.loop-state-init
loop-state-init c =
    let prefixes = c.args.self.now in
    let rules : List Pair = prefixes.rules.now in
    let words : List (List ℕ) = prefixes.automaton.now.words in
    let Next : ℕ → ℕ → Type 0 = λ state. GoesOn rules words state (c.args.count + 1) in
    let Met : ℕ → Overlap → Type 0 = λ state. EndsRead rules c.args.index (word words state) c.args.read c.args.count in
    let P : List ℕ → Type 0 = λ xs. Gains (Over Next []) [] xs in
    record {
      next = subst P (sym c.new-next.ensures.items) (over_none Next []);
      found = over_none Met c.args.found.now.items;
    }

pub loop-state-preserved : goal.loop-state-preserved
loop-state-preserved c =
    let prefixes = c.args.self.now in
    let rules : List Pair = prefixes.rules.now in
    let words : List (List ℕ) = prefixes.automaton.now.words in
    let level : List ℕ = c.args.level.now in
    let i : ℕ = c.loop-state.state-index in
    let Next : ℕ → ℕ → Type 0 = λ state. GoesOn rules words state (c.args.count + 1) in
    let Met : ℕ → Overlap → Type 0 = λ state. EndsRead rules c.args.index (word words state) c.args.read c.args.count in
    record {
      next =
          over_more Next level i [] c.loop-state.next.items c.go_on.new.next.items (omega arith) c.loop-state.invariant.next
          c.in_ok-go_on.ensures;
      found =
          over_more Met level i c.args.found.now.items c.loop-state.found.items c.add_endings.new.found.items (omega arith)
          c.loop-state.invariant.found c.in_ok-add_endings.ensures;
    }

pub returns-clause-next : goal.returns-clause-next
returns-clause-next c =
    let prefixes = c.args.self.now in
    let rules : List Pair = prefixes.rules.now in
    let words : List (List ℕ) = prefixes.automaton.now.words in
    let level : List ℕ = c.args.level.now in
    let Next : ℕ → ℕ → Type 0 = λ state. GoesOn rules words state (c.args.count + 1) in
    reached_level c.requires.prefixes.states (drop 1 (left_at rules c.args.index)) c.args.count level c.loop-state.next.items c.requires.level
    (over_all Next level c.loop-state.state-index [] c.loop-state.next.items (omega arith) c.loop-state.invariant.next)

pub returns-clause-found : goal.returns-clause-found
returns-clause-found c =
    let prefixes = c.args.self.now in
    let rules : List Pair = prefixes.rules.now in
    let words : List (List ℕ) = prefixes.automaton.now.words in
    let level : List ℕ = c.args.level.now in
    let Met : ℕ → Overlap → Type 0 = λ state. EndsRead rules c.args.index (word words state) c.args.read c.args.count in
    met_level rules words c.args.index c.args.count c.args.read level c.args.found.now.items c.loop-state.found.items c.requires.read
    c.requires.level
    (over_all Met level c.loop-state.state-index c.args.found.now.items c.loop-state.found.items (omega arith) c.loop-state.invariant.found)

pub add_endings-requires-clause-state : goal.add_endings-requires-clause-state
add_endings-requires-clause-state c =
    (level_state c.requires.prefixes.states c.args.index c.args.count c.args.read c.args.level.now c.loop-state.state-index
    (omega (arith, c.loop-state-test.true)) c.requires.read c.requires.level).within

pub add_endings-requires-clause-read : goal.add_endings-requires-clause-read
add_endings-requires-clause-read c =
    (level_state c.requires.prefixes.states c.args.index c.args.count c.args.read c.args.level.now c.loop-state.state-index
    (omega (arith, c.loop-state-test.true)) c.requires.read c.requires.level).upto

pub go_on-requires-clause-state : goal.go_on-requires-clause-state
go_on-requires-clause-state c =
    (level_state c.requires.prefixes.states c.args.index c.args.count c.args.read c.args.level.now c.loop-state.state-index
    (omega (arith, c.loop-state-test.true)) c.requires.read c.requires.level).within

pub overflow_add-count : goal.overflow_add-count
overflow_add-count c =
    let level =
    level_state c.requires.prefixes.states c.args.index c.args.count c.args.read c.args.level.now c.loop-state.state-index
    (omega (arith, c.loop-state-test.true)) c.requires.read c.requires.level in
    omega (arith, level.fewer, c.requires.prefixes.states.few)
