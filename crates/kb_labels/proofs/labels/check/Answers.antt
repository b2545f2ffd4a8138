use Rattle.std.proofs.Common.{ℕ, List, [], sym, ◌∙◌, subst, arith}
use Rattle.std.proofs.lemmas.List.{get_or_default}
use Rattle.kb_word.specs.Words.{Pair}
use Rattle.kb_word.specs.WordOrders.{Below}
use Rattle.kb_word.specs.Rewriting.{AreDecreasing}
use Rattle.kb_fsa.specs.Table.{Table}
use Rattle.kb_fsa.specs.Moves.{IsBackwardOf}
use Rattle.kb_diff.specs.Groups.{group_of}
use Rattle.kb_labels.specs.Labels.{IsAnswered}
use Rattle.kb_labels.specs.declared.labels.Labels.TheVariants.{Differ}
use Rattle.kb_labels.proofs.Answering.{agrees, differs, found_within}
use Rattle.kb_labels.proofs.Consequences.{agree_is_sound, agree_is_complete}
use Rattle.kb_labels.proofs.labels.check.Goals as goal

pub returns-in-None-clause-answer : goal.returns-in-None-clause-answer
returns-in-None-clause-answer g c =
    let presentation = c.args.presentation.now in
    let rules = g.R.Reducer.rules c.args.reducer.now in
    let multiplier = c.args.multiplier.now in
    let placed = c.in_ok-placed.placed in
    let moves = c.in_ok-moves.moves in
    let D : List Pair → Type 0 = λ rs. AreDecreasing (Below c.list.result.now.order) rs in
    let decreasing = subst D c.list.ensures.rules c.as_slice-rules.ensures.decreasing in
    let back = subst (λ (t : Table). IsBackwardOf t moves) c.table.ensures.table c.in_ok-moves.ensures in
    agrees presentation rules c.args.x multiplier placed.states.keys placed.origins.items placed.labels.items c.list.result.now.order decreasing
    c.requires.alphabet c.in_ok-placed.ensures.in_order c.in_ok-placed.ensures.one_each c.in_ok-placed.ensures.from_origins
    moves.edges.items moves.symbols.items back
    c.in_ok-first_apart.field-0 c.in-None.is c.in_ok-first_apart.ensures

pub returns-in-None-clause-sound : goal.returns-in-None-clause-sound
returns-in-None-clause-sound g c = λ label is equal_sides.
    let presentation = c.args.presentation.now in
    let rules = g.R.Reducer.rules c.args.reducer.now in
    let multiplier = c.args.multiplier.now in
    let placed = c.in_ok-placed.placed in
    let moves = c.in_ok-moves.moves in
    let D : List Pair → Type 0 = λ rs. AreDecreasing (Below c.list.result.now.order) rs in
    let decreasing = subst D c.list.ensures.rules c.as_slice-rules.ensures.decreasing in
    let back = subst (λ (t : Table). IsBackwardOf t moves) c.table.ensures.table c.in_ok-moves.ensures in
    let answered = agrees presentation rules c.args.x multiplier placed.states.keys placed.origins.items placed.labels.items c.list.result.now.order decreasing
    c.requires.alphabet c.in_ok-placed.ensures.in_order c.in_ok-placed.ensures.one_each c.in_ok-placed.ensures.from_origins
    moves.edges.items moves.symbols.items back
    c.in_ok-first_apart.field-0 c.in-None.is c.in_ok-first_apart.ensures in
    agree_is_sound presentation rules c.args.x multiplier c.requires.group presentation.is_presentation.mutual_inverses c.requires.alphabet
    c.list.result.now.order decreasing answered equal_sides label

pub index-state-requires : goal.index-state-requires
index-state-requires g c =
    let presentation = c.args.presentation.now in
    let rules = g.R.Reducer.rules c.args.reducer.now in
    let multiplier = c.args.multiplier.now in
    let placed = c.in_ok-placed.placed in
    let moves = c.in_ok-moves.moves in
    let D : List Pair → Type 0 = λ rs. AreDecreasing (Below c.list.result.now.order) rs in
    let decreasing = subst D c.list.ensures.rules c.as_slice-rules.ensures.decreasing in
    let back = subst (λ (t : Table). IsBackwardOf t moves) c.table.ensures.table c.in_ok-moves.ensures in
    let within = found_within presentation rules c.args.x multiplier placed.states.keys placed.origins.items placed.labels.items c.list.result.now.order decreasing
    c.requires.alphabet c.in_ok-placed.ensures.in_order c.in_ok-placed.ensures.one_each c.in_ok-placed.ensures.from_origins
    moves.edges.items moves.symbols.items back
    c.in_ok-first_apart.field-0 c.in-Some.apart c.in-Some.is c.in_ok-first_apart.ensures in
    within

pub index-requires : goal.index-requires
index-requires g c =
    let presentation = c.args.presentation.now in
    let rules = g.R.Reducer.rules c.args.reducer.now in
    let multiplier = c.args.multiplier.now in
    let placed = c.in_ok-placed.placed in
    let moves = c.in_ok-moves.moves in
    let D : List Pair → Type 0 = λ rs. AreDecreasing (Below c.list.result.now.order) rs in
    let decreasing = subst D c.list.ensures.rules c.as_slice-rules.ensures.decreasing in
    let back = subst (λ (t : Table). IsBackwardOf t moves) c.table.ensures.table c.in_ok-moves.ensures in
    let within = found_within presentation rules c.args.x multiplier placed.states.keys placed.origins.items placed.labels.items c.list.result.now.order decreasing
    c.requires.alphabet c.in_ok-placed.ensures.in_order c.in_ok-placed.ensures.one_each c.in_ok-placed.ensures.from_origins
    moves.edges.items moves.symbols.items back
    c.in_ok-first_apart.field-0 c.in-Some.apart c.in-Some.is c.in_ok-first_apart.ensures in
    omega (arith, within, c.in_ok-placed.ensures.one_each, placed.labels.ok.0)

pub returns-clause-answer : goal.returns-clause-answer
returns-clause-answer g c =
    let presentation = c.args.presentation.now in
    let rules = g.R.Reducer.rules c.args.reducer.now in
    let multiplier = c.args.multiplier.now in
    let placed = c.in_ok-placed.placed in
    let moves = c.in_ok-moves.moves in
    let D : List Pair → Type 0 = λ rs. AreDecreasing (Below c.list.result.now.order) rs in
    let decreasing = subst D c.list.ensures.rules c.as_slice-rules.ensures.decreasing in
    let back = subst (λ (t : Table). IsBackwardOf t moves) c.table.ensures.table c.in_ok-moves.ensures in
    let within = found_within presentation rules c.args.x multiplier placed.states.keys placed.origins.items placed.labels.items c.list.result.now.order decreasing
    c.requires.alphabet c.in_ok-placed.ensures.in_order c.in_ok-placed.ensures.one_each c.in_ok-placed.ensures.from_origins
    moves.edges.items moves.symbols.items back
    c.in_ok-first_apart.field-0 c.in-Some.apart c.in-Some.is c.in_ok-first_apart.ensures in
    let is = c.index.ensures ∙ get_or_default placed.labels.items c.in-Some.apart.place c.index.result.now []
    (omega (arith, within, c.in_ok-placed.ensures.one_each)) in
    let A : List ℕ → Type 0 = λ w.
    IsAnswered (group_of presentation rules) presentation c.args.x multiplier (Differ c.index-state.result.now w c.in-Some.apart.word) in
    subst A (sym (c.in_ok-label-in-Some.ensures ∙ is))
    (differs presentation rules c.args.x multiplier placed.states.keys placed.origins.items placed.labels.items c.list.result.now.order decreasing
    c.requires.alphabet c.in_ok-placed.ensures.in_order c.in_ok-placed.ensures.one_each c.in_ok-placed.ensures.from_origins
    moves.edges.items moves.symbols.items back
    c.in_ok-first_apart.field-0 c.in-Some.apart c.index-state.result.now c.in-Some.is c.index-state.ensures c.in_ok-first_apart.ensures)

pub returns-clause-complete : goal.returns-clause-complete
returns-clause-complete g c = λ label equal_sides one_normal products.
    let presentation = c.args.presentation.now in
    let rules = g.R.Reducer.rules c.args.reducer.now in
    let multiplier = c.args.multiplier.now in
    let placed = c.in_ok-placed.placed in
    let moves = c.in_ok-moves.moves in
    let D : List Pair → Type 0 = λ rs. AreDecreasing (Below c.list.result.now.order) rs in
    let decreasing = subst D c.list.ensures.rules c.as_slice-rules.ensures.decreasing in
    let back = subst (λ (t : Table). IsBackwardOf t moves) c.table.ensures.table c.in_ok-moves.ensures in
    let answered = returns-clause-answer g c in
    agree_is_complete presentation rules c.args.x multiplier c.requires.group presentation.is_presentation.mutual_inverses c.requires.alphabet
    c.list.result.now.order decreasing
    (Differ c.index-state.result.now c.in_ok-label-in-Some.label c.in-Some.apart.word) answered c.table.ensures.automaton equal_sides one_normal label products
