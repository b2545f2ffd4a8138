use Rattle.std.proofs.Common.{◌≡◌, ◌↔◌, ◌+◌, ℕ, suc, false, Bool, List, ◌∷◌, length, refl, sym, ◌∙◌, subst}
use Rattle.std.proofs.lemmas.Bool.{false≢true}
use Rattle.kb_fsa.specs.Table.{Table, IsTable, IsLive}
use Rattle.kb_fsa.specs.Graphs.{IsMarked, IsReached}
use Rattle.kb_fsa.specs.Moves.{AreBackward}
use Rattle.kb_fsa.proofs.MoveLemmas.{live_is_reached}
use Rattle.kb_padding.specs.Cleaning.{turned, HaveSameEdges}
use Rattle.kb_padding.proofs.Cleanings.{unpadded_text, padded_where_accepted}
use Rattle.kb_padding.proofs.EdgeLemmas.{turned_same, reached_same, forward_within}
use Rattle.kb_padding.proofs.misplaced.checked_reach.Goals as goal

-- edges and moves as slices show them
same_shown : {edges shown backward listed : List (ℕ × ℕ)} → shown ≡ edges → backward ≡ listed → HaveSameEdges edges (turned backward) → HaveSameEdges shown (turned listed)
same_shown {edges} {shown} {backward} {listed} one two same =
    subst (λ (es : List (ℕ × ℕ)). HaveSameEdges es (turned listed)) (sym one) (subst (λ (bs : List (ℕ × ℕ)). HaveSameEdges edges (turned bs)) two same)

live_marks : (table : Table) (edges : List (ℕ × ℕ)) (symbols : List ℕ) → IsTable table → AreBackward table (suc (length table.rows)) 0 edges symbols
    → (forwards : List (ℕ × ℕ)) (live shown : List Bool) → shown ≡ live → HaveSameEdges forwards (turned edges)
    → ((state : ℕ) → IsMarked live state ↔ IsReached (turned forwards) (false ∷ table.accepting) state) → (state : ℕ) → IsMarked shown state ↔ IsLive table state
live_marks table edges symbols is backward forwards live shown are same reached state =
    let P : List Bool → Type 0 = λ marks. IsMarked marks state ↔ IsReached (turned forwards) (false ∷ table.accepting) state in
    let here = subst P (sym are) (reached state) in
    let there = reached_same (turned forwards) edges (false ∷ table.accepting) state (turned_same forwards edges same) in
    let is_live = live_is_reached table edges symbols is backward state in
    (λ marked. is_live.0 (there.0 (here.0 marked)), λ lives. here.1 (there.1 (is_live.1 lives)))

pub reach_of-requires-clause-edges : goal.reach_of-requires-clause-edges
reach_of-requires-clause-edges c = same_shown c.as_slice-2.ensures.value c.as_slice.ensures.value c.in_ok-edges.ensures

pub live_along-requires : goal.live_along-requires
live_along-requires c =
    let table = c.args.table.now in
    forward_within table c.in_ok-moves.moves.edges.items c.in_ok-moves.moves.symbols.items c.in_ok-moves.ensures c.as_slice-3.result.now (length table.rows + 1)
    (same_shown c.as_slice-3.ensures.value c.as_slice.ensures.value c.in_ok-edges.ensures) refl

pub returns-then-accepts_misplaced-clause-fault : goal.returns-then-accepts_misplaced-clause-fault
returns-then-accepts_misplaced-clause-fault c =
    let table = c.args.table.now in
    let edges = c.in_ok-moves.moves.edges.items in
    let symbols = c.in_ok-moves.moves.symbols.items in
    let reach = c.in_ok-reach.reach in
    let found = c.accepts_misplaced.ensures.0 c.if-accepts_misplaced.true in
    unpadded_text c.args.n table edges symbols c.rows.ensures.table c.in_ok-moves.ensures reach.marks.items reach.first.items reach.second.items
    c.as_slice-4.result.now c.in_ok-reach.ensures
    (live_marks table edges symbols c.rows.ensures.table c.in_ok-moves.ensures c.as_slice-3.result.now c.in_ok-live.live.items c.as_slice-4.result.now
    c.as_slice-4.ensures.value (same_shown c.as_slice-3.ensures.value c.as_slice.ensures.value c.in_ok-edges.ensures) c.in_ok-live.ensures) found.0 found.1

pub returns-clause-padded : goal.returns-clause-padded
returns-clause-padded c =
    let table = c.args.table.now in
    let edges = c.in_ok-moves.moves.edges.items in
    let symbols = c.in_ok-moves.moves.symbols.items in
    let reach = c.in_ok-reach.reach in
    padded_where_accepted c.args.n table edges symbols c.rows.ensures.table c.in_ok-moves.ensures reach.marks.items reach.first.items reach.second.items
    c.as_slice-4.result.now c.in_ok-reach.ensures
    (live_marks table edges symbols c.rows.ensures.table c.in_ok-moves.ensures c.as_slice-3.result.now c.in_ok-live.live.items c.as_slice-4.result.now
    c.as_slice-4.ensures.value (same_shown c.as_slice-3.ensures.value c.as_slice.ensures.value c.in_ok-edges.ensures) c.in_ok-live.ensures) c.requires.symbols
    (λ place accepted. false≢true (sym c.if-accepts_misplaced.false ∙ c.accepts_misplaced.ensures.1 (place, accepted)))
