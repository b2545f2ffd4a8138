use Rattle.std.proofs.Common.{◌≡◌, ◌↔◌, ℕ, ◌+◌, true, false, Bool, List, length, set, replicate, sym, ap, ◌∙◌, subst, length-set}
use Rattle.std.proofs.lemmas.List.{length-replicate}
use Rattle.kb_fsa.specs.Graphs.{IsMarked, IsReached}
use Rattle.kb_padding.specs.Cleaning.{turned, HaveSameEdges, AreMet, ArePaddedTargets}
use Rattle.kb_padding.specs.declared.misplaced.Track.{Track}
use Rattle.kb_padding.specs.declared.misplaced.Track.TheVariants.{First, Second}
use Rattle.kb_padding.proofs.EdgeLemmas.{reached_same, forward_within}
use Rattle.kb_padding.proofs.PaddingReach.{texts_met, padded_met}
use Rattle.kb_padding.proofs.misplaced.reach_of.Goals as goal

-- the seeds, from what is written into them
start_is : {start begun : List Bool} {k initial place count : ℕ} → start ≡ set begun place true → begun ≡ replicate (k + 1) false → k ≡ count → place ≡ initial
    → start ≡ set (replicate (count + 1) false) initial true
start_is {initial} {place} {count} is blank long there =
    is ∙ ap (λ v. set v place true) (blank ∙ ap (λ n. replicate (n + 1) false) long) ∙ ap (λ i. set (replicate (count + 1) false) i true) there

start_size : (start : List Bool) (count initial : ℕ) → start ≡ set (replicate (count + 1) false) initial true → length start ≡ count + 1
start_size start count initial is =
    ap length is ∙ length-set (replicate (count + 1) false) initial true ∙ length-replicate (count + 1) false

-- what is reached along the same edges
along_same : (marks seeds : List Bool) (forwards others : List (ℕ × ℕ)) → HaveSameEdges forwards others
    → ((state : ℕ) → IsMarked marks state ↔ IsReached forwards seeds state) → (state : ℕ) → IsMarked marks state ↔ IsReached others seeds state
along_same marks seeds forwards others same reached state =
    let here = reached state in
    let there = reached_same forwards others seeds state same in
    (λ marked. there.0 (here.0 marked), λ found. here.1 (there.1 found))

targets_same : {track : Track} {n count : ℕ} {edges : List (ℕ × ℕ)} {symbols : List ℕ} {marks seen targets found : List Bool} → seen ≡ marks → found ≡ targets
    → ArePaddedTargets track n edges symbols seen count targets → ArePaddedTargets track n edges symbols marks count found
targets_same {track} {n} {count} {edges} {symbols} {marks} {targets} one two are =
    subst (λ (ts : List Bool). ArePaddedTargets track n edges symbols marks count ts) (sym two)
    (subst (λ (ms : List Bool). ArePaddedTargets track n edges symbols ms count targets) one are)

pub reached-requires-clause-edges : goal.reached-requires-clause-edges
reached-requires-clause-edges c =
    let start = start_is c.as_slice.ensures.value (c.in_ok-start.ensures.items_if_clones_equal (λ _ is. is)) (c.len.ensures ∙ ap length c.rows.ensures.rows) c.initial.ensures.initial in
    forward_within c.args.table.now c.args.moves.now.edges.items c.args.moves.now.symbols.items c.requires.moves
    c.args.edges.now (length c.as_slice.result.now) c.requires.edges
    (start_size c.as_slice.result.now (length c.args.table.now.rows) c.args.table.now.initial start)

pub reached-requires-2-clause-edges : goal.reached-requires-2-clause-edges
reached-requires-2-clause-edges c =
    let start = start_is c.as_slice.ensures.value (c.in_ok-start.ensures.items_if_clones_equal (λ _ is. is)) (c.len.ensures ∙ ap length c.rows.ensures.rows) c.initial.ensures.initial in
    let size = start_size c.as_slice.result.now (length c.args.table.now.rows) c.args.table.now.initial start in
    forward_within c.args.table.now c.args.moves.now.edges.items c.args.moves.now.symbols.items c.requires.moves
    c.args.edges.now (length c.as_slice-3.result.now) c.requires.edges
    (ap length c.as_slice-3.ensures.value ∙ c.in_ok-targets.ensures.one_each ∙ ap length c.as_slice-2.ensures.value ∙ c.in_ok-marks.ensures.one_each ∙ size)

pub reached-requires-3-clause-edges : goal.reached-requires-3-clause-edges
reached-requires-3-clause-edges c =
    let start = start_is c.as_slice.ensures.value (c.in_ok-start.ensures.items_if_clones_equal (λ _ is. is)) (c.len.ensures ∙ ap length c.rows.ensures.rows) c.initial.ensures.initial in
    let size = start_size c.as_slice.result.now (length c.args.table.now.rows) c.args.table.now.initial start in
    forward_within c.args.table.now c.args.moves.now.edges.items c.args.moves.now.symbols.items c.requires.moves
    c.args.edges.now (length c.as_slice-5.result.now) c.requires.edges
    (ap length c.as_slice-5.ensures.value ∙ c.in_ok-targets-2.ensures.one_each ∙ ap length c.as_slice-4.ensures.value ∙ c.in_ok-marks.ensures.one_each ∙ size)

pub returns : goal.returns
returns c =
    let table = c.args.table.now in
    let edges = c.args.moves.now.edges.items in
    let symbols = c.args.moves.now.symbols.items in
    let is = c.rows.ensures.table in
    let start = start_is c.as_slice.ensures.value (c.in_ok-start.ensures.items_if_clones_equal (λ _ is. is)) (c.len.ensures ∙ ap length c.rows.ensures.rows) c.initial.ensures.initial in
    let met : AreMet table (λ _. Unit {0}) c.in_ok-marks.marks.items =
    texts_met table edges symbols is c.requires.moves c.as_slice.result.now c.in_ok-marks.marks.items start c.in_ok-marks.ensures.one_each
    (along_same c.in_ok-marks.marks.items c.as_slice.result.now c.args.edges.now (turned edges) c.requires.edges c.in_ok-marks.ensures.reached) in
    record {
      by_texts = met;
      by_first = padded_met table edges symbols is c.requires.moves First c.args.n c.in_ok-marks.marks.items c.as_slice-3.result.now c.in_ok-first.first.items met
          (targets_same c.as_slice-2.ensures.value c.as_slice-3.ensures.value c.in_ok-targets.ensures) c.in_ok-first.ensures.one_each
          (along_same c.in_ok-first.first.items c.as_slice-3.result.now c.args.edges.now (turned edges) c.requires.edges c.in_ok-first.ensures.reached);
      by_second = padded_met table edges symbols is c.requires.moves Second c.args.n c.in_ok-marks.marks.items c.as_slice-5.result.now c.in_ok-second.second.items met
          (targets_same c.as_slice-4.ensures.value c.as_slice-5.ensures.value c.in_ok-targets-2.ensures) c.in_ok-second.ensures.one_each
          (along_same c.in_ok-second.second.items c.as_slice-5.result.now c.args.edges.now (turned edges) c.requires.edges c.in_ok-second.ensures.reached);
    }
