-- Splitters keep alike states together.
use Rattle.std.proofs.Common.{◌≡◌, ◌≢◌, ℕ, suc, ◌+◌, ◌<◌, List, [], ◌∷◌, ◌++◌, length, get_or, Contains, sym, ap, ◌∙◌, subst, inl, inr, arith}
use Rattle.std.proofs.lemmas.Bool.{cases_eq}
use Rattle.std.proofs.lemmas.List.{length_push, get_or_push, get_or_append_left}
use Rattle.std.proofs.lemmas.List.Elements.{All-contains, Contains-get_or}
use Rattle.kb_fsa.specs.Table.{Table, step, AcceptsFrom}
use Rattle.kb_fsa.specs.Canonical.{IsState}
use Rattle.kb_fsa.proofs.Lookups.{step_within}
use Rattle.kb_fsa.specs.Graphs.{source}
use Rattle.kb_fsa.specs.Moves.{AreBackward}
use Rattle.kb_labelled.specs.Labels.{AreAlike, label_from}
use Rattle.kb_labelled.proofs.Likeness.{accepts_alike}
use Rattle.kb_fsamin.specs.Rounds.{class_of, IsClassing}
use Rattle.kb_fsamin.specs.Partitions.{part_of, first_of, AreMembers, IsPartition, IsSplitBy}
use Rattle.kb_fsamin.specs.declared.partition.Partition.{Partition}
use Rattle.kb_fsamin.specs.Splitting.{AreEntering, AreGathered, IsLeaving, AreLeaving, IsSplitting, AreClassesOfBlocks}
use Rattle.kb_fsamin.proofs.SplitSteps.{first_there}
use Rattle.kb_fsa.proofs.MoveLemmas.{edge_from_step}
use Rattle.kb_fsamin.proofs.Classings.{rejects_none}

module _ (table : Table) (labels : List ℕ) (edges : List (ℕ × ℕ)) (symbols start blocks cords : List ℕ)
    (backward : AreBackward table (suc (length table.rows)) 0 edges symbols) (classing : IsClassing table labels start)
    (splitting : IsSplitting table labels edges symbols start blocks cords) where
  known : (move : ℕ) → move < length edges → source edges move < length start
  known move h = omega (arith, (backward.sound move h).from_state.within, classing.one_each)

  -- a block splits cords
  pub cords_split : (block : ℕ) (listed cords' : List ℕ) → length cords ≡ length edges → AreEntering edges blocks block listed → IsSplitBy listed cords cords'
      → IsSplitting table labels edges symbols start blocks cords'
  cords_split block listed cords' size entering split =
      let enters : (move other : ℕ) → move < length edges → other < length edges → AreAlike table labels (source edges move) (source edges other)
      → Contains listed move → Contains listed other =
      λ move other h i same found.
      let in_block = (All-contains (λ m. (m < length edges) × (part_of blocks (source edges m) ≡ block)) listed move entering.sound found).1 in
      entering.complete other i (sym (splitting.one_block (source edges move) (source edges other) (known move h) (known other i) same) ∙ in_block) in
      record {
        one_block = splitting.one_block;
        one_cord = λ move other h i symbol same.
            split.keeps move other (omega arith) (omega arith) (splitting.one_cord move other h i symbol same)
            (enters move other h i same, enters other move i h (λ text. sym (same text)));
        refines = splitting.refines;
      }

  -- what is left by a cord is left from all alike states
  leaves : (cord p q : ℕ) → AreAlike table labels p q → IsLeaving edges start cords cord p → IsLeaving edges start cords cord q
  leaves cord p q same leaving =
      let m = leaving.move in
      let symbol = get_or symbols m 0 in
      let t = source edges m in
      let u = step table q symbol in
      let back = backward.sound m leaving.within in
      let moved : step table p symbol ≡ t = ap (λ s. step table s symbol) (sym leaving.state_is) ∙ back.step in
      let alike : AreAlike table labels t u = λ text. sym (ap (λ s. label_from table labels s text) moved) ∙ same (symbol ∷ text) in
      let live = (classing.live t back.from_state).0 leaving.live in
      let accepts = accepts_alike table labels t u live.0 (alike live.0) live.1 in
      let some : u ≢ 0 = λ none. rejects_none table live.0 (subst (λ s. AcceptsFrom table s live.0) none accepts) in
      let edge = edge_from_step table edges symbols classing.is_table backward q symbol some in
      let to : source edges edge.0 ≡ u = ap (λ (e : ℕ × ℕ). e.0) edge.2 in
      let is_state : IsState table u = record { positive = omega arith; within = step_within table q symbol classing.is_table } in
      let class : class_of start t ≡ class_of start u = classing.respects t u back.from_state is_state alike in
      record {
        move = edge.0;
        within = edge.1;
        of_cord =
            sym (splitting.one_cord m edge.0 leaving.within edge.1 (sym edge.3) (subst (AreAlike table labels t) (sym to) alike)) ∙ leaving.of_cord;
        live = λ none. leaving.live (class ∙ ap (class_of start) (sym to) ∙ none);
        state_is = ap (λ (e : ℕ × ℕ). e.1) edge.2;
      }

  -- a cord splits blocks
  pub blocks_split : (cord : ℕ) (listed blocks' : List ℕ) → length blocks ≡ length start → AreLeaving edges start cords cord listed
      → IsSplitBy listed blocks blocks' → IsSplitting table labels edges symbols start blocks' cords
  blocks_split cord listed blocks' size leaving split = record {
    one_block = λ p q h i same.
        split.keeps p q (omega arith) (omega arith) (splitting.one_block p q h i same) (
          λ found. leaving.complete q (leaves cord p q same (leaving.sound p found)),
          λ found. leaving.complete p (leaves cord q p (λ text. sym (same text)) (leaving.sound q found)),
        );
    one_cord = splitting.one_cord;
    refines = λ p q h i same. splitting.refines p q h i (split.splits p q (omega arith) (omega arith) same);
  }

-- blocks serve as classes
pub classing_from_blocks : (table : Table) (labels : List ℕ) (edges : List (ℕ × ℕ)) (symbols start cords : List ℕ) (blocks : Partition) (classes : List ℕ)
    → IsPartition blocks → length blocks.of.items ≡ length start → IsClassing table labels start
    → IsSplitting table labels edges symbols start blocks.of.items cords → AreClassesOfBlocks start blocks (length start) classes → IsClassing table labels classes
classing_from_blocks table labels edges symbols start cords blocks classes is size classing splitting joined = record {
  is_table = classing.is_table;
  one_each = joined.one_each ∙ classing.one_each;
  none = joined.dead 0 (omega (arith, classing.one_each)) classing.none;
  live = λ state is_state. (
    λ some. (classing.live state is_state).0 (λ none. some (joined.dead state (low state is_state) none)),
    λ leads none.
        let live = (classing.live state is_state).1 leads in
        let number = sym (joined.live state (low state is_state) live) ∙ none in
        let there = first state is_state in
        live (sym (splitting.refines _ state there.0 (low state is_state) there.1) ∙ ap (class_of start) number ∙ classing.none),
  );
  labelled = λ p q one two some same.
      let live : class_of start p ≢ 0 = λ none. some (joined.dead p (low p one) none) in
      let lives : class_of start q ≢ 0 = λ none. some (same ∙ joined.dead q (low q two) none) in
      let number = sym (joined.live p (low p one) live) ∙ same ∙ joined.live q (low q two) lives in
      classing.labelled p q one two live
      (splitting.refines p q (low p one) (low q two)
      (sym (first p one).1 ∙ ap (part_of blocks.of.items) number ∙ (first q two).1));
  respects = λ p q one two same. elim (cases_eq (class_of start p) 0) [
    | inl none ↦
        joined.dead p (low p one) none ∙ sym (joined.dead q (low q two) (sym (classing.respects p q one two same) ∙ none))
    | inr some ↦
        joined.live p (low p one) some ∙ ap (first_of blocks) (splitting.one_block p q (low p one) (low q two) same)
        ∙ sym (joined.live q (low q two) (λ none. some (classing.respects p q one two same ∙ none)))
  ];
}
  where
    low : (state : ℕ) → IsState table state → state < length start
    low state is_state = omega (arith, is_state.within, classing.one_each)

    first : (state : ℕ) → IsState table state
        → (first_of blocks (part_of blocks.of.items state) < length start)
        × (part_of blocks.of.items (first_of blocks (part_of blocks.of.items state)) ≡ part_of blocks.of.items state)
    first state is_state =
        let there = first_there blocks state is (omega (arith, low state is_state, size)) in
        (omega (arith, there.0, size), there.1)

-- the classes and the symbols begin a splitting
pub splitting_start : (table : Table) (labels : List ℕ) (edges : List (ℕ × ℕ)) (symbols start cords : List ℕ) → IsClassing table labels start
    → ((p q : ℕ) → p < length start → q < length start → AreAlike table labels p q → class_of start p ≡ class_of start q)
    → ((move other : ℕ) → move < length edges → other < length edges → get_or symbols move 0 ≡ get_or symbols other 0 → part_of cords move ≡ part_of cords other)
    → IsSplitting table labels edges symbols start start cords
splitting_start table labels edges symbols start cords classing one_class same = record {
  one_block = one_class;
  one_cord = λ move other h i symbol _. same move other h i symbol;
  refines = λ p q h i alike. alike;
}

pub joined_more : (start : List ℕ) (blocks : Partition) (done class : ℕ) (classes : List ℕ) → (class_of start done ≡ 0 → class ≡ 0)
    → (class_of start done ≢ 0 → class ≡ first_of blocks (part_of blocks.of.items done)) → AreClassesOfBlocks start blocks done classes
    → AreClassesOfBlocks start blocks (done + 1) (classes ++ class ∷ [])
joined_more start blocks done class classes dead live joined =
    let newest : class_of (classes ++ class ∷ []) done ≡ class = get_or_push classes class 0 done joined.one_each in
    record {
      one_each = length_push classes class ∙ ap (λ n. n + 1) joined.one_each;
      dead = λ state h none. elim (cases_eq state done) [
        | inl here ↦ ap (class_of (classes ++ class ∷ [])) here ∙ newest ∙ dead (sym (ap (class_of start) here) ∙ none)
        | inr before ↦
            get_or_append_left classes (class ∷ []) 0 state (omega (arith, joined.one_each)) ∙ joined.dead state (omega arith) none
      ];
      live = λ state h some. elim (cases_eq state done) [
        | inl here ↦
            ap (class_of (classes ++ class ∷ [])) here ∙ newest ∙ live (λ none. some (ap (class_of start) here ∙ none)) ∙ ap (λ x. first_of blocks (part_of blocks.of.items x)) (sym here)
        | inr before ↦
            get_or_append_left classes (class ∷ []) 0 state (omega (arith, joined.one_each)) ∙ joined.live state (omega arith) some
      ];
    }

-- what leads into the states of a block
pub entering_from : (edges : List (ℕ × ℕ)) (blocks : List ℕ) (block : ℕ) (states listed : List ℕ)
    → ((move : ℕ) → move < length edges → source edges move < length blocks)
    → AreMembers blocks block states → AreGathered edges states listed → AreEntering edges blocks block listed
entering_from edges blocks block states listed known members gathered = record {
  sound = λ k d h.
      let from = gathered.sound (get_or listed k d) (Contains-get_or listed k d h) in
      (from.0, (All-contains (λ s. (s < length blocks) × (part_of blocks s ≡ block)) states _ members.sound from.1).1);
  complete = λ move h is. gathered.complete move h (members.complete (source edges move) (known move h) is);
}
