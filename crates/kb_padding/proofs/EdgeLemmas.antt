-- Edges along moves, each listed once or more.
use Rattle.std.proofs.Common.{◌≡◌, ◌↔◌, ℕ, suc, ◌+◌, ◌<◌, Bool, List, [], ◌∷◌, ◌++◌, length, get_or, set, All, Contains, sym, ap, ◌∙◌, subst, inl, inr, arith, length-set, get_or-set_same, get_or-set_other}
use Rattle.std.proofs.lemmas.Bool.{cases_eq}
use Rattle.std.proofs.lemmas.List.{length-map, get_or-map, get_or_default}
use Rattle.std.proofs.lemmas.List.Elements.{All-same, All-map, Contains-push, Contains-push_cases, Contains-append_left}
use Rattle.kb_fsa.specs.Table.{Table}
use Rattle.kb_fsa.specs.Graphs.{source, end, IsReached, at_seed, along}
use Rattle.kb_fsa.specs.Moves.{AreBackward}
use Rattle.kb_padding.specs.Cleaning.{turned, HaveSameEdges, AreForward}

-- ---- the same edges

abbrev turn : ℕ × ℕ → ℕ × ℕ
turn edge = (edge.1, edge.0)

pub contains_turned : (edges : List (ℕ × ℕ)) (x y : ℕ) → Contains (turned edges) (x, y) ↔ Contains edges (y, x)
contains_turned edges x y = (
  λ found.
      let low : found.0 < length edges = omega (arith, found.1, length-map edges turn) in
      let here = sym (get_or-map (λ (edge : ℕ × ℕ). (edge.1, edge.0)) edges found.0 (y, x) (x, y) low) ∙ found.2 in
      (found.0, low, ap (λ (edge : ℕ × ℕ). (edge.1, edge.0)) here),
  λ found. (
    found.0,
    omega (arith, found.1, length-map edges turn),
    get_or-map (λ (edge : ℕ × ℕ). (edge.1, edge.0)) edges found.0 (y, x) (x, y) found.1 ∙ ap (λ (edge : ℕ × ℕ). (edge.1, edge.0)) found.2,
  ),
)

pub turned_same : (edges backward : List (ℕ × ℕ)) → HaveSameEdges edges (turned backward) → HaveSameEdges (turned edges) backward
turned_same edges backward same x y = (
  λ found. (contains_turned backward y x).0 ((same y x).0 ((contains_turned edges x y).0 found)),
  λ found. (contains_turned edges x y).1 ((same y x).1 ((contains_turned backward y x).1 found)),
)

along_others : (edges others : List (ℕ × ℕ)) (seeds : List Bool) (state : ℕ) → HaveSameEdges edges others → IsReached edges seeds state → IsReached others seeds state
along_others edges others seeds state same (at_seed marked) = at_seed marked
along_others edges others seeds state same (along {x = x} before edge) =
    along (along_others edges others seeds x same before) ((same x state).0 edge)

-- the same is reached along them
pub reached_same : (edges others : List (ℕ × ℕ)) (seeds : List Bool) (state : ℕ) → HaveSameEdges edges others
    → IsReached edges seeds state ↔ IsReached others seeds state
reached_same edges others seeds state same = (
  along_others edges others seeds state same,
  along_others others edges seeds state (λ x y. ((same x y).1, (same x y).0)),
)

-- edges along moves lead between states
edge_within : (table : Table) (edges : List (ℕ × ℕ)) (symbols : List ℕ) → AreBackward table (suc (length table.rows)) 0 edges symbols
    → (count x y : ℕ) → count ≡ length table.rows + 1 → Contains (turned edges) (x, y) → (x < count) × (y < count)
edge_within table edges symbols backward count x y size found =
    let there = (contains_turned edges x y).0 found in
    let back = backward.sound there.0 there.1 in
    let to_state = back.to_state.within in
    let from_state = back.from_state.within in
    let at = get_or_default edges there.0 (0, 0) (y, x) there.1 ∙ there.2 in
    let first : source edges there.0 ≡ y = ap (λ (e : ℕ × ℕ). e.0) at in
    let second : end edges there.0 ≡ x = ap (λ (e : ℕ × ℕ). e.1) at in
    (omega arith, omega arith)

pub forward_within : (table : Table) (edges : List (ℕ × ℕ)) (symbols : List ℕ) → AreBackward table (suc (length table.rows)) 0 edges symbols
    → (forwards : List (ℕ × ℕ)) (count : ℕ) → HaveSameEdges forwards (turned edges) → count ≡ length table.rows + 1
    → All (λ edge. (edge.0 < count) × (edge.1 < count)) forwards
forward_within table edges symbols backward forwards count same size = λ k d h.
    let edge = get_or forwards k d in
    edge_within table edges symbols backward count edge.0 edge.1 size ((same edge.0 edge.1).0 (k, h, get_or_default forwards k edge d h))

-- ---- one move after another

pub AreForward-same : {backward : List (ℕ × ℕ)} {done count : ℕ} {edges others : List (ℕ × ℕ)} {latest later : List ℕ} → edges ≡ others → latest ≡ later
    → AreForward backward done count edges latest → AreForward backward done count others later
AreForward-same {backward} {done} {count} {edges} {others} {latest} {later} one two are =
    subst (λ (es : List (ℕ × ℕ)). AreForward backward done count es later) one (subst (λ (ls : List ℕ). AreForward backward done count edges ls) two are)

module _ {backward : List (ℕ × ℕ)} {done count : ℕ} {edges : List (ℕ × ℕ)} {latest : List ℕ}
    (before : AreForward backward done count edges latest) where
  -- an edge is added
  pub AreForward-added : (target state : ℕ) → get_or backward done (0, 0) ≡ (target, state) → target < count
      → AreForward backward (done + 1) count (edges ++ (state, target) ∷ []) (set latest target state)
  AreForward-added target state is within = record {
    one_each = length-set latest target state ∙ before.one_each;
    sound = λ x y found. elim (Contains-push_cases edges (state, target) (x, y) found) [
      | inl old ↦ let move = before.sound x y old in let less = move.1.0 in (move.0, (omega arith, move.1.1))
      | inr same ↦ (done, (omega arith, is ∙ ap (λ (edge : ℕ × ℕ). (edge.1, edge.0)) same))
    ];
    complete = λ place less. elim (cases_eq place done) [
      | inl same ↦
          let P : ℕ × ℕ → Type 0 = λ edge. Contains (edges ++ (state, target) ∷ []) (edge.1, edge.0) in
          subst P (sym (ap (λ p. get_or backward p (0, 0)) same ∙ is)) (Contains-push edges (state, target))
      | inr other ↦ Contains-append_left edges ((state, target) ∷ []) (end backward place, source backward place) (before.complete place (omega arith))
    ];
    latest_is = λ to some. elim (cases_eq to target) [
      | inl same ↦
          let P : ℕ × ℕ → Type 0 = λ edge. Contains (edges ++ (state, target) ∷ []) edge in
          let long = before.one_each in
          let here : get_or (set latest target state) target 0 ≡ state = get_or-set_same latest target state 0 (omega arith) in
          let there : get_or (set latest target state) to 0 ≡ state = ap (λ t. get_or (set latest target state) t 0) same ∙ here in
          subst P (ap (λ s. (s, target)) (sym there) ∙ ap (λ t. (get_or (set latest target state) to 0, t)) (sym same)) (Contains-push edges (state, target))
      | inr other ↦
          let stays : get_or (set latest target state) to 0 ≡ get_or latest to 0 = get_or-set_other latest target to state 0 other in
          let P : ℕ → Type 0 = λ s. Contains (edges ++ (state, target) ∷ []) (s, to) in
          subst P (sym stays) (Contains-append_left edges ((state, target) ∷ []) (get_or latest to 0, to)
          (before.latest_is to (λ none. some (stays ∙ none))))
    ];
  }

  -- an edge is there already
  pub AreForward-known : (target state : ℕ) → get_or backward done (0, 0) ≡ (target, state) → 0 < state → get_or latest target 0 ≡ state
      → AreForward backward (done + 1) count edges latest
  AreForward-known target state is positive known = record {
    one_each = before.one_each;
    sound = λ x y found. let move = before.sound x y found in let less = move.1.0 in (move.0, (omega arith, move.1.1));
    complete = λ place less. elim (cases_eq place done) [
      | inl same ↦
          let P : ℕ × ℕ → Type 0 = λ edge. Contains edges (edge.1, edge.0) in
          let Q : ℕ → Type 0 = λ s. Contains edges (s, target) in
          subst P (sym (ap (λ p. get_or backward p (0, 0)) same ∙ is)) (subst Q known (before.latest_is target (λ none. (let no : ⊥ = omega arith in no))))
      | inr other ↦ before.complete place (omega arith)
    ];
    latest_is = before.latest_is;
  }

-- at the end the edges are those along all moves
pub same_from_forward : (backward : List (ℕ × ℕ)) (count : ℕ) (edges : List (ℕ × ℕ)) (latest : List ℕ) (done : ℕ) → done ≡ length backward
    → AreForward backward done count edges latest → HaveSameEdges edges (turned backward)
same_from_forward backward count edges latest done all are x y = (
  λ found.
      let move = are.sound x y found in
      let less = move.1.0 in
      let low : move.0 < length backward = omega arith in
      (contains_turned backward x y).1 (move.0, low, get_or_default backward move.0 (y, x) (0, 0) low ∙ move.1.1),
  λ found.
      let there = (contains_turned backward x y).0 found in
      let less = there.1 in
      let P : ℕ × ℕ → Type 0 = λ edge. Contains edges (edge.1, edge.0) in
      subst P (get_or_default backward there.0 (0, 0) (y, x) there.1 ∙ there.2) (are.complete there.0 (omega arith)),
)

-- ---- bounds

pub turned_within_count : (edges back : List (ℕ × ℕ)) (count size : ℕ) → back ≡ turned edges → count ≡ size
    → All (λ edge. (edge.0 < count) × (edge.1 < count)) edges → All (λ edge. (edge.0 < size) × (edge.1 < size)) back
turned_within_count edges back count size are same all =
    All-same (λ (edge : ℕ × ℕ). (edge.0 < size) × (edge.1 < size)) back (turned edges) are
    (All-map (λ (edge : ℕ × ℕ). (edge.0 < size) × (edge.1 < size)) (λ (edge : ℕ × ℕ). (edge.1, edge.0)) edges (λ place d within.
    let bounds = all place d within in
    let first = bounds.0 in
    let second = bounds.1 in
    (omega arith, omega arith)))
