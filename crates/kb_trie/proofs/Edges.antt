-- How the set of edges finds one.
use Rattle.std.proofs.Common.{◌≡◌, ℕ, ◌+◌, ◌<◌, Bool, true, false, ◌&&◌, eqb, List, length, get_or, sym, subst, inl, inr}
use Rattle.std.proofs.lemmas.List.{get_or_default}
use Rattle.std.specs.List.{list_any}
use Rattle.std.proofs.lemmas.List.Folds.{list_any_none, list_any_at}
use Rattle.std.proofs.lemmas.Bool.{cases_Bool, eqb-true, eq-eqb, and_parts, and_from}
use Rattle.kb_trie.specs.declared.edge.Edge.{Edge}
use Rattle.kb_trie.specs.States.{AreWords, IsChild, IsNoChild}
use Rattle.kb_trie.specs.Edges.{AreEdges, edge_at, no_edge}
use Rattle.kb_trie.proofs.Words.{HasEdge, child_edge, edge_child}

-- the set's test for an edge
abbrev pub is_edge : Edge → Edge → Bool
is_edge edge other = eqb edge.parent other.parent && eqb edge.letter other.letter

-- the set finds a child
pub found_child : (edges : List Edge) (words : List (List ℕ)) → AreEdges edges words → (state letter place : ℕ) → place < length edges
    → is_edge (record { parent = state; letter = letter }) (edge_at edges place) ≡ true → IsChild words state letter (place + 1)
found_child edges words are state letter place within is =
    let e : Edge = edge_at edges place in
    let both = and_parts (eqb state e.parent) (eqb letter e.letter) is in
    edge_child edges words are place state letter within (sym (eqb-true state e.parent both.0)) (sym (eqb-true letter e.letter both.1))

-- an edge by which there is no child is none of the set's
pub no_edge_is : (edges : List Edge) (words : List (List ℕ)) → AreEdges edges words → (edge : Edge) → IsNoChild words edge.parent edge.letter
    → list_any (is_edge edge) edges ≡ false
no_edge_is edges words are edge none =
    list_any_none (is_edge edge) edges
    (λ k d within.
    elim (cases_Bool (is_edge edge (get_or edges k d))) [
      | inl there ↦
          let at : get_or edges k d ≡ edge_at edges k = get_or_default edges k d no_edge within in
          let P : Edge → Type 0 = λ e. is_edge edge e ≡ true in
          absurd (none (k + 1) (found_child edges words are edge.parent edge.letter k within (subst P at there)))
      | inr apart ↦ apart
    ])

-- an edge to a child is one of the set's
pub edge_there : (edges : List Edge) (words : List (List ℕ)) → AreWords words → AreEdges edges words → (state letter child : ℕ) → state < length words
    → IsChild words state letter child → list_any (is_edge (record { parent = state; letter = letter })) edges ≡ true
edge_there edges words are spell state letter child within is =
    let has : HasEdge edges state letter = child_edge edges words are spell state letter child within is in
    let e : Edge = edge_at edges has.place in
    list_any_at (is_edge (record { parent = state; letter = letter })) edges has.place no_edge has.within
    (and_from (eqb state e.parent) (eqb letter e.letter) (eq-eqb state e.parent (sym has.parent)) (eq-eqb letter e.letter (sym has.letter_is)))
