-- The edges of a trie, which spell the words of its states.
use Rattle.std.specs.Prelude.{◌≡◌, ℕ, ◌+◌, ◌<◌, ◌≤◌, ◌^◌, List, [], ◌∷◌, ◌++◌, length, get_or}
use Rattle.kb_trie.specs.declared.edge.Edge.{Edge}
use Rattle.kb_trie.specs.States.{AreWords, word}

abbrev pub no_edge : Edge
no_edge = record { parent = 0; letter = 0 }

abbrev pub edge_at : List Edge → ℕ → Edge
edge_at edges i = get_or edges i no_edge

-- the words of all states, when those of the first states are known
unfoldable pub words_from : List (List ℕ) → List Edge → List (List ℕ)
words_from words [] = words
words_from words (edge ∷ edges) =
    words_from (words ++ (word words edge.parent ++ edge.letter ∷ []) ∷ []) edges

-- the words of all states: the letters on the way to each from state 0
unfoldable pub words_of : List Edge → List (List ℕ)
words_of edges = words_from ([] ∷ []) edges

-- edges that each lead from an earlier state and spell the words of the states that they lead to
pub record AreEdges (edges : List Edge) (words : List (List ℕ)) : Type 0 where
  pub count : length words ≡ length edges + 1
  pub parents : (i : ℕ) → i < length edges → (edge_at edges i).parent ≤ i
  pub spelled : (i : ℕ) → i < length edges
      → word words (i + 1) ≡ word words (edge_at edges i).parent ++ (edge_at edges i).letter ∷ []

-- edges of a trie with fewer than 2^32 states
pub record IsTree (edges : List Edge) : Type 0 where
  pub are : AreWords (words_of edges)
  pub spell : AreEdges edges (words_of edges)
  pub few : length (words_of edges) < 2 ^ 32
