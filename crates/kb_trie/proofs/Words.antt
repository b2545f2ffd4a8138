-- The words of the states, with a state more.
use Rattle.std.proofs.Common.{◌≡◌, ℕ, ◌+◌, ◌-◌, ◌<◌, ◌≤◌, ◌^◌, ◌⊎◌, List, [], ◌∷◌, ◌++◌, length, refl, sym, ap, ◌∙◌, subst, inl, inr, arith}
use Rattle.std.proofs.lemmas.List.{get_or_append_left, get_or_push, length_push, same_from_push}
use Rattle.std.proofs.lemmas.Bool.{cases_lt}
use Rattle.kb_trie.specs.declared.edge.Edge.{Edge}
use Rattle.kb_trie.specs.States.{AreWords, IsChild, IsLonger, IsNoChild, word}
use Rattle.kb_trie.specs.Edges.{AreEdges, IsTree, edge_at, no_edge, words_from, words_of}

words_push : (words : List (List ℕ)) (edges : List Edge) (edge : Edge)
    → words_from words (edges ++ edge ∷ [])
    ≡ words_from words edges ++ (word (words_from words edges) edge.parent ++ edge.letter ∷ []) ∷ []
unfolding words_from
words_push words [] edge = refl
words_push words (e ∷ edges) edge =
    words_push (words ++ (word words e.parent ++ e.letter ∷ []) ∷ []) edges edge

-- an edge more spells a word more
pub words_more : (edges : List Edge) (edge : Edge)
    → words_of (edges ++ edge ∷ []) ≡ words_of edges ++ (word (words_of edges) edge.parent ++ edge.letter ∷ []) ∷ []
unfolding words_of
words_more edges edge = words_push ([] ∷ []) edges edge

-- no edges spell the empty word
pub words_none : words_of [] ≡ [] ∷ []
unfolding words_of words_from
words_none = refl

pub word_old : (words : List (List ℕ)) (next : List ℕ) (state : ℕ) → state < length words
    → word (words ++ next ∷ []) state ≡ word words state
word_old words next state within = get_or_append_left words (next ∷ []) [] state within

pub word_new : (words : List (List ℕ)) (next : List ℕ) (state : ℕ) → length words ≡ state
    → word (words ++ next ∷ []) state ≡ next
word_new words next state same = get_or_push words next [] state same

-- a state is one of before or the one that came
pub old_or_new : (words : List (List ℕ)) (next : List ℕ) (state : ℕ) → state < length (words ++ next ∷ [])
    → (state < length words) ⊎ (length words ≡ state)
old_or_new words next state within =
    elim (cases_lt state (length words)) [
      | inl old ↦ inl old
      | inr late ↦ inr (omega (arith, length_push words next))
    ]

pub words_root : AreWords ([] ∷ [])
words_root =
    record {
      some = omega arith;
      root = refl;
      longer = λ state some within. absurd (omega arith);
      apart = λ i j in_i in_j same. omega arith;
    }

longer_old : (words : List (List ℕ)) (next : List ℕ) (state : ℕ) → state < length words → IsLonger words state
    → IsLonger (words ++ next ∷ []) state
longer_old words next state within is =
    record {
      parent = is.parent;
      letter = is.letter;
      earlier = is.earlier;
      spelled =
          word_old words next state within ∙ is.spelled
          ∙ ap (λ (w : List ℕ). w ++ is.letter ∷ []) (sym (word_old words next is.parent (omega (arith, is.earlier))));
    }

longer_new : (words : List (List ℕ)) (parent letter state : ℕ) → parent < length words → length words ≡ state
    → IsLonger (words ++ (word words parent ++ letter ∷ []) ∷ []) state
longer_new words parent letter state within same =
    let next : List ℕ = word words parent ++ letter ∷ [] in
    record {
      parent = parent;
      letter = letter;
      earlier = omega arith;
      spelled =
          word_new words next state same
          ∙ ap (λ (w : List ℕ). w ++ letter ∷ []) (sym (word_old words next parent within));
    }

-- no state of before has the word of a child that isn't there
new_apart : (words : List (List ℕ)) (parent letter i j : ℕ) → IsNoChild words parent letter → i < length words
    → length words ≡ j
    → word (words ++ (word words parent ++ letter ∷ []) ∷ []) i ≡ word (words ++ (word words parent ++ letter ∷ []) ∷ []) j → ⊥
new_apart words parent letter i j none old new same =
    let next : List ℕ = word words parent ++ letter ∷ [] in
    none i (record { within = old; spelled = sym (word_old words next i old) ∙ same ∙ word_new words next j new })

pub words_grow : (words : List (List ℕ)) → AreWords words → (parent letter : ℕ) → parent < length words
    → IsNoChild words parent letter → AreWords (words ++ (word words parent ++ letter ∷ []) ∷ [])
words_grow words are parent letter within none =
    let next : List ℕ = word words parent ++ letter ∷ [] in
    record {
      some = omega (arith, length_push words next);
      root = word_old words next 0 are.some ∙ are.root;
      longer = λ state some in_all.
          elim (old_or_new words next state in_all) [
            | inl old ↦ longer_old words next state old (are.longer state some old)
            | inr new ↦ longer_new words parent letter state within new
          ];
      apart = λ i j in_i in_j same.
          elim (old_or_new words next i in_i) [
            | inl old_i ↦
                elim (old_or_new words next j in_j) [
                  | inl old_j ↦
                      are.apart i j old_i old_j (sym (word_old words next i old_i) ∙ same ∙ word_old words next j old_j)
                  | inr new_j ↦ absurd (new_apart words parent letter i j none old_i new_j same)
                ]
            | inr new_i ↦
                elim (old_or_new words next j in_j) [
                  | inl old_j ↦ absurd (new_apart words parent letter j i none old_j new_i (sym same))
                  | inr new_j ↦ sym new_i ∙ new_j
                ]
          ];
    }

edge_old : (edges : List Edge) (edge : Edge) (i : ℕ) → i < length edges → edge_at (edges ++ edge ∷ []) i ≡ edge_at edges i
edge_old edges edge i within = get_or_append_left edges (edge ∷ []) no_edge i within

-- what holds of each edge, with an edge more
each_edge : (P : ℕ → Edge → Type 0) (edges : List Edge) (edge : Edge)
    → ((i : ℕ) → i < length edges → P i (edge_at edges i)) → P (length edges) edge
    → (i : ℕ) → i < length (edges ++ edge ∷ []) → P i (edge_at (edges ++ edge ∷ []) i)
each_edge P edges edge each last i within =
    elim (cases_lt i (length edges)) [
      | inl earlier ↦ subst (P i) (sym (edge_old edges edge i earlier)) (each i earlier)
      | inr late ↦
          let same : length edges ≡ i = omega (arith, length_push edges edge) in
          let here : P i edge = subst (λ (k : ℕ). P k edge) same last in
          subst (P i) (sym (get_or_push edges edge no_edge i same)) here
    ]

edges_grow : (edges : List Edge) (edge : Edge) (words : List (List ℕ)) → AreEdges edges words → edge.parent < length words
    → AreEdges (edges ++ edge ∷ []) (words ++ (word words edge.parent ++ edge.letter ∷ []) ∷ [])
edges_grow edges edge words are within =
    let next : List ℕ = word words edge.parent ++ edge.letter ∷ [] in
    let words' : List (List ℕ) = words ++ next ∷ [] in
    record {
      count = omega (arith, length_push words next, length_push edges edge, are.count);
      parents = each_edge (λ (i : ℕ) (e : Edge). e.parent ≤ i) edges edge are.parents (omega (arith, are.count));
      spelled =
          each_edge (λ (i : ℕ) (e : Edge). word (words ++ (word words edge.parent ++ edge.letter ∷ []) ∷ []) (i + 1) ≡ word (words ++ (word words edge.parent ++ edge.letter ∷ []) ∷ []) e.parent ++ e.letter ∷ []) edges edge
          (λ i in_edges.
          let e : Edge = edge_at edges i in
          let parent : e.parent ≤ i = are.parents i in_edges in
          word_old words next (i + 1) (omega (arith, are.count)) ∙ are.spelled i in_edges
          ∙ ap (λ (w : List ℕ). w ++ e.letter ∷ []) (sym (word_old words next e.parent (omega (arith, are.count)))))
          (word_new words next (length edges + 1) are.count ∙ ap (λ (w : List ℕ). w ++ edge.letter ∷ []) (sym (word_old words next edge.parent within)));
    }

-- the trie with an edge more
pub tree_grow : (edges : List Edge) (edge : Edge) → IsTree edges → edge.parent < length (words_of edges)
    → IsNoChild (words_of edges) edge.parent edge.letter → length (words_of edges) + 1 < 2 ^ 32
    → IsTree (edges ++ edge ∷ [])
tree_grow edges edge tree within none few =
    let words : List (List ℕ) = words_of edges in
    let next : List ℕ = word words edge.parent ++ edge.letter ∷ [] in
    let more : words_of (edges ++ edge ∷ []) ≡ words ++ next ∷ [] = words_more edges edge in
    record {
      are = subst AreWords (sym more) (words_grow words tree.are edge.parent edge.letter within none);
      spell = subst (AreEdges (edges ++ edge ∷ [])) (sym more) (edges_grow edges edge words tree.spell within);
      few = omega (arith, ap length more, length_push words next);
    }

edges_root : AreEdges [] ([] ∷ [])
edges_root =
    record { count = refl; parents = λ i within. absurd (omega arith); spelled = λ i within. absurd (omega arith) }

pub tree_root : IsTree []
tree_root =
    record {
      are = subst AreWords (sym words_none) words_root;
      spell = subst (AreEdges []) (sym words_none) edges_root;
      few = omega (arith, ap length words_none);
    }

-- a child by an edge
pub edge_child : (edges : List Edge) (words : List (List ℕ)) → AreEdges edges words → (place state letter : ℕ) → place < length edges
    → (edge_at edges place).parent ≡ state → (edge_at edges place).letter ≡ letter → IsChild words state letter (place + 1)
edge_child edges words are place state letter within parents letters =
    record {
      within = omega (arith, are.count);
      spelled =
          are.spelled place within ∙ ap (λ (s : ℕ). word words s ++ (edge_at edges place).letter ∷ []) parents
          ∙ ap (λ (x : ℕ). word words state ++ x ∷ []) letters;
    }

-- the edge to a child
pub record HasEdge (edges : List Edge) (state letter : ℕ) : Type 0 where
  pub place : ℕ
  pub within : place < length edges
  pub parent : (edge_at edges place).parent ≡ state
  pub letter_is : (edge_at edges place).letter ≡ letter

pub child_edge : (edges : List Edge) (words : List (List ℕ)) → AreWords words → AreEdges edges words
    → (state letter child : ℕ) → state < length words → IsChild words state letter child → HasEdge edges state letter
child_edge edges words are spell state letter child in_words is =
    let some : 0 < child = elim (cases_lt 0 child) [
      | inl some ↦ some
      | inr none ↦
          let root : child ≡ 0 = omega arith in
          absurd (omega (arith, ap length (sym are.root ∙ sym (ap (word words) root) ∙ is.spelled), length_push (word words state) letter))
    ] in
    let place : ℕ = child - 1 in
    let within : place < length edges = omega (arith, is.within, spell.count) in
    let same : place + 1 ≡ child = omega arith in
    let e : Edge = edge_at edges place in
    let both = same_from_push (word words e.parent) (word words state) e.letter letter
    (sym (spell.spelled place within) ∙ ap (word words) same ∙ is.spelled) in
    record {
      place = place;
      within = within;
      parent = are.apart e.parent state (omega (arith, spell.parents place within, spell.count)) in_words both.0;
      letter_is = both.1;
    }
