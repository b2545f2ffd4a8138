-- Marking what edges lead to, one edge after another.
use Rattle.std.proofs.Common.{◌≡◌, ◌≢◌, ◌↔◌, ℕ, suc, ◌-◌, ◌<◌, Bool, true, false, not, cond, List, [], ◌∷◌, ◌++◌, length, get_or, set, All, Contains, refl, sym, ap, ◌∙◌, subst, inl, inr, arith, length-set, get_or-set_same, get_or-set_other}
use Rattle.std.proofs.lemmas.Bool.{cases_eq, cases_lt, true≢false}
use Rattle.std.proofs.lemmas.List.{length_push, get_or_past, get_or_default}
use Rattle.std.proofs.lemmas.List.Elements.{All-push, All-weaker, All-contains, Contains-push_cases, Contains-append_left, Contains-push}
use Rattle.std.proofs.lemmas.List.Sums.{sum_by-set}
use Rattle.kb_fsa.specs.Graphs.{source, end, IsMarked, IsReached, at_seed, along, AreLinked, IsMarking, IsListing, weight}

-- what is marked has a mark
pub marked_within : (marks : List Bool) (x : ℕ) → IsMarked marks x → x < length marks
marked_within marks x is = elim (cases_lt x (length marks)) [
  | inl within ↦ within
  | inr past ↦ absurd (true≢false (sym is ∙ get_or_past marks x false past))
]

pub marked_set : (marks : List Bool) (x : ℕ) → x < length marks → IsMarked (set marks x true) x
marked_set marks x within = get_or-set_same marks x true false within

-- a mark stays where another is made
pub marked_kept : (marks : List Bool) (to x : ℕ) → IsMarked marks x → IsMarked (set marks to true) x
marked_kept marks to x is = elim (cases_eq x to) [
  | inl same ↦
      let within = marked_within marks x is in
      let P : ℕ → Type 0 = λ y. IsMarked (set marks y true) x in subst P same (marked_set marks x within)
  | inr apart ↦ get_or-set_other marks to x true false apart ∙ is
]

pub marked_before : (marks : List Bool) (to x : ℕ) → x ≢ to → IsMarked (set marks to true) x → IsMarked marks x
marked_before marks to x apart is = sym (get_or-set_other marks to x true false apart) ∙ is

-- an edge at a place is one of the edges
edge_at : (edges : List (ℕ × ℕ)) (place : ℕ) → place < length edges → Contains edges (source edges place, end edges place)
edge_at edges place within =
    (place, within, get_or_default edges place (source edges place, end edges place) (0, 0) within)

source_at : (edges : List (ℕ × ℕ)) (x y : ℕ) (found : Contains edges (x, y)) → (source edges found.0 ≡ x) × (end edges found.0 ≡ y)
source_at edges x y found =
    let is = get_or_default edges found.0 (0, 0) (x, y) found.1 ∙ found.2 in
    (ap (λ e. e.0) is, ap (λ e. e.1) is)

module _ (edges : List (ℕ × ℕ)) (seeds : List Bool) where
  pub marking_start : (listed : List ℕ) → IsListing seeds (length seeds) listed → IsMarking edges seeds 0 0 seeds listed
  marking_start listed listing = record {
    one_each = refl;
    sound = λ x is. at_seed is;
    begun = λ x is. is;
    marked = listing.marked;
    next = λ place is. absurd (omega arith);
    closed = λ place within is. inr (inl (listing.each (source edges place) (marked_within seeds (source edges place) is) is));
  }

  -- what was pending last is taken, and its edges are to be followed
  pub marking_pop : (marks : List Bool) (pending rest : List ℕ) (from : ℕ) (last earlier : List ℕ)
      → AreLinked edges (length edges) (length seeds) last earlier → pending ≡ rest ++ from ∷ []
      → IsMarking edges seeds 0 0 marks pending → IsMarking edges seeds from (get_or last from 0) marks rest
  marking_pop marks pending rest from last earlier linked is marking =
      let marked : All (IsMarked marks) (rest ++ from ∷ []) = subst (All (IsMarked marks)) is marking.marked in
      let here : IsMarked marks from = All-contains (IsMarked marks) (rest ++ from ∷ []) from marked (Contains-push rest from) in
      let known : from < length seeds = omega (arith, marking.one_each, marked_within marks from here) in
      record {
        one_each = marking.one_each;
        sound = marking.sound;
        begun = marking.begun;
        marked = λ k d h. All-contains (IsMarked marks) (rest ++ from ∷ []) (get_or rest k d) marked
            (Contains-append_left rest (from ∷ []) (get_or rest k d) (k, h, get_or_default rest k (get_or rest k d) d h));
        next = λ place number. let old = linked.last_is from place number in (old.0, old.1, here);
        closed = λ place within at. elim (marking.closed place within at) [
          | inl undone ↦ absurd (omega (arith, undone.0))
          | inr done ↦ elim done [
            | inr ends ↦ inr (inr ends)
            | inl there ↦ elim (Contains-push_cases rest from (source edges place) (subst (λ l. Contains l (source edges place)) is there)) [
              | inl still ↦ inr (inl still)
              | inr same ↦ elim (cases_lt place (get_or last from 0)) [
                | inl undone ↦ inl (undone, sym same)
                | inr past ↦ absurd (linked.none_later from place known past within (sym same))
              ]
            ]
          ]
        ];
      }

  -- an edge that ends in a marked thing is done
  pub marking_skip : (marks : List Bool) (pending : List ℕ) (from place : ℕ) (last earlier : List ℕ)
      → AreLinked edges (length edges) (length seeds) last earlier → IsMarked marks (end edges place)
      → IsMarking edges seeds from (suc place) marks pending → IsMarking edges seeds from (get_or earlier place 0) marks pending
  marking_skip marks pending from place last earlier linked ends marking =
      let now = marking.next place refl in
      record {
        one_each = marking.one_each;
        sound = marking.sound;
        begun = marking.begun;
        marked = marking.marked;
        next = λ other number. let old = linked.earlier_is place other now.0 number in (omega (arith, old.0, now.0), old.1 ∙ now.1, now.2);
        closed = λ other within at. elim (marking.closed other within at) [
          | inr done ↦ inr done
          | inl undone ↦ elim (cases_eq other place) [
            | inl same ↦ inr (inr (subst (λ k. IsMarked marks (end edges k)) (sym same) ends))
            | inr apart ↦ elim (cases_lt other (get_or earlier place 0)) [
              | inl below ↦ inl (below, undone.1)
              | inr past ↦ absurd (linked.none_between place other now.0 past (omega (arith, undone.0)) (undone.1 ∙ sym now.1))
            ]
          ]
        ];
      }

  -- what the edge ends in is marked, and pending
  pub marking_more : (marks : List Bool) (pending : List ℕ) (from place : ℕ) → end edges place < length seeds
      → IsMarking edges seeds from (suc place) marks pending
      → IsMarking edges seeds from (suc place) (set marks (end edges place) true) (pending ++ end edges place ∷ [])
  marking_more marks pending from place within marking =
      let now = marking.next place refl in
      let to = end edges place in
      let marks' = set marks to true in
      let known : to < length marks = omega (arith, marking.one_each) in
      let reached : IsReached edges seeds to =
      along (marking.sound (source edges place) (subst (IsMarked marks) (sym now.1) now.2)) (edge_at edges place now.0) in
      record {
        one_each = length-set marks to true ∙ marking.one_each;
        sound = λ x is. elim (cases_eq x to) [
          | inl same ↦ subst (IsReached edges seeds) (sym same) reached
          | inr apart ↦ marking.sound x (marked_before marks to x apart is)
        ];
        begun = λ x is. marked_kept marks to x (marking.begun x is);
        marked = All-push (IsMarked marks') pending to
            (All-weaker (IsMarked marks) (IsMarked marks') (λ x is. marked_kept marks to x is) pending marking.marked)
            (marked_set marks to known);
        next = λ other number. let old = marking.next other number in (old.0, old.1, marked_kept marks to from old.2);
        closed = λ other below at. elim (cases_eq (source edges other) to) [
          | inl same ↦ inr (inl (subst (Contains (pending ++ to ∷ [])) (sym same) (Contains-push pending to)))
          | inr apart ↦ elim (marking.closed other below (marked_before marks to (source edges other) apart at)) [
            | inl undone ↦ inl undone
            | inr done ↦ elim done [
              | inl still ↦ inr (inl (Contains-append_left pending (to ∷ []) (source edges other) still))
              | inr ends ↦ inr (inr (marked_kept marks to (end edges other) ends))
            ]
          ]
        ];
      }

  closure : (marks : List Bool) (pending : List ℕ) (from : ℕ) → length pending ≡ 0 → IsMarking edges seeds from 0 marks pending
      → (x : ℕ) → IsReached edges seeds x → IsMarked marks x
  closure marks pending from none marking x (at_seed is) = marking.begun x is
  closure marks pending from none marking y (along {x = x} reached edge) =
      let is = source_at edges x y edge in
      let before = closure marks pending from none marking x reached in
      elim (marking.closed edge.0 edge.1 (subst (IsMarked marks) (sym is.0) before)) [
        | inl undone ↦ absurd (omega (arith, undone.0))
        | inr done ↦ elim done [
          | inl still ↦ absurd (omega (arith, still.1))
          | inr ends ↦ subst (IsMarked marks) is.1 ends
        ]
      ]

  pub marking_end : (marks : List Bool) (pending : List ℕ) (from : ℕ) → length pending ≡ 0 → IsMarking edges seeds from 0 marks pending
      → (x : ℕ) → IsMarked marks x ↔ IsReached edges seeds x
  marking_end marks pending from none marking x = (marking.sound x, closure marks pending from none marking x)

-- what is done makes the weight fall
pub weight_more : (marks : List Bool) (pending : List ℕ) (to : ℕ) → to < length marks → get_or marks to false ≡ false
    → weight (set marks to true) (pending ++ to ∷ []) < weight marks pending
weight_more marks pending to within unmarked =
    let f : Bool → ℕ = λ x. cond (not x) 1 0 in
    let sums = sum_by-set f marks to true false within in
    let one : f (get_or marks to false) ≡ 1 = ap f unmarked in
    omega (arith, length_push pending to)

-- from what no edge leads on, the things that were taken are followed
pub marking_followed : (edges : List (ℕ × ℕ)) (seeds : List Bool) (from : ℕ) (marks : List Bool) (pending : List ℕ)
    → IsMarking edges seeds from 0 marks pending → IsMarking edges seeds 0 0 marks pending
marking_followed edges seeds from marks pending marking = record {
  one_each = marking.one_each;
  sound = marking.sound;
  begun = marking.begun;
  marked = marking.marked;
  next = λ place is. absurd (omega arith);
  closed = λ place within at. elim (marking.closed place within at) [
    | inl undone ↦ absurd (omega (arith, undone.0))
    | inr done ↦ inr done
  ];
}

-- the place of an edge that is there
pub numbered : (number : ℕ) → number ≢ 0 → number ≡ suc (number - 1)
numbered number some = omega arith

pub marking_same : (edges : List (ℕ × ℕ)) (seeds : List Bool) (from number number' : ℕ) (marks marks' : List Bool) (pending pending' : List ℕ)
    → number ≡ number' → marks ≡ marks' → pending ≡ pending' → IsMarking edges seeds from number marks pending
    → IsMarking edges seeds from number' marks' pending'
marking_same edges seeds from number number' marks marks' pending pending' a b e marking =
    let P : ℕ → Type 0 = λ n. IsMarking edges seeds from n marks' pending' in
    let Q : List Bool → Type 0 = λ m. IsMarking edges seeds from number m pending' in
    let R : List ℕ → Type 0 = λ p. IsMarking edges seeds from number marks p in
    subst P a (subst Q b (subst R e marking))

-- what is pending last is marked, and so known
pub marked_last : (edges : List (ℕ × ℕ)) (seeds : List Bool) (from number : ℕ) (marks : List Bool) (pending rest : List ℕ) (x : ℕ)
    → pending ≡ rest ++ x ∷ [] → IsMarking edges seeds from number marks pending → x < length seeds
marked_last edges seeds from number marks pending rest x is marking =
    let here = All-contains (IsMarked marks) pending x marking.marked (subst (λ l. Contains l x) (sym is) (Contains-push rest x)) in
    omega (arith, marking.one_each, marked_within marks x here)
