-- The links of edges, one edge after another.
use Rattle.std.proofs.Common.{◌≡◌, ◌≢◌, ℕ, zero, suc, ◌+◌, ◌<◌, ◌≤◌, List, [], ◌∷◌, ◌++◌, get_or, set, replicate, refl, sym, ap, ◌∙◌, subst, inl, inr, arith, length-set, get_or-set_same, get_or-set_other}
use Rattle.std.proofs.lemmas.Bool.{cases_eq, cases_lt}
use Rattle.std.proofs.lemmas.List.{length-replicate, length_push, get_or_push, get_or_append_left, get_or-replicate, get_or_past}
use Rattle.kb_fsa.specs.Graphs.{source, AreLinked}

-- an element of a list of zeros, or what is past its end, is 0
pub zeros : (count x : ℕ) → get_or (replicate count zero) x zero ≡ zero
zeros count x = elim (cases_lt x count) [
  | inl within ↦ get_or-replicate count x 0 0 within
  | inr past ↦ get_or_past (replicate count 0) x 0 (omega (arith, length-replicate {A = ℕ} count 0))
]

pub linked_none : (edges : List (ℕ × ℕ)) (count : ℕ) → AreLinked edges 0 count (replicate count 0) []
linked_none edges count = record {
  one_each = length-replicate {A = ℕ} count 0;
  all_done = refl;
  last_is = λ x place is. absurd (omega (arith, zeros count x));
  none_later = λ x place _ _ h. absurd (omega arith);
  earlier_is = λ place other h. absurd (omega arith);
  none_between = λ place other h. absurd (omega arith);
}

module _ (edges : List (ℕ × ℕ)) (done count : ℕ) (last earlier : List ℕ) (linked : AreLinked edges done count last earlier)
    (from : ℕ) (at : from ≡ source edges done) (within : from < count) where
  last' : List ℕ
  last' = set last from (done + 1)

  earlier' : List ℕ
  earlier' = earlier ++ get_or last from 0 ∷ []

  -- what an edge done before has before it
  before : (place : ℕ) → place < done → get_or earlier' place 0 ≡ get_or earlier place 0
  unfolding earlier'
  before place h = get_or_append_left earlier (get_or last from 0 ∷ []) 0 place (omega (arith, linked.all_done))

  here : get_or earlier' done 0 ≡ get_or last from 0
  unfolding earlier'
  here = get_or_push earlier (get_or last from 0) 0 done linked.all_done

  last_here : get_or last' from 0 ≡ done + 1
  unfolding last'
  last_here = get_or-set_same last from (done + 1) 0 (omega (arith, linked.one_each))

  last_there : (x : ℕ) → x ≢ from → get_or last' x 0 ≡ get_or last x 0
  unfolding last'
  last_there x apart = get_or-set_other last from x (done + 1) 0 apart

  last_is : (x place : ℕ) → get_or last' x 0 ≡ suc place → (place < done + 1) × (source edges place ≡ x)
  last_is x place is = elim (cases_eq x from) [
    | inl same ↦
        let place_is : place ≡ done = omega (arith, ap (λ y. get_or last' y 0) same, last_here) in
        (omega arith, ap (source edges) place_is ∙ sym at ∙ sym same)
    | inr apart ↦
        let old = linked.last_is x place (sym (last_there x apart) ∙ is) in (omega (arith, old.0), old.1)
  ]

  none_later : (x place : ℕ) → x < count → get_or last' x 0 ≤ place → place < done + 1 → source edges place ≢ x
  none_later x place known above below is = elim (cases_eq x from) [
    | inl same ↦ omega (arith, ap (λ y. get_or last' y 0) same, last_here)
    | inr apart ↦ elim (cases_eq place done) [
      | inl newest ↦ apart (sym is ∙ ap (source edges) newest ∙ sym at)
      | inr older ↦ linked.none_later x place known (omega (arith, last_there x apart)) (omega arith) is
    ]
  ]

  earlier_is : (place other : ℕ) → place < done + 1 → get_or earlier' place 0 ≡ suc other
      → (other < place) × (source edges other ≡ source edges place)
  earlier_is place other below is = elim (cases_eq place done) [
    | inl newest ↦
        let old = linked.last_is from other (sym here ∙ ap (λ k. get_or earlier' k 0) (sym newest) ∙ is) in
        (omega (arith, old.0), old.1 ∙ at ∙ ap (source edges) (sym newest))
    | inr older ↦ linked.earlier_is place other (omega arith) (sym (before place (omega arith)) ∙ is)
  ]

  none_between : (place other : ℕ) → place < done + 1 → get_or earlier' place 0 ≤ other → other < place
      → source edges other ≢ source edges place
  none_between place other below above low is = elim (cases_eq place done) [
    | inl newest ↦
        linked.none_later from other within (omega (arith, here, ap (λ k. get_or earlier' k 0) newest)) (omega arith)
        (is ∙ ap (source edges) newest ∙ sym at)
    | inr older ↦ linked.none_between place other (omega arith) (omega (arith, before place (omega arith))) low is
  ]

  pub linked_more : AreLinked edges (done + 1) count (set last from (done + 1)) (earlier ++ get_or last from 0 ∷ [])
  unfolding last' earlier'
  linked_more = record {
    one_each = length-set last from (done + 1) ∙ linked.one_each;
    all_done = length_push earlier (get_or last from 0) ∙ ap (λ n. n + 1) linked.all_done;
    last_is = last_is;
    none_later = none_later;
    earlier_is = earlier_is;
    none_between = none_between;
  }

-- the edge before another has a lesser number
pub earlier_below : (edges : List (ℕ × ℕ)) (done count : ℕ) (last earlier : List ℕ) → AreLinked edges done count last earlier
    → (place : ℕ) → place < done → get_or earlier place 0 ≤ place
earlier_below edges done count last earlier linked place within = by (get_or earlier place 0) refl
  where
    by : (number : ℕ) → get_or earlier place 0 ≡ number → get_or earlier place 0 ≤ place
    by zero is = omega arith
    by (suc other) is = omega (arith, (linked.earlier_is place other within is).0)

pub linked_same : (edges : List (ℕ × ℕ)) (done done' count : ℕ) (last last' earlier earlier' : List ℕ) → done ≡ done' → last ≡ last' → earlier ≡ earlier'
    → AreLinked edges done count last earlier → AreLinked edges done' count last' earlier'
linked_same edges done done' count last last' earlier earlier' a b e linked =
    let P : ℕ → Type 0 = λ d. AreLinked edges d count last' earlier' in
    let Q : List ℕ → Type 0 = λ l. AreLinked edges done count l earlier' in
    let R : List ℕ → Type 0 = λ l. AreLinked edges done count last l in
    subst P a (subst Q b (subst R e linked))
