-- Where words lead by differences, they differ by what they lead to.
use Rattle.std.proofs.Common.{◌≡◌, ℕ, ◌+◌, List, [], ◌∷◌, ◌++◌, sym, subst, append_assoc}
use Rattle.std.proofs.lemmas.List.{append-nil}
use Rattle.kb_word.specs.Words.{Pair}
use Rattle.kb_word.specs.Relations.{IsOver}
use Rattle.kb_word.specs.declared.presentation.Presentation.{Presentation}
use Rattle.kb_word.proofs.PathLemmas.{congruent_reflexive, congruent_symmetric, congruent_transitive}
use Rattle.kb_fsa.specs.Padding.{letters_of}
use Rattle.kb_diff.specs.Groups.{group_of}
use Rattle.kb_diff.specs.Steps.{LeadsBy, Leads, at_end, by_both, by_first, by_second}
use Rattle.kb_structure.proofs.Letters.{over_empty, over_front, over_later}
use Rattle.kb_structure.proofs.Words.{congruent_behind, congruent_before}
use Rattle.kb_round.proofs.Elements.{AreSame, IsCompleteGroup, inverse_behind, same_as_normal}
use Rattle.kb_round.proofs.Letters.{letter_alone, padding_empty}

-- one more letter of either word, or none, where d turns into e
one_more : (presentation : Presentation) (front inverse d back e u v : List ℕ) → AreSame presentation (front ++ inverse) []
    → AreSame presentation (inverse ++ d ++ back) e → AreSame presentation u (e ++ v)
    → AreSame presentation (front ++ u) (d ++ (back ++ v))
one_more presentation front inverse d back e u v cancels turns rest =
    let regroup : front ++ ((inverse ++ d ++ back) ++ v) ≡ (front ++ inverse) ++ (d ++ (back ++ v)) = simp append_assoc in
    let P : List ℕ → Type 0 = λ w. AreSame presentation (front ++ (e ++ v)) w in
    let turned : AreSame presentation (front ++ (e ++ v)) ((front ++ inverse) ++ (d ++ (back ++ v))) =
    subst P regroup (congruent_behind front (congruent_before v (congruent_symmetric turns))) in
    congruent_transitive (congruent_behind front rest)
    (congruent_transitive turned (congruent_before (d ++ (back ++ v)) cancels))

module _ (presentation : Presentation) (rules : List Pair) (is : IsCompleteGroup presentation rules) (words : List (List ℕ)) where
  -- one step, by letters that stand for these words
  by_step : (a b : ℕ) (front back d e u v : List ℕ) → letters_of presentation.n a ≡ front → letters_of presentation.n b ≡ back
      → IsOver presentation.n front → LeadsBy (group_of presentation rules) d a b e → AreSame presentation u (e ++ v)
      → AreSame presentation (front ++ u) (d ++ (back ++ v))
  by_step a b front back d e u v first second over leads rest =
      let P : List ℕ → Type 0 = λ w. IsOver presentation.n w in
      let Q : List ℕ → Type 0 = λ w. AreSame presentation (w ++ leads.inverse) [] in
      let R : List ℕ → Type 0 = λ w. AreSame presentation (leads.inverse ++ d ++ w) e in
      let cancels = inverse_behind presentation rules is (letters_of presentation.n a) leads.inverse (subst P (sym first) over) leads.inverts in
      let turns = same_as_normal presentation rules is (leads.inverse ++ d ++ letters_of presentation.n b) e leads.normal in
      one_more presentation front leads.inverse d back e u v (subst Q first cancels) (subst R second turns) rest

  -- the first letter alone is a word over the generators
  alone : (x : ℕ) (u : List ℕ) → IsOver presentation.n (x ∷ u) → IsOver presentation.n (x ∷ [])
  alone x u over = over_front presentation.n (x ∷ []) u over

  -- words that lead from d to f differ by f, but for d
  pub leads_differs : (u v d f : List ℕ) → IsOver presentation.n u → IsOver presentation.n v
      → Leads (group_of presentation rules) words d u v f → AreSame presentation (u ++ f) (d ++ v)
  leads_differs [] [] d f over also at_end =
      let P : List ℕ → Type 0 = λ w. AreSame presentation d w in subst P (sym (append-nil d)) (congruent_reflexive d)
  leads_differs (x ∷ u) (y ∷ v) d f over also (by_both {e = e} leads kept rest) =
      let n = presentation.n in
      let later = leads_differs u v e f (over_later n x u over) (over_later n y v also) rest in
      by_step x y (x ∷ []) (y ∷ []) d e (u ++ f) v (letter_alone n x u over) (letter_alone n y v also) (alone x u over) leads later
  leads_differs (x ∷ u) [] d f over also (by_first {e = e} leads kept rest) =
      let n = presentation.n in
      let later = leads_differs u [] e f (over_later n x u over) also rest in
      by_step x (n + 1) (x ∷ []) [] d e (u ++ f) [] (letter_alone n x u over) (padding_empty n) (alone x u over) leads later
  leads_differs [] (y ∷ v) d f over also (by_second {e = e} leads kept rest) =
      let n = presentation.n in
      let later = leads_differs [] v e f over (over_later n y v also) rest in
      by_step (n + 1) y [] (y ∷ []) d e f v (padding_empty n) (letter_alone n y v also) (over_empty n) leads later
