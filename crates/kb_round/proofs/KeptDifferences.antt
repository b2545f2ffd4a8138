-- Words whose differences are kept lead on by them, to what they differ by.
use Rattle.std.proofs.Common.{◌≡◌, ℕ, suc, ◌+◌, ◌<◌, ◌≤◌, List, [], ◌∷◌, ◌++◌, take, sym, subst, arith, append_assoc}
use Rattle.std.specs.List.{Contains}
use Rattle.std.proofs.lemmas.List.{append-nil, take_all}
use Rattle.std.proofs.lemmas.List.Elements.{All-take}
use Rattle.kb_word.specs.Words.{Pair, OneOf}
use Rattle.kb_word.specs.Relations.{IsOver}
use Rattle.kb_word.specs.Rewriting.{IsIrreducible}
use Rattle.kb_word.specs.declared.presentation.Presentation.{Presentation}
use Rattle.kb_word.proofs.PathLemmas.{congruent_reflexive, congruent_symmetric, congruent_transitive}
use Rattle.kb_fsa.specs.Padding.{letters_of}
use Rattle.kb_diff.specs.Groups.{group_of}
use Rattle.kb_diff.specs.Differences.{HaveDifferences}
use Rattle.kb_diff.specs.Steps.{LeadsBy, Leads, at_end, by_both, by_first, by_second}
use Rattle.kb_diff.proofs.GroupLemmas.{empty_is_irreducible}
use Rattle.kb_structure.proofs.Letters.{over_append, over_empty, over_front, over_later}
use Rattle.kb_structure.proofs.Words.{congruent_behind, congruent_before}
use Rattle.kb_round.proofs.Elements.{AreSame, IsCompleteGroup, cancel_front, has_normal, inverse_before, inverse_behind, inverse_of, normal_of_same, one_irreducible, same_as_normal}
use Rattle.kb_round.proofs.Letters.{letter_alone, padding_empty}

module _ (presentation : Presentation) (rules : List Pair) (is : IsCompleteGroup presentation rules) (words : List (List ℕ)) where
  -- Behind these words the difference at each place is among the words: the irreducible word by which what is read of
  -- both differs.
  abbrev pub AreKept : List ℕ → List ℕ → List ℕ → List ℕ → Type 0
  AreKept front other u v = (place : ℕ) (e : List ℕ) → 0 < place → IsIrreducible (OneOf rules) e
      → AreSame presentation ((front ++ take place u) ++ e) (other ++ take place v) → Contains words e

  -- from d the letters lead to e, by which the words differ after them
  record Stepped (a b : ℕ) (first second front other d : List ℕ) : Type 0 where
    e : List ℕ
    leads : LeadsBy (group_of presentation rules) d a b e
    irreducible : IsIrreducible (OneOf rules) e
    differs : AreSame presentation ((front ++ first) ++ e) (other ++ second)

  stepped : (a b : ℕ) (first second front other d : List ℕ) → letters_of presentation.n a ≡ first → letters_of presentation.n b ≡ second
      → IsOver presentation.n first → AreSame presentation (front ++ d) other → Stepped a b first second front other d
  stepped a b first second front other d is_first is_second over differs =
      let n = presentation.n in
      let P : List ℕ → Type 0 = λ w. IsOver n w in
      let inverse = inverse_of presentation rules is (letters_of n a) (subst P (sym is_first) over) in
      let normal = has_normal presentation rules is (inverse.0 ++ d ++ letters_of n b) in
      let Q : List ℕ → Type 0 = λ w. AreSame presentation (w ++ inverse.0) [] in
      let R : List ℕ → Type 0 = λ w. AreSame presentation (inverse.0 ++ d ++ w) normal.0 in
      let cancels : AreSame presentation (first ++ inverse.0) [] =
      subst Q is_first (inverse_behind presentation rules is (letters_of n a) inverse.0 (subst P (sym is_first) over) inverse.1) in
      let turns : AreSame presentation (inverse.0 ++ d ++ second) normal.0 =
      subst R is_second (same_as_normal presentation rules is (inverse.0 ++ d ++ letters_of n b) normal.0 normal.1) in
      let regroup : (front ++ first) ++ (inverse.0 ++ d ++ second) ≡ front ++ ((first ++ inverse.0) ++ (d ++ second)) = simp append_assoc in
      let S : List ℕ → Type 0 = λ w. AreSame presentation ((front ++ first) ++ normal.0) w in
      let T : List ℕ → Type 0 = λ w. AreSame presentation w (other ++ second) in
      let back : AreSame presentation ((front ++ first) ++ normal.0) (front ++ ((first ++ inverse.0) ++ (d ++ second))) =
      subst S regroup (congruent_behind (front ++ first) (congruent_symmetric turns)) in
      let on : AreSame presentation (front ++ (d ++ second)) (other ++ second) =
      subst T (append_assoc front d second) (congruent_before second differs) in
      record {
        e = normal.0;
        leads = record { inverse = inverse.0; inverts = inverse.1; normal = normal.1 };
        irreducible = normal.1.irreducible;
        differs = congruent_transitive back (congruent_transitive (congruent_behind front (congruent_before (d ++ second) cancels)) on);
      }

  -- what is kept behind words is kept behind the words with a letter more, or none
  kept_both : (front other : List ℕ) (x y : ℕ) (u v : List ℕ) → AreKept front other (x ∷ u) (y ∷ v)
      → AreKept (front ++ x ∷ []) (other ++ y ∷ []) u v
  kept_both front other x y u v kept place e positive irreducible same =
      let P : List ℕ → Type 0 = λ w. AreSame presentation (w ++ e) ((other ++ y ∷ []) ++ take place v) in
      let Q : List ℕ → Type 0 = λ w. AreSame presentation ((front ++ x ∷ take place u) ++ e) w in
      kept (suc place) e (omega arith) irreducible
      (subst Q (append_assoc other (y ∷ []) (take place v)) (subst P (append_assoc front (x ∷ []) (take place u)) same))

  kept_first : (front other : List ℕ) (x : ℕ) (u : List ℕ) → AreKept front other (x ∷ u) [] → AreKept (front ++ x ∷ []) other u []
  kept_first front other x u kept place e positive irreducible same =
      let P : List ℕ → Type 0 = λ w. AreSame presentation (w ++ e) (other ++ take place []) in
      let Q : List ℕ → Type 0 = λ w. AreSame presentation ((front ++ x ∷ take place u) ++ e) (other ++ w) in
      kept (suc place) e (omega arith) irreducible
      (subst Q (take_all place [] (omega arith)) (subst P (append_assoc front (x ∷ []) (take place u)) same))

  kept_second : (front other : List ℕ) (y : ℕ) (v : List ℕ) → AreKept front other [] (y ∷ v) → AreKept front (other ++ y ∷ []) [] v
  kept_second front other y v kept place e positive irreducible same =
      let P : List ℕ → Type 0 = λ w. AreSame presentation ((front ++ w) ++ e) ((other ++ y ∷ []) ++ take place v) in
      let Q : List ℕ → Type 0 = λ w. AreSame presentation ((front ++ []) ++ e) w in
      kept (suc place) e (omega arith) irreducible
      (subst Q (append_assoc other (y ∷ []) (take place v)) (subst P (take_all place [] (omega arith)) same))

  -- Behind words that differ by d, words that differ by f in all lead from d to f.
  leads_behind : (u v front other d f : List ℕ) → IsOver presentation.n u → IsOver presentation.n v → IsOver presentation.n front
      → IsIrreducible (OneOf rules) d → IsIrreducible (OneOf rules) f → AreSame presentation (front ++ d) other
      → AreSame presentation ((front ++ u) ++ f) (other ++ v) → AreKept front other u v
      → Leads (group_of presentation rules) words d u v f
  leads_behind [] [] front other d f over also before irreducible last differs whole kept =
      let P : List ℕ → Type 0 = λ w. AreSame presentation (w ++ f) (other ++ []) in
      let Q : List ℕ → Type 0 = λ w. AreSame presentation (front ++ f) w in
      let end : AreSame presentation (front ++ f) other = subst Q (append-nil other) (subst P (append-nil front) whole) in
      let same = cancel_front presentation rules is front d f before (congruent_transitive differs (congruent_symmetric end)) in
      let R : List ℕ → Type 0 = λ w. Leads (group_of presentation rules) words d [] [] w in
      subst R (one_irreducible presentation rules is d f same irreducible last) at_end
  leads_behind (x ∷ u) (y ∷ v) front other d f over also before irreducible last differs whole kept =
      let n = presentation.n in
      let alone = over_front n (x ∷ []) u over in
      let step = stepped x y (x ∷ []) (y ∷ []) front other d (letter_alone n x u over) (letter_alone n y v also) alone differs in
      let P : List ℕ → Type 0 = λ w. AreSame presentation (w ++ f) (other ++ y ∷ v) in
      let Q : List ℕ → Type 0 = λ w. AreSame presentation (((front ++ x ∷ []) ++ u) ++ f) w in
      let all = subst Q (sym (append_assoc other (y ∷ []) v)) (subst P (sym (append_assoc front (x ∷ []) u)) whole) in
      by_both step.leads (kept 1 step.e (omega arith) step.irreducible step.differs)
      (leads_behind u v (front ++ x ∷ []) (other ++ y ∷ []) step.e f (over_later n x u over) (over_later n y v also)
      (over_append n front (x ∷ []) before alone) step.irreducible last step.differs all (kept_both front other x y u v kept))
  leads_behind (x ∷ u) [] front other d f over also before irreducible last differs whole kept =
      let n = presentation.n in
      let alone = over_front n (x ∷ []) u over in
      let step = stepped x (n + 1) (x ∷ []) [] front other d (letter_alone n x u over) (padding_empty n) alone differs in
      let P : List ℕ → Type 0 = λ w. AreSame presentation (w ++ f) (other ++ []) in
      let R : List ℕ → Type 0 = λ w. AreSame presentation ((front ++ x ∷ []) ++ step.e) w in
      by_first step.leads (kept 1 step.e (omega arith) step.irreducible step.differs)
      (leads_behind u [] (front ++ x ∷ []) other step.e f (over_later n x u over) also
      (over_append n front (x ∷ []) before alone) step.irreducible last (subst R (append-nil other) step.differs)
      (subst P (sym (append_assoc front (x ∷ []) u)) whole) (kept_first front other x u kept))
  leads_behind [] (y ∷ v) front other d f over also before irreducible last differs whole kept =
      let n = presentation.n in
      let step = stepped (n + 1) y [] (y ∷ []) front other d (padding_empty n) (letter_alone n y v also) (over_empty n) differs in
      let Q : List ℕ → Type 0 = λ w. AreSame presentation ((front ++ []) ++ f) w in
      let R : List ℕ → Type 0 = λ w. AreSame presentation (w ++ step.e) (other ++ y ∷ []) in
      by_second step.leads (kept 1 step.e (omega arith) step.irreducible step.differs)
      (leads_behind [] v front (other ++ y ∷ []) step.e f over (over_later n y v also) before step.irreducible last
      (subst R (append-nil front) step.differs)
      (subst Q (sym (append_assoc other (y ∷ []) v)) whole) (kept_second front other y v kept))

  -- words that differ by f, and whose differences are kept, lead from the empty word to f
  pub leads_where_kept : (u v f : List ℕ) → IsOver presentation.n u → IsOver presentation.n v → IsIrreducible (OneOf rules) f
      → AreSame presentation (u ++ f) v → AreKept [] [] u v → Leads (group_of presentation rules) words [] u v f
  leads_where_kept u v f over also last whole kept =
      let empty = empty_is_irreducible presentation.order rules is.complete.decreasing in
      leads_behind u v [] [] [] f over also (over_empty presentation.n) empty last (congruent_reflexive []) whole kept

  -- the differences of words are kept
  pub kept_of_differences : (u v : List ℕ) → IsOver presentation.n u → HaveDifferences (group_of presentation rules) words u v
      → AreKept [] [] u v
  kept_of_differences u v over have place e positive irreducible same =
      let n = presentation.n in
      let front : List ℕ = take place u in
      let inverse = inverse_of presentation rules is front (All-take (λ (x : ℕ). (0 < x) × (x ≤ n)) place u over) in
      let P : List ℕ → Type 0 = λ w. AreSame presentation w (inverse.0 ++ take place v) in
      let turned : AreSame presentation ((inverse.0 ++ front) ++ e) (inverse.0 ++ take place v) =
      subst P (sym (append_assoc inverse.0 front e)) (congruent_behind inverse.0 same) in
      let none = congruent_before e (inverse_before presentation rules is front inverse.0 inverse.1) in
      let differs : AreSame presentation e (inverse.0 ++ take place v) = congruent_transitive (congruent_symmetric none) turned in
      have place e positive (record {
        inverse = inverse.0;
        inverts = inverse.1;
        normal = normal_of_same presentation rules is (inverse.0 ++ take place v) e (congruent_symmetric differs) irreducible;
      })
