-- Words that lead from one difference to another are the same element, but for the two differences.
use Rattle.std.proofs.Common.{◌≡◌, ◌≢◌, ℕ, ◌+◌, ◌≤◌, List, [], ◌∷◌, ◌++◌, refl, sym, subst, append_assoc, arith}
use Rattle.std.proofs.lemmas.Bool.{eq-eqb, ne_eqb}
use Rattle.std.proofs.lemmas.List.{append-nil}
use Rattle.kb_word.specs.Words.{Pair}
use Rattle.kb_word.specs.Relations.{IsOver, relations_of}
use Rattle.kb_word.specs.Rewriting.{NormalForm}
use Rattle.kb_word.specs.declared.presentation.Presentation.{Presentation}
use Rattle.kb_word.proofs.PathLemmas.{congruent_covered, congruent_reflexive, congruent_symmetric, congruent_transitive}
use Rattle.kb_rules.proofs.Reducts.{normal_form_congruent}
use Rattle.kb_fsa.specs.Padding.{letters_of}
use Rattle.kb_fsa.specs.Language.{Automaton}
use Rattle.kb_diff.specs.Groups.{Group, group_of}
use Rattle.kb_diff.specs.Steps.{Leads, LeadsBy, at_end, by_both, by_first, by_second}
use Rattle.kb_diffwa.specs.Multipliers.{IsMultiplied}
use Rattle.kb_structure.specs.Labels.{Labelling}
use Rattle.kb_structure.proofs.Cancelling.{AreSame}
use Rattle.kb_structure.proofs.Letters.{over_first, over_later}
use Rattle.kb_structure.proofs.Words.{congruent_behind, congruent_before}
use Rattle.kb_labels.specs.Labels.{AreEqualSides, labelling_of}
use Rattle.kb_labels.proofs.Consequences.{front_cancels}

-- a letter counts as itself, and the padding as nothing
letter_alone : (n letter : ℕ) → letter ≤ n → letter ∷ [] ≡ letters_of n letter
letter_alone n letter within =
    let differ : letter ≢ n + 1 = λ same. omega (arith, same, within) in rw (ne_eqb letter (n + 1) differ) refl

no_letter : (n : ℕ) → [] ≡ letters_of n (n + 1)
no_letter n = rw (eq-eqb (n + 1) (n + 1) refl) refl

module _ (presentation : Presentation) (rules : List Pair) (words : List (List ℕ)) (x : ℕ) (multiplier : Automaton)
    (equal_sides : AreEqualSides (relations_of presentation.inv presentation.eqs) rules) where
  abbrev n : ℕ
  n = presentation.n

  abbrev group : Group
  group = group_of presentation rules

  abbrev labelling : Labelling
  labelling = labelling_of presentation x multiplier (λ state. [])

  -- a normal form is the same element
  same_as_normal : (w m : List ℕ) → NormalForm rules w m → AreSame labelling w m
  same_as_normal w m normal = congruent_covered equal_sides (normal_form_congruent normal)

  -- one more pair of letters, or of a letter and padding, which leads from d to e
  one_more : (d e : List ℕ) (a b : ℕ) (front back u v f : List ℕ) → front ≡ letters_of n a → back ≡ letters_of n b → LeadsBy group d a b e
      → AreSame labelling (u ++ f) (e ++ v) → AreSame labelling ((front ++ u) ++ f) (d ++ (back ++ v))
  one_more d e a b front back u v f is_front is_back leads later =
      let inverse : List ℕ = leads.inverse in
      let N : List ℕ → Type 0 = λ w. NormalForm rules (inverse ++ d ++ w) e in
      let here = same_as_normal (inverse ++ d ++ back) e (subst N (sym is_back) leads.normal) in
      let C : List ℕ → Type 0 = λ w. AreSame labelling (w ++ inverse) [] in
      let cancels = subst C (sym is_front) (front_cancels labelling n a inverse leads.inverts) in
      let whole : (front ++ u) ++ f ≡ front ++ (u ++ f) = append_assoc front u f in
      let regroup : front ++ ((inverse ++ d ++ back) ++ v) ≡ (front ++ inverse) ++ (d ++ (back ++ v)) = simp append_assoc in
      let P : List ℕ → Type 0 = λ w. AreSame labelling w (d ++ (back ++ v)) in
      let Q : List ℕ → Type 0 = λ w. AreSame labelling (front ++ (e ++ v)) w in
      let led : AreSame labelling (front ++ (e ++ v)) ((front ++ inverse) ++ (d ++ (back ++ v))) =
      subst Q regroup (congruent_behind front (congruent_before v (congruent_symmetric here))) in
      subst P (sym whole)
      (congruent_transitive (congruent_behind front later)
      (congruent_transitive led (congruent_before (d ++ (back ++ v)) cancels)))

  led_words : (u v : List ℕ) (d f : List ℕ) → IsOver n u → IsOver n v → Leads group words d u v f → AreSame labelling (u ++ f) (d ++ v)
  led_words [] [] d f over also at_end =
      let P : List ℕ → Type 0 = λ w. AreSame labelling d w in
      subst P (sym (append-nil d)) (congruent_reflexive d)
  led_words (a ∷ u) (b ∷ v) d f over also (by_both {e = e} leads kept rest) =
      one_more d e a b (a ∷ []) (b ∷ []) u v f (letter_alone n a (over_first n a u over).1) (letter_alone n b (over_first n b v also).1) leads
      (led_words u v e f (over_later n a u over) (over_later n b v also) rest)
  led_words (a ∷ u) [] d f over also (by_first {e = e} leads kept rest) =
      one_more d e a (n + 1) (a ∷ []) [] u [] f (letter_alone n a (over_first n a u over).1) (no_letter n) leads
      (led_words u [] e f (over_later n a u over) also rest)
  led_words [] (b ∷ v) d f over also (by_second {e = e} leads kept rest) =
      one_more d e (n + 1) b [] (b ∷ []) [] v f (no_letter n) (letter_alone n b (over_first n b v also).1) leads
      (led_words [] v e f over (over_later n b v also) rest)

  -- the words of a pair of the multiplier differ by its generator
  pub multiplied_words : (acceptor : Automaton) (u v : List ℕ) → IsOver n u → IsOver n v → IsMultiplied group words acceptor x u v
      → AreSame labelling (u ++ x ∷ []) v
  multiplied_words acceptor u v over also pair =
      congruent_transitive (congruent_behind u (same_as_normal (x ∷ []) pair.end pair.normal))
      (led_words u v [] pair.end over also pair.leads)
