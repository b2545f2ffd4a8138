-- Words as elements of a group whose rules are a reduced complete system.
use Rattle.std.proofs.Common.{◌≡◌, ◌↔◌, ℕ, false, List, [], ◌++◌, append_assoc, Option, Some, None, refl, sym, subst, inl, inr}
use Rattle.std.proofs.lemmas.List.{append-nil}
use Rattle.kb_word.specs.Words.{Pair, OneOf}
use Rattle.kb_word.specs.WordOrders.{Below}
use Rattle.kb_word.specs.WordOrderLaws.{word_orders}
use Rattle.kb_word.specs.Relations.{IsOver, inverse_word, relations_of}
use Rattle.kb_word.specs.Congruence.{Congruent}
use Rattle.kb_word.specs.Rewriting.{IsIrreducible, NormalForm}
use Rattle.kb_word.specs.declared.presentation.Presentation.{Presentation}
use Rattle.kb_word.proofs.PathLemmas.{congruent_covered, congruent_symmetric, congruent_transitive}
use Rattle.kb_rules.proofs.Exists.{normal_form_exists}
use Rattle.kb_rules.proofs.Reducts.{normal_form_congruent}
use Rattle.kb_fsa.specs.declared.alphabet.Alphabet.TheVariants.{Pair as Pairs}
use Rattle.kb_diff.specs.Groups.{EachInverts}
use Rattle.kb_diff.proofs.GroupLemmas.{has_inverse}
use Rattle.kb_reduced.specs.Reduced.{IsCompleteSystem, IsLeastWord}
use Rattle.kb_structure.specs.Structure.{Structure}
use Rattle.kb_structure.specs.Labels.{Labelling, IsGroup}
use Rattle.kb_structure.proofs.Words.{congruent_behind, equal_over}
use Rattle.kb_structure.proofs.Cancelling as cancelling

-- the relations of the group that is presented
abbrev pub relations : Presentation → List Pair
relations presentation = relations_of presentation.inv presentation.eqs

-- the words are the same element
abbrev pub AreSame : Presentation → List ℕ → List ℕ → Type 0
AreSame presentation = Congruent (OneOf (relations presentation))

-- The rules are a complete system of the group, and exactly the least words are irreducible by them.
pub record IsCompleteGroup (presentation : Presentation) (rules : List Pair) : Type 0 where
  pub each : EachInverts presentation.n presentation.inv
  pub over : (relation : Pair) → OneOf (relations presentation) relation
      → IsOver presentation.n relation.0 × IsOver presentation.n relation.1
  pub complete : IsCompleteSystem (Below presentation.order) (relations presentation) rules
  pub least : (w : List ℕ) → IsIrreducible (OneOf rules) w ↔ IsLeastWord (Below presentation.order) (relations presentation) w

some_word : (found : Option (List ℕ)) → (found ≡ None → ⊥) → (word : List ℕ) × (found ≡ Some word)
some_word None none = absurd (none refl)
some_word (Some word) none = (word, refl)

module _ (presentation : Presentation) (rules : List Pair) (is : IsCompleteGroup presentation rules) where
  -- a labelling by which words cancel
  abbrev labelling : Labelling
  labelling = record {
    inverses = presentation.inv;
    equations = presentation.eqs;
    x = 0;
    multiplier = record { alphabet = Pairs presentation.n; table = record { initial = 0; rows = []; accepting = [] } };
    label = λ state. [];
  }

  is_group : IsGroup labelling
  is_group = let given = presentation.is_presentation in record { each = is.each; mutual_inverses = given.mutual_inverses }

  -- a structure over the generators
  abbrev structure : Structure
  structure = record {
    n = presentation.n;
    order = presentation.order;
    relations = relations presentation;
    acceptor = λ w. false;
    multiplier = λ x u v. false;
  }

  -- what is the same element as a word over the generators is over them too
  pub same_over : (w other : List ℕ) → AreSame presentation w other → IsOver presentation.n w → IsOver presentation.n other
  same_over w other same over = equal_over structure is.over w other same over

  -- words that are the same behind a word are the same
  pub cancel_front : (u z other : List ℕ) → IsOver presentation.n u → AreSame presentation (u ++ z) (u ++ other)
      → AreSame presentation z other
  cancel_front u z other over same = cancelling.cancel_left labelling is_group u z other over same

  -- a word over the generators has an inverse
  pub inverse_of : (w : List ℕ) → IsOver presentation.n w → (inverse : List ℕ) × (inverse_word presentation.inv w ≡ Some inverse)
  inverse_of w over =
      some_word (inverse_word presentation.inv w) (has_inverse presentation.n presentation.inv w is.each over)

  -- with which it cancels
  pub inverse_before : (w inverse : List ℕ) → inverse_word presentation.inv w ≡ Some inverse → AreSame presentation (inverse ++ w) []
  inverse_before w inverse inverts = cancelling.inverse_cancels labelling is_group w inverse inverts

  -- on both sides
  pub inverse_behind : (w inverse : List ℕ) → IsOver presentation.n w → inverse_word presentation.inv w ≡ Some inverse
      → AreSame presentation (w ++ inverse) []
  inverse_behind w inverse over inverts =
      let P : List ℕ → Type 0 = λ z. AreSame presentation z ([] ++ w) in
      let Q : List ℕ → Type 0 = λ z. AreSame presentation (w ++ (inverse ++ w)) z in
      let back : AreSame presentation (w ++ (inverse ++ w)) w =
      subst Q (append-nil w) (congruent_behind w (inverse_before w inverse inverts)) in
      cancelling.cancel_right labelling is_group w (w ++ inverse) [] over (subst P (sym (append_assoc w inverse w)) back)

  -- ---- normal forms

  -- a normal form is the same element
  pub same_as_normal : (w m : List ℕ) → NormalForm rules w m → AreSame presentation w m
  same_as_normal w m normal = congruent_covered is.complete.same.covers (normal_form_congruent normal)

  pub has_normal : (w : List ℕ) → (m : List ℕ) × NormalForm rules w m
  has_normal w = normal_form_exists (word_orders presentation.order) rules is.complete.decreasing w

  pub least_of_irreducible : (w : List ℕ) → IsIrreducible (OneOf rules) w
      → IsLeastWord (Below presentation.order) (relations presentation) w
  least_of_irreducible w irreducible = let both = is.least w in both.0 irreducible

  pub irreducible_of_least : (w : List ℕ) → IsLeastWord (Below presentation.order) (relations presentation) w
      → IsIrreducible (OneOf rules) w
  irreducible_of_least w least = let both = is.least w in both.1 least

  -- irreducible words that are the same element are equal
  pub one_irreducible : (u v : List ℕ) → AreSame presentation u v → IsIrreducible (OneOf rules) u → IsIrreducible (OneOf rules) v
      → u ≡ v
  one_irreducible u v same first second =
      let order = word_orders presentation.order in
      let one = least_of_irreducible u first in
      let other = least_of_irreducible v second in
      elim (order.total u v) [
        | inl equal ↦ equal
        | inr apart ↦ elim apart [
          | inl lower ↦ absurd (other.least u (congruent_symmetric same) lower)
          | inr greater ↦ absurd (one.least v same greater)
        ]
      ]

  -- an irreducible word is the normal form of each word that is the same element
  pub normal_of_same : (w m : List ℕ) → AreSame presentation w m → IsIrreducible (OneOf rules) m → NormalForm rules w m
  normal_of_same w m same irreducible =
      let normal = has_normal w in
      let between = congruent_transitive (congruent_symmetric (same_as_normal w normal.0 normal.1)) same in
      let P : List ℕ → Type 0 = λ v. NormalForm rules w v in
      subst P (one_irreducible normal.0 m between normal.1.irreducible irreducible) normal.1
