-- The image of an accepted word under a generator is the least second word beside it.
use Rattle.std.proofs.Common.{◌≡◌, ◌↔◌, ℕ, suc, ◌+◌, ◌<◌, ◌≤◌, List, [], ◌∷◌, length, get_or, drop, drop-cons, Some, refl, sym, ap, ◌∙◌, subst, add-one}
use Rattle.std.proofs.lemmas.Option.{slice_get_read}
use Rattle.kb_word.specs.Words.{Pair as Sides}
use Rattle.kb_word.specs.Relations.{IsOver}
use Rattle.kb_word.specs.declared.word_order.WordOrder.{WordOrder}
use Rattle.kb_word.specs.declared.word_order.WordOrder.TheVariants.{ShortLex}
use Rattle.kb_fsa.specs.declared.alphabet.Alphabet.TheVariants.{Pair}
use Rattle.kb_fsa.specs.Language.{Automaton, IsAutomaton, Accepts, generators}
use Rattle.kb_leastpair.specs.LeastPair.{IsAccepted, IsLeastWord}
use Rattle.kb_structure.specs.Structure.{Structure, Follows, Multiplies, Accepts as IsInStructure}
use Rattle.kb_structure.specs.StructureOf.{multiplier_of, structure_of, OfAutomata}
use Rattle.kb_structure.proofs.OfAutomata.{accepts_word, multiplied_pair, pair_multiplied}
use Rattle.kb_relations.specs.Images.{CanBeFollowed}
use Rattle.kb_relations.specs.Progress.{AreFollowedTo}
use Rattle.kb_relations.proofs.UniqueImages.{image_accepted}

-- the multiplier at a place is that of the next number
pub multiplier_at : (multipliers : List Automaton) (place x : ℕ) (multiplier : Automaton) → place + 1 ≡ x → place < length multipliers
    → multiplier ≡ get_or multipliers place multiplier → multiplier_of multipliers x ≡ Some multiplier
multiplier_at multipliers place x multiplier next within is =
    ap (multiplier_of multipliers) (sym next ∙ add-one place)
    ∙ slice_get_read multipliers (length multipliers) place multiplier refl within is

module _ (acceptor : Automaton) (multipliers : List Automaton) (followed : CanBeFollowed acceptor multipliers) (is : IsAutomaton acceptor) where
  abbrev n : ℕ
  n = generators acceptor.alphabet

  means : (order : WordOrder) (relations : List Sides) (w : List ℕ) → IsInStructure (structure_of order relations acceptor multipliers) w ↔ Accepts acceptor w
  means order relations = accepts_word order relations acceptor multipliers followed.fit.words is

  word_over : (word : List ℕ) → Accepts acceptor word → IsOver n word
  word_over word accepts = ((means ShortLex [] word).1 accepts).letters

  module _ (x : ℕ) (letter : (0 < x) × (x ≤ n)) (multiplier : Automaton) (at : multiplier_of multipliers x ≡ Some multiplier) where
    pub reads_pairs : (k : ℕ) × (multiplier.alphabet ≡ Pair k)
    reads_pairs = (n, followed.fit.pairs x multiplier at)

    same_generators : generators multiplier.alphabet ≡ n
    same_generators = ap generators (followed.fit.pairs x multiplier at)

    pub first_over : (word : List ℕ) → Accepts acceptor word → IsOver (generators multiplier.alphabet) word
    first_over word accepts = let P : ℕ → Type 0 = λ k. IsOver k word in subst P (sym same_generators) (word_over word accepts)

    pub has_image : (word : List ℕ) → Accepts acceptor word → ¬ ((second : List ℕ) → ¬ IsAccepted multiplier word second)
    has_image word accepts none =
        let image = (followed.unique_images ShortLex []).images x word letter ((means ShortLex [] word).1 accepts) in
        let Over : List ℕ → ℕ → Type 0 = λ w k. IsOver k w in
        none image.0 (record {
          first_over = first_over word accepts;
          second_over = subst (Over image.0) (sym same_generators) image.1.second_letters;
          accepted = multiplied_pair ShortLex [] acceptor multipliers x multiplier at word image.0 image.1;
        })

    pub is_image : (word image : List ℕ) → IsLeastWord (IsAccepted multiplier word) image
        → OfAutomata acceptor multipliers (λ structure. Multiplies structure x word image)
    is_image word image least order relations =
        let pair = least.holds in
        let Over : List ℕ → ℕ → Type 0 = λ w k. IsOver k w in
        pair_multiplied order relations acceptor multipliers x multiplier at word image
        (subst (Over word) same_generators pair.first_over) (subst (Over image) same_generators pair.second_over) pair.accepted

module _ (acceptor : Automaton) (multipliers : List Automaton) (followed : CanBeFollowed acceptor multipliers) where
  pub none_followed : (letters from : List ℕ) → Accepts acceptor from → AreFollowedTo acceptor multipliers letters from 0 from
  none_followed letters from accepts = record { accepted = accepts; whole = λ order relations v follows. follows }

  pub one_more : (letters from : List ℕ) (place letter : ℕ) (end next : List ℕ) → place < length letters
      → letter ≡ get_or letters place letter → (0 < letter) × (letter ≤ generators acceptor.alphabet)
      → AreFollowedTo acceptor multipliers letters from place end
      → OfAutomata acceptor multipliers (λ structure. Multiplies structure letter end next)
      → AreFollowedTo acceptor multipliers letters from (place + 1) next
  one_more letters from place letter end next within is_letter generator before multiplies = record {
    accepted =
        (image_accepted (structure_of ShortLex [] acceptor multipliers) (followed.unique_images ShortLex []) letter end next generator (multiplies ShortLex [])).accepted;
    whole = λ order relations v follows.
        let structure : Structure = structure_of order relations acceptor multipliers in
        let P : List ℕ → Type 0 = λ rest. Follows structure rest end v in
        let here : drop place letters ≡ letter ∷ drop (place + 1) letters =
        drop-cons letters place letter within ∙ ap (λ y. y ∷ drop (suc place) letters) (sym is_letter)
        ∙ ap (λ k. letter ∷ drop k letters) (sym (add-one place)) in
        before.whole order relations v (subst P (sym here) (next, (multiplies order relations, follows)));
  }

  pub all_followed : (letters from : List ℕ) (place : ℕ) (end : List ℕ) → drop place letters ≡ []
      → AreFollowedTo acceptor multipliers letters from place end
      → OfAutomata acceptor multipliers (λ structure. Follows structure letters from end)
  all_followed letters from place end none followed_to order relations =
      let structure : Structure = structure_of order relations acceptor multipliers in
      let P : List ℕ → Type 0 = λ rest. Follows structure rest end end in
      followed_to.whole order relations end (subst P (sym none) refl)
