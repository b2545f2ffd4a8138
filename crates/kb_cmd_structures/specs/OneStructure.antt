-- A group has one canonical automatic structure.
use Rattle.std.proofs.Common.{◌≡◌, ◌∙◌, ℕ, suc, ◌<◌, ◌≤◌, IsTrue, List, All, Some, length, get_or, refl, sym, ap, subst, arith}
use Rattle.std.proofs.lemmas.List.{ext_get_or}
use Rattle.std.proofs.lemmas.List.Elements.{All-get_or}
use Rattle.std.proofs.lemmas.Option.{slice_get-get_or}
use Rattle.kb_word.specs.Words.{Pair as Sides}
use Rattle.kb_word.specs.WordOrders.{Below}
use Rattle.kb_word.specs.Congruence.{Congruent, IsLeast}
use Rattle.kb_word.specs.Words.{OneOf}
use Rattle.kb_word.specs.Presentations.{PresentationParts, parts_of}
use Rattle.kb_word.specs.Relations.{IsOver, relations_of}
use Rattle.kb_word.specs.declared.word_order.WordOrder.TheVariants.{ShortLex}
use Rattle.kb_fsa.specs.declared.alphabet.Alphabet.{Alphabet}
use Rattle.kb_fsa.specs.declared.alphabet.Alphabet.TheVariants.{Plain, Pair}
use Rattle.kb_fsa.specs.Canonical.{IsCanonical}
use Rattle.kb_fsa.specs.Language.{AcceptsText, Automaton, IsAutomaton, IsTextOf, generators}
use Rattle.kb_fsa.specs.Padding.{IsPadded, padded}
use Rattle.kb_fsa.specs.Table.{state_after}
use Rattle.kb_fsa.proofs.Lookups.{accepting_positive}
use Rattle.kb_fsamin.proofs.Uniqueness.{one_canonical}
use Rattle.kb_structure.specs.Structure.{IsAutomaticStructure, IsProduct, IsRepresentative}
use Rattle.kb_structure.specs.StructureOf.{multiplier_of, structure_of}
use Rattle.kb_structure.proofs.OfAutomata.{accepts_word, multiplied_pair, pair_multiplied}
use Rattle.kb_axioms.specs.Truth.{AreMultipliers}
use Rattle.kb_cmd_structures.specs.Made.{AreMade, structure_texts}
use Rattle.kb_task.specs.Stores.{Text}

-- the automata are the canonical automatic structure of the group with these relations
record AreCanonical (n : ℕ) (relations : List Sides) (acceptor : Automaton)
    (multipliers : List Automaton) : Type 0 where
  words : acceptor.alphabet ≡ Plain n
  pairs : AreMultipliers n multipliers
  own : IsAutomaticStructure (structure_of ShortLex relations acceptor multipliers)
  acceptor_is : IsAutomaton acceptor
  multipliers_are : All IsAutomaton multipliers
  acceptor_is_canonical : IsCanonical acceptor.table
  multipliers_are_canonical : All (λ multiplier. IsCanonical multiplier.table) multipliers

module _ {n : ℕ} {relations : List Sides} where
  -- ---- what two such structures accept

  module _ {acceptor second : Automaton} {multipliers more : List Automaton}
      (one : AreCanonical n relations acceptor multipliers)
      (other : AreCanonical n relations second more) where
    letters_kept : (w : List ℕ) → IsOver (generators acceptor.alphabet) w
        → IsOver (generators second.alphabet) w
    letters_kept w over =
        let Over : ℕ → Type 0 = λ k. IsOver k w in
        subst Over (ap generators one.words ∙ sym (ap generators other.words)) over

    -- a representative by the one is a representative by the other
    representative_kept : (w : List ℕ)
        → IsRepresentative (structure_of ShortLex relations acceptor multipliers) w
        → IsRepresentative (structure_of ShortLex relations second more) w
    representative_kept w is = record { letters = letters_kept w is.letters; least = is.least }

    product_kept : (x : ℕ) (u v : List ℕ)
        → IsProduct (structure_of ShortLex relations acceptor multipliers) x u v
        → IsProduct (structure_of ShortLex relations second more) x u v
    product_kept x u v is = record {
      first = representative_kept u is.first;
      second = representative_kept v is.second;
      equal = is.equal;
    }

    -- a word that the one accepts is accepted by the other
    word_kept : (w : List ℕ) → AcceptsText acceptor w → AcceptsText second w
    word_kept w accepts =
        let here = accepts_word ShortLex relations acceptor multipliers
        (one.words ∙ sym (ap (λ k. Plain k) (ap generators one.words))) one.acceptor_is w in
        let there = accepts_word ShortLex relations second more
        (other.words ∙ sym (ap (λ k. Plain k) (ap generators other.words))) other.acceptor_is w in
        there.0 ((other.own.acceptor w).1 (representative_kept w
        ((one.own.acceptor w).0 (here.1 accepts))))

    -- and so is a pair that the multiplier of a generator accepts
    module _ (place : ℕ) (within : place < n) (multiplier multiplies : Automaton)
        (here : multiplier_of multipliers (suc place) ≡ Some multiplier)
        (there : multiplier_of more (suc place) ≡ Some multiplies)
        (is : IsAutomaton multiplier) where
      pair_kept : (text : List ℕ) → AcceptsText multiplier text → AcceptsText multiplies text
      pair_kept text accepts =
          let n_is : generators acceptor.alphabet ≡ n = ap generators one.words in
          let m_is : generators second.alphabet ≡ n = ap generators other.words in
          let pair : multiplier.alphabet ≡ Pair n = one.pairs.pairs (suc place) multiplier here in
          let also : multiplies.alphabet ≡ Pair n = other.pairs.pairs (suc place) multiplies there in
          let positive =
          accepting_positive multiplier.table (state_after multiplier.table text) accepts in
          let Of : Alphabet → Type 0 = λ alphabet. IsTextOf alphabet text in
          let is_padded : IsPadded n text = subst Of pair (is.texts text (λ none. omega arith)) in
          let u = is_padded.first in
          let v = is_padded.second in
          let Over : List ℕ → ℕ → Type 0 = λ w k. IsOver k w in
          let At : ℕ → Type 0 = λ k. AcceptsText multiplier (padded k u v) in
          let Text : List ℕ → Type 0 = λ w. AcceptsText multiplier w in
          let read : AcceptsText multiplier (padded (generators multiplier.alphabet) u v) =
          subst At (sym (ap generators pair)) (subst Text is_padded.is_text accepts) in
          let multiplied = pair_multiplied ShortLex relations acceptor multipliers (suc place)
          multiplier here u v (subst (Over u) (sym n_is) is_padded.first_over)
          (subst (Over v) (sym n_is) is_padded.second_over) read in
          let product = (one.own.multipliers (suc place) (omega arith, omega (arith, n_is, within))
          u v).0 multiplied in
          let again = (other.own.multipliers (suc place) (omega arith, omega (arith, m_is, within))
          u v).1 (product_kept (suc place) u v product) in
          let accepted = multiplied_pair ShortLex relations second more (suc place)
          multiplies there u v again in
          let Also : ℕ → Type 0 = λ k. AcceptsText multiplies (padded k u v) in
          let Other : List ℕ → Type 0 = λ w. AcceptsText multiplies w in
          subst Other (sym is_padded.is_text) (subst Also (ap generators also) accepted)

  -- ---- they are one

  module _ {acceptor second : Automaton} {multipliers more : List Automaton}
      (one : AreCanonical n relations acceptor multipliers)
      (other : AreCanonical n relations second more) where
    one_acceptor : acceptor ≡ second
    one_acceptor =
        one_canonical acceptor second one.acceptor_is other.acceptor_is
        (one.words ∙ sym other.words) one.acceptor_is_canonical other.acceptor_is_canonical
        (λ w. (word_kept one other w, word_kept other one w))

    one_multiplier : (place : ℕ) → place < length multipliers
        → get_or multipliers place acceptor ≡ get_or more place acceptor
    one_multiplier place within =
        let many = one.pairs.one_each in
        let also_many = other.pairs.one_each in
        let first = get_or multipliers place acceptor in
        let last = get_or more place acceptor in
        let below : place < length more = omega arith in
        let low : place < n = omega arith in
        let here = slice_get-get_or multipliers place acceptor within in
        let there = slice_get-get_or more place acceptor below in
        let is = All-get_or IsAutomaton multipliers place acceptor within one.multipliers_are in
        let also = All-get_or IsAutomaton more place acceptor below other.multipliers_are in
        let Canonical : Automaton → Type 0 = λ multiplier. IsCanonical multiplier.table in
        one_canonical first last is also
        (one.pairs.pairs (suc place) first here ∙ sym (other.pairs.pairs (suc place) last there))
        (All-get_or Canonical multipliers place acceptor within one.multipliers_are_canonical)
        (All-get_or Canonical more place acceptor below other.multipliers_are_canonical)
        (λ text. (
          pair_kept one other place low first last here there is text,
          pair_kept other one place low last first there here also text,
        ))

    one_list : multipliers ≡ more
    one_list =
        ext_get_or acceptor multipliers more (one.pairs.one_each ∙ sym other.pairs.one_each)
        one_multiplier

module _ {file : List ℕ} {parts : PresentationParts} where
  -- what was made is the canonical automatic structure of the group
  are_canonical : {texts : List Text} (made : AreMade file parts texts)
      → AreCanonical (length parts.names) (relations_of parts.inverses parts.equations)
      made.acceptor made.multipliers
  are_canonical made =
      let presentation = made.presentation in
      let n : presentation.n ≡ length parts.names =
      sym presentation.is_presentation.one_name_each
      ∙ ap (λ (p : PresentationParts). length p.names) made.presented in
      let relations : relations_of presentation.inv presentation.eqs
      ≡ relations_of parts.inverses parts.equations =
      ap (λ (p : PresentationParts). relations_of p.inverses p.equations) made.presented in
      let Own : List Sides → Type 0 = λ r.
      IsAutomaticStructure (structure_of ShortLex r made.acceptor made.multipliers) in
      let Many : ℕ → Type 0 = λ k. AreMultipliers k made.multipliers in
      record {
        words = made.own.words ∙ ap (λ k. Plain k) n;
        pairs = subst Many n made.own.pairs;
        own = subst Own relations made.own.own;
        acceptor_is = made.acceptor_is;
        multipliers_are = made.multipliers_are;
        acceptor_is_canonical = made.own.acceptor_is_canonical;
        multipliers_are_canonical = made.own.multipliers_are_canonical;
      }

  -- a group has one list of files of its automatic structure
  pub one_made : (texts others : List Text) → AreMade file parts texts
      → AreMade file parts others → texts ≡ others
  one_made texts others made again =
      let one = are_canonical made in
      let other = are_canonical again in
      made.are
      ∙ (ap (λ (a : Automaton). structure_texts file parts.names a made.multipliers)
      (one_acceptor one other)
      ∙ (ap (λ (list : List Automaton). structure_texts file parts.names again.acceptor list)
      (one_list one other) ∙ sym again.are))
