-- Composites along a word: following in the automata is following in the structure, and a word has one composite.
use Rattle.std.proofs.Common.{◌≡◌, ◌≢◌, ℕ, zero, suc, ◌<◌, IsTrue, List, [], ◌∷◌, length, get_or, Option, Some, None, refl, sym, ap, ◌∙◌, subst, arith}
use Rattle.std.proofs.lemmas.Bool.{true≢false}
use Rattle.std.proofs.lemmas.List.{get_or_default}
use Rattle.std.proofs.lemmas.Option.{slice_get_read}
use Rattle.kb_word.specs.Words.{Pair as Sides}
use Rattle.kb_word.specs.Relations.{IsOver}
use Rattle.kb_word.specs.declared.word_order.WordOrder.{WordOrder}
use Rattle.kb_fsa.specs.declared.alphabet.Alphabet.{Alphabet}
use Rattle.kb_fsa.specs.declared.alphabet.Alphabet.TheVariants.{Pair}
use Rattle.kb_fsa.specs.Table.{state_after}
use Rattle.kb_fsa.specs.Padding.{padded}
use Rattle.kb_fsa.specs.Language.{Automaton, IsTextOf, AcceptsText, SameLanguage, generators}
use Rattle.kb_fsa.specs.Counted.{CountedOr}
use Rattle.kb_fsa.proofs.Lookups.{accepting_positive}
use Rattle.kb_fsamin.proofs.Uniqueness.{one_canonical}
use Rattle.kb_structure.specs.Structure.{Structure, Follows, Multiplies}
use Rattle.kb_structure.specs.StructureOf.{FitTogether, accepts_pair, multiplier_of, structure_of}
use Rattle.kb_structure.proofs.OfAutomata.{multiplied_pair, pair_multiplied}
use Rattle.kb_compose.specs.Along.{CountedAlong, identity_on, Follows as IsFollowed, Multiplies as IsMultiplied}
use Rattle.kb_explore.specs.Exploration.{numbered}
use Rattle.kb_relations.specs.Composites.{IsCompositeAlong, CountedRelation}
use Rattle.kb_relations.specs.Composites.CountedRelation.{along_left, along_right, compared}

-- the multiplier of a letter is the one of its number
same_multiplier : (multipliers : List Automaton) (x : ℕ) → numbered multipliers x ≡ multiplier_of multipliers x
same_multiplier multipliers zero = refl
same_multiplier multipliers (suc place) = refl

module _ (order : WordOrder) (relations : List Sides) (acceptor : Automaton) (multipliers : List Automaton) where
  abbrev n : ℕ
  n = generators acceptor.alphabet

  abbrev structure : Structure
  structure = structure_of order relations acceptor multipliers

  pub in_structure : (word u v : List ℕ) → IsOver n u → IsFollowed n multipliers word u v → Follows structure word u v
  in_structure [] u v over same = same
  in_structure (x ∷ word) u v over follows =
      let step = follows.1.0 in
      let at = sym (same_multiplier multipliers x) ∙ step.is_its in (
        follows.0,
        (
          pair_multiplied order relations acceptor multipliers x step.multiplier at u follows.0 over step.second_over step.accepted,
          in_structure word follows.0 v step.second_over follows.1.1,
        ),
      )

  -- a letter by which words are multiplied has a multiplier
  by_multiplier : (x : ℕ) (u v : List ℕ) → Multiplies structure x u v → IsMultiplied n multipliers x u v
  by_multiplier x u v multiplies = on (multiplier_of multipliers x) refl
    where
      on : (found : Option Automaton) → multiplier_of multipliers x ≡ found → IsMultiplied n multipliers x u v
      on None is =
          let P : Option Automaton → Type 0 = λ one. IsTrue (accepts_pair one u v) in
          absurd (true≢false (sym (subst P is multiplies.accepted)))
      on (Some multiplier) is = record {
        multiplier = multiplier;
        is_its = same_multiplier multipliers x ∙ is;
        second_over = multiplies.second_letters;
        accepted = multiplied_pair order relations acceptor multipliers x multiplier is u v multiplies;
      }

  pub in_automata : (word u v : List ℕ) → Follows structure word u v → IsFollowed n multipliers word u v
  in_automata [] u v same = same
  in_automata (x ∷ word) u v follows =
      (follows.0, (by_multiplier x u follows.0 follows.1.0, in_automata word follows.0 v follows.1.1))

module _ (acceptor : Automaton) (multipliers : List Automaton) (word : List ℕ) (one other : Automaton)
    (first : IsCompositeAlong acceptor multipliers word one) (second : IsCompositeAlong acceptor multipliers word other) where
  -- what the one accepts the other one does
  accepts_too : (a b : Automaton) → IsCompositeAlong acceptor multipliers word a → IsCompositeAlong acceptor multipliers word b
      → (text : List ℕ) → AcceptsText a text → AcceptsText b text
  accepts_too a b in_a in_b text accepts =
      let n = generators acceptor.alphabet in
      let T : Alphabet → Type 0 = λ alphabet. IsTextOf alphabet text in
      let positive = accepting_positive a.table (state_after a.table text) accepts in
      let parts = subst T in_a.alphabet (in_a.automaton.texts text (λ none. omega arith)) in
      let u = parts.first in let v = parts.second in
      let P : List ℕ → Type 0 = AcceptsText a in
      let Q : List ℕ → Type 0 = AcceptsText b in
      let A : ℕ → Type 0 = λ k. AcceptsText a (padded k u v) in
      let B : ℕ → Type 0 = λ k. AcceptsText b (padded k u v) in
      let pair = subst A (sym (ap generators in_a.alphabet)) (subst P parts.is_text accepts) in
      let both = (in_a.language u v parts.first_over parts.second_over).0 pair in
      subst Q (sym parts.is_text) (subst B (ap generators in_b.alphabet) ((in_b.language u v parts.first_over parts.second_over).1 both))

  same_language : SameLanguage one other
  same_language text = (accepts_too one other first second text, accepts_too other one second first text)

  pub one_composite : one ≡ other
  one_composite = on word refl
    where
      on : (w : List ℕ) → word ≡ w → one ≡ other
      on [] is = first.identity is ∙ sym (second.identity is)
      on (x ∷ w) is =
          let some : word ≢ [] = λ none. cc in
          one_canonical one other first.automaton second.automaton (first.alphabet ∙ sym second.alphabet)
          (first.canonical some) (second.canonical some) same_language

-- the multipliers read pairs of words over as many generators as there are multipliers
pub read_pairs : (acceptor : Automaton) (multipliers : List Automaton) → FitTogether acceptor multipliers
    → (k : ℕ) (d : Automaton) → k < length multipliers → (get_or multipliers k d).alphabet ≡ Pair (length multipliers)
read_pairs acceptor multipliers fit k d within =
    let multiplier = get_or multipliers k d in
    let at = slice_get_read multipliers (length multipliers) k multiplier refl within (get_or_default multipliers k d multiplier within) in
    fit.pairs (suc k) multiplier at ∙ ap Pair (sym fit.one_each)

-- a relation isn't counted above the limit where neither of the composites is, nor their comparison
pub few_counted : (acceptor : Automaton) (multipliers : List Automaton) (relation : Sides) (limit : ℕ) (left right : Automaton)
    → IsCompositeAlong acceptor multipliers relation.0 left → IsCompositeAlong acceptor multipliers relation.1 right
    → ¬ CountedAlong multipliers limit (identity_on acceptor) relation.0 → ¬ CountedAlong multipliers limit (identity_on acceptor) relation.1
    → ¬ CountedOr left.table right.table limit → ¬ CountedRelation acceptor multipliers relation limit
few_counted acceptor multipliers relation limit left right is_left is_right few few_right few_compared (along_left counted) = few counted
few_counted acceptor multipliers relation limit left right is_left is_right few few_right few_compared (along_right counted) = few_right counted
few_counted acceptor multipliers relation limit left right is_left is_right few few_right few_compared (compared one two is_one is_two counted) =
    let P : Automaton → Automaton → Type 0 = λ a b. CountedOr a.table b.table limit in
    few_compared (subst (λ (a : Automaton). P a right) (one_composite acceptor multipliers relation.0 one left is_one is_left)
    (subst (P one) (one_composite acceptor multipliers relation.1 two right is_two is_right) counted))
