-- The words from which two words lead apart are the first words of the difference of the composites along them.
use Rattle.std.proofs.Common.{◌≡◌, ◌↔◌, ℕ, IfSome, IfNone, List, Option, Some, None, sym, ap, ◌∙◌, subst, inl, inr}
use Rattle.kb_word.specs.Words.{Pair as Sides}
use Rattle.kb_word.specs.Relations.{IsOver}
use Rattle.kb_word.specs.declared.word_order.WordOrder.{WordOrder}
use Rattle.kb_fsa.specs.Table.{is_accepting, state_after}
use Rattle.kb_fsa.specs.Padding.{padded}
use Rattle.kb_fsa.specs.Language.{Automaton, IsAutomaton, AcceptsText, generators}
use Rattle.kb_fsabool.specs.Answers.{IsInOne, IsSymmetricDifference}
use Rattle.kb_fsadet.specs.Projection.{HasSecond}
use Rattle.kb_leastpair.specs.LeastPair.{IsLeastWord}
use Rattle.kb_structure.specs.Structure.{Structure, Accepts, Follows}
use Rattle.kb_structure.specs.StructureOf.{structure_of, OfAutomata}
use Rattle.kb_structure.specs.Axioms.{ActAlike}
use Rattle.kb_structure.proofs.OfAutomata.{accepts_word}
use Rattle.kb_relations.specs.Images.{CanBeFollowed, HasUniqueImages}
use Rattle.kb_relations.specs.Composites.{IsCompositeAlong}
use Rattle.kb_relations.specs.Acts.{LeadApart}
use Rattle.kb_relations.proofs.Composites.{in_structure, in_automata}
use Rattle.kb_relations.proofs.UniqueImages.{decided, leads_inside, leads_somewhere, leads_to_one}

module _ (order : WordOrder) (relations : List Sides) (acceptor : Automaton) (multipliers : List Automaton)
    (followed : CanBeFollowed acceptor multipliers) (is : IsAutomaton acceptor) where
  abbrev n : ℕ
  n = generators acceptor.alphabet

  abbrev structure : Structure
  structure = structure_of order relations acceptor multipliers

  abbrev unique : HasUniqueImages structure
  unique = followed.unique_images order relations

  means : (w : List ℕ) → Accepts structure w ↔ AcceptsText acceptor w
  means = accepts_word order relations acceptor multipliers followed.fit.words is

  -- the composite along a word has the pairs of accepted words that it leads to
  along_accepts : (word : List ℕ) (composite : Automaton) → IsCompositeAlong acceptor multipliers word composite → (u v : List ℕ)
      → IsOver n u → IsOver n v
      → AcceptsText composite (padded n u v) ↔ (Accepts structure u × Follows structure word u v)
  along_accepts word composite along u v first second =
      let same : generators composite.alphabet ≡ n = ap generators along.alphabet in
      let P : ℕ → Type 0 = λ k. AcceptsText composite (padded k u v) in
      let pairs = along.language u v first second in (
        λ accepts.
            let both = pairs.0 (subst P (sym same) accepts) in
            ((means u).1 both.0, in_structure order relations acceptor multipliers word u v first both.1),
        λ both. subst P same (pairs.1 ((means u).0 both.0, in_automata order relations acceptor multipliers word u v both.1)),
      )

  module _ (left right : List ℕ) (left_over : IsOver n left) (right_over : IsOver n right) (one two difference : Automaton)
      (along_left : IsCompositeAlong acceptor multipliers left one) (along_right : IsCompositeAlong acceptor multipliers right two)
      (same_alphabet : difference.alphabet ≡ one.alphabet) (differs : IsSymmetricDifference one two difference) where
    same_n : generators difference.alphabet ≡ n
    same_n = ap generators same_alphabet ∙ ap generators along_left.alphabet

    left_accepts : (u v : List ℕ) → IsOver n u → IsOver n v
        → AcceptsText one (padded n u v) ↔ (Accepts structure u × Follows structure left u v)
    left_accepts = along_accepts left one along_left

    right_accepts : (u v : List ℕ) → IsOver n u → IsOver n v
        → AcceptsText two (padded n u v) ↔ (Accepts structure u × Follows structure right u v)
    right_accepts = along_accepts right two along_right

    -- one of the two leads from u to v, and the other elsewhere
    apart : (u v : List ℕ) → IsOver n u → IsOver n v → IsInOne one two (padded n u v) → LeadApart structure left right u
    apart u v first second (inl in_left) =
        let leads = (left_accepts u v first second).0 in_left.0 in
        let elsewhere = leads_somewhere structure unique right u right_over leads.0 in
        let P : List ℕ → Type 0 = Follows structure right u in record {
          a = v;
          b = elsewhere.0;
          accepted = leads.0;
          left_leads = leads.1;
          right_leads = elsewhere.1;
          different = λ same. in_left.1 ((right_accepts u v first second).1 (leads.0, subst P (sym same) elsewhere.1));
        }
    apart u v first second (inr in_right) =
        let leads = (right_accepts u v first second).0 in_right.0 in
        let elsewhere = leads_somewhere structure unique left u left_over leads.0 in
        let P : List ℕ → Type 0 = Follows structure left u in record {
          a = elsewhere.0;
          b = v;
          accepted = leads.0;
          left_leads = elsewhere.1;
          right_leads = leads.1;
          different = λ same. in_right.1 ((left_accepts u v first second).1 (leads.0, subst P same elsewhere.1));
        }

    has_second : (u v : List ℕ) → IsOver n u → IsOver n v → AcceptsText difference (padded n u v) → HasSecond difference u
    has_second u v first second accepts =
        let Over : List ℕ → ℕ → Type 0 = λ w k. IsOver k w in
        let P : ℕ → Type 0 = λ k. AcceptsText difference (padded k u v) in record {
          second = v;
          first_over = subst (Over u) (sym same_n) first;
          second_over = subst (Over v) (sym same_n) second;
          accepts = subst P (sym same_n) accepts;
        }

    pub led_apart : (u : List ℕ) → HasSecond difference u ↔ LeadApart structure left right u
    led_apart u = (forth, back)
      where
        forth : HasSecond difference u → LeadApart structure left right u
        forth has =
            let Over : List ℕ → ℕ → Type 0 = λ w k. IsOver k w in
            let P : ℕ → Type 0 = λ k. AcceptsText difference (padded k u has.second) in
            apart u has.second (subst (Over u) same_n has.first_over) (subst (Over has.second) same_n has.second_over)
            ((differs (padded n u has.second)).0 (subst P same_n has.accepts))

        back : LeadApart structure left right u → HasSecond difference u
        back parts =
            let first = parts.accepted.letters in
            let inside = leads_inside structure unique left u parts.a left_over parts.accepted parts.left_leads in
            let second = inside.letters in
            has_second u parts.a first second ((differs (padded n u parts.a)).1 (inl (
              (left_accepts u parts.a first second).1 (parts.accepted, parts.left_leads),
              λ accepts. parts.different (leads_to_one structure unique right u parts.a parts.b right_over
                  ((right_accepts u parts.a first second).0 accepts).1 parts.right_leads),
            )))

    pub least_apart : (word : List ℕ) → IsLeastWord (HasSecond difference) word → IsLeastWord (LeadApart structure left right) word
    least_apart word least = record {
      holds = (led_apart word).0 least.holds;
      least = λ other parts. least.least other ((led_apart other).1 parts);
    }

    pub act_alike : ((u : List ℕ) → ¬ HasSecond difference u) → ActAlike structure left right
    act_alike none u a b accepted left_leads right_leads =
        let first = accepted.letters in
        let inside = leads_inside structure unique left u a left_over accepted left_leads in
        let second = inside.letters in
        let text = padded n u a in
        let in_left = (left_accepts u a first second).1 (accepted, left_leads) in
        let in_right = decided (is_accepting two.table (state_after two.table text))
        (λ refused. none u (has_second u a first second ((differs text).1 (inl (in_left, refused))))) in
        leads_to_one structure unique right u a b right_over ((right_accepts u a first second).0 in_right).1 right_leads

-- the same of what a search finds, whatever the order and the relations
module _ (acceptor : Automaton) (multipliers : List Automaton) (followed : CanBeFollowed acceptor multipliers) (is : IsAutomaton acceptor)
    (left right : List ℕ) (left_over : IsOver (generators acceptor.alphabet) left) (right_over : IsOver (generators acceptor.alphabet) right)
    (one two difference : Automaton) (along_left : IsCompositeAlong acceptor multipliers left one)
    (along_right : IsCompositeAlong acceptor multipliers right two)
    (same_alphabet : difference.alphabet ≡ one.alphabet) (differs : IsSymmetricDifference one two difference) where
  pub found_apart : (found : Option (List ℕ)) → IfSome found (IsLeastWord (HasSecond difference))
      → IfSome found (λ word. OfAutomata acceptor multipliers (λ structure. IsLeastWord (LeadApart structure left right) word))
  found_apart None least = least
  found_apart (Some word) least = λ order relations.
      least_apart order relations acceptor multipliers followed is left right left_over right_over one two difference along_left along_right
      same_alphabet differs word least

  pub none_apart : (found : Option (List ℕ)) → IfNone found ((u : List ℕ) → ¬ HasSecond difference u)
      → IfNone found (OfAutomata acceptor multipliers (λ structure. ActAlike structure left right))
  none_apart None none = λ order relations.
      act_alike order relations acceptor multipliers followed is left right left_over right_over one two difference along_left along_right
      same_alphabet differs none
  none_apart (Some word) none = none
