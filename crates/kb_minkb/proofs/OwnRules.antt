-- In the group's own structure the rules are those of the reduced complete system.
use Rattle.std.proofs.Common.{◌≡◌, ℕ, ◌-◌, ◌<◌, ◌≤◌, IsTrue, List, [], ◌∷◌, ◌++◌, length, take, drop, Option, Some, None, refl, sym, subst, inl, inr, arith}
use Rattle.std.proofs.lemmas.Bool.{false≢true, cases_lt}
use Rattle.std.proofs.lemmas.List.Elements.{All-take, All-drop}
use Rattle.kb_word.specs.Words.{Pair as Sides}
use Rattle.kb_word.specs.Words.Less.{shorter}
use Rattle.kb_word.specs.WordOrders.{Below}
use Rattle.kb_word.specs.WordOrderLaws.{word_orders}
use Rattle.kb_word.specs.Congruence.{IsLeast}
use Rattle.kb_word.specs.Relations.{IsOver}
use Rattle.kb_word.specs.declared.word_order.WordOrder.{WordOrder}
use Rattle.kb_word.specs.declared.word_order.WordOrder.TheVariants.{ShortLex}
use Rattle.kb_word.proofs.PathLemmas.{congruent_reflexive, congruent_symmetric, congruent_transitive}
use Rattle.kb_rules.proofs.Lists.{FromEnd, from_end}
use Rattle.kb_rules.proofs.Lists.FromEnd.{empty, last}
use Rattle.kb_reduced.specs.Reduced.{IsLeastWord, IsReducedRule}
use Rattle.kb_reduced.proofs.ForeignLetters.{left_side_over}
use Rattle.kb_fsa.specs.Table.{state_after, is_accepting, IsLive}
use Rattle.kb_fsa.specs.Canonical.{IsCanonical, IsState}
use Rattle.kb_fsa.specs.Language.{Automaton, Accepts, generators}
use Rattle.kb_fsa.proofs.Lookups.{after-append, after_within}
use Rattle.kb_structure.specs.Structure.{Structure, IsRepresentative, IsProduct, Multiplies}
use Rattle.kb_structure.specs.StructureOf.{multiplier_of, accepts_pair, structure_of}
use Rattle.kb_structure.specs.Certificates.{HasImages}
use Rattle.kb_structure.proofs.Letters.{over_first, over_front, over_rest}
use Rattle.kb_structure.proofs.Words.{equal_over}
use Rattle.kb_structure.proofs.Representatives.{empty_representative, prefix_representative, least_of_class}
use Rattle.kb_structure.proofs.OfAutomata.{accepts_word, pair_multiplied}
use Rattle.kb_minkb.specs.LeftSides.{IsLeftSide, AcceptsEachState}
use Rattle.kb_minkb.specs.Rules.{IsRule}
use Rattle.kb_minkb.specs.OwnSystem.{IsOwn}
use Rattle.kb_minkb.proofs.Places.{without_last}

module _ {order : WordOrder} {relations : List Sides} {acceptor : Automaton} {multipliers : List Automaton}
    (own : IsOwn order relations acceptor multipliers) where
  abbrev structure : Structure
  structure = structure_of order relations acceptor multipliers

  abbrev n : ℕ
  n = generators acceptor.alphabet

  abbrev Least : List ℕ → Type 0
  Least w = IsLeastWord (Below order) relations w

  accepted_is : (w : List ℕ) → Accepts acceptor w → IsRepresentative structure w
  accepted_is w accepts =
      let fit = own.fit in
      (own.structure.acceptor w).0 ((accepts_word order relations acceptor multipliers fit.words own.words w).1 accepts)

  is_accepted : (w : List ℕ) → IsRepresentative structure w → Accepts acceptor w
  is_accepted w is =
      let fit = own.fit in
      (accepts_word order relations acceptor multipliers fit.words own.words w).0 ((own.structure.acceptor w).1 is)

  least_is_accepted : (w : List ℕ) → IsOver n w → Least w → Accepts acceptor w
  least_is_accepted w letters least = is_accepted w (record { letters = letters; least = least })

  -- ---- left sides

  pub left_side_reduced : (w : List ℕ) → IsLeftSide acceptor w
      → (¬ Least w) × (Least (drop 1 w) × Least (take (length w - 1) w))
  left_side_reduced w left = (
    λ least. left.outside (least_is_accepted w left.letters least),
    ((accepted_is (drop 1 w) left.behind_first).least, (accepted_is (take (length w - 1) w) left.before_last).least),
  )

  reduced_left_side : (w : List ℕ) → IsOver n w → ¬ Least w → Least (drop 1 w) → Least (take (length w - 1) w) → IsLeftSide acceptor w
  reduced_left_side w letters not_least behind_first before_last =
      let P : ℕ → Type 0 = λ x. (0 < x) × (x ≤ n) in
      record {
        letters = letters;
        outside = λ accepts. not_least (accepted_is w accepts).least;
        behind_first = least_is_accepted (drop 1 w) (All-drop P 1 w letters) behind_first;
        before_last = least_is_accepted (take (length w - 1) w) (All-take P (length w - 1) w letters) before_last;
      }

  pub left_side_of_rule : (rule : Sides) → IsReducedRule (Below order) relations rule → IsLeftSide acceptor rule.0
  left_side_of_rule rule is =
      reduced_left_side rule.0 (left_side_over (word_orders order) n relations own.over rule is) is.not_least is.behind_first is.before_last

  -- ---- rules

  -- the word to which a letter's multiplier leads is the least of its class
  image_is_least : (front : List ℕ) (x : ℕ) (right : List ℕ) → (0 < x) × (x ≤ n) → Multiplies structure x front right
      → IsLeast (Below order) relations (front ++ x ∷ []) right
  image_is_least front x right letter multiplies =
      let product = (own.structure.multipliers x letter front right).0 multiplies in
      let second = product.second in
      let equal = product.equal in
      record {
        congruent = equal;
        least = λ v also below. second.least.least v (congruent_transitive (congruent_symmetric equal) also) below;
      }

  pub rule_is_reduced : (left right : List ℕ) → IsRule acceptor multipliers left right → IsReducedRule (Below order) relations (left, right)
  rule_is_reduced left right rule =
      let side = rule.left_side in
      let reduced = left_side_reduced left side in
      let P : List ℕ → Type 0 = λ w. IsOver n w in
      let whole = subst P rule.is_left side.letters in
      let letter = over_first n rule.letter [] (over_rest n rule.front (rule.letter ∷ []) whole) in
      let front = over_front n rule.front (rule.letter ∷ []) whole in
      let multiplies = pair_multiplied order relations acceptor multipliers rule.letter rule.multiplier rule.of_letter rule.front right
      front rule.right_letters rule.multiplied in
      let Q : List ℕ → Type 0 = λ w. IsLeast (Below order) relations w right in
      record {
        not_least = reduced.0;
        behind_first = reduced.1.0;
        before_last = reduced.1.1;
        least = subst Q (sym rule.is_left) (image_is_least rule.front rule.letter right letter multiplies);
      }

  -- a multiplier that accepts is one of the list
  rule_with : (front : List ℕ) (x : ℕ) (right : List ℕ) → IsLeftSide acceptor (front ++ x ∷ []) → IsOver n right
      → length right ≤ length (front ++ x ∷ []) → Multiplies structure x front right
      → (o : Option Automaton) → multiplier_of multipliers x ≡ o → IsTrue (accepts_pair o front right)
      → IsRule acceptor multipliers (front ++ x ∷ []) right
  rule_with front x right left letters low multiplies None at holds = absurd (false≢true holds)
  rule_with front x right left letters low multiplies (Some multiplier) at holds = record {
    left_side = left;
    right_letters = letters;
    no_longer = low;
    front = front;
    letter = x;
    multiplier = multiplier;
    is_left = refl;
    of_letter = at;
    multiplied = holds;
  }

  rule_of_reduced : (left right : List ℕ) → FromEnd left → IsReducedRule (Below order) relations (left, right)
      → length right ≤ length left → IsRule acceptor multipliers left right
  rule_of_reduced left right empty is low = absurd (is.not_least is.before_last)
  rule_of_reduced left right (last front x) is low =
      let side = left_side_of_rule (front ++ x ∷ [], right) is in
      let letters = side.letters in
      let letter = over_first n x [] (over_rest n front (x ∷ []) letters) in
      let least = is.least in
      let over = equal_over structure own.over (front ++ x ∷ []) right least.congruent letters in
      let P : List ℕ → Type 0 = Accepts acceptor in
      let first = accepted_is front (subst P (without_last front x) side.before_last) in
      let product : IsProduct structure x front right = record {
        first = first;
        second = least_of_class structure (front ++ x ∷ []) right over least;
        equal = least.congruent;
      } in
      let multiplies = (own.structure.multipliers x letter front right).1 product in
      rule_with front x right side over low multiplies (multiplier_of multipliers x) refl multiplies.accepted

  pub reduced_is_rule : (left right : List ℕ) → IsReducedRule (Below order) relations (left, right) → length right ≤ length left
      → IsRule acceptor multipliers left right
  reduced_is_rule left right is low = rule_of_reduced left right (from_end left) is low

  -- where images are given, each left side has its rule
  pub rule_of_left_side : HasImages structure → (left : List ℕ) → FromEnd left → IsLeftSide acceptor left
      → (right : List ℕ) × IsReducedRule (Below order) relations (left, right)
  rule_of_left_side images left empty side = absurd (side.outside side.before_last)
  rule_of_left_side images left (last front x) side =
      let letter = over_first n x [] (over_rest n front (x ∷ []) side.letters) in
      let P : List ℕ → Type 0 = Accepts acceptor in
      let fit = own.fit in
      let accepts = (accepts_word order relations acceptor multipliers fit.words own.words front).1 (subst P (without_last front x) side.before_last) in
      let image = images x front letter accepts in
      let reduced = left_side_reduced (front ++ x ∷ []) side in (
        image.0,
        record {
          not_least = reduced.0;
          behind_first = reduced.1.0;
          before_last = reduced.1.1;
          least = image_is_least front x image.0 letter image.1;
        },
      )

  -- ---- canonical acceptors

  -- a word with an accepted continuation is accepted
  prefix_accepted : (w rest : List ℕ) → Accepts acceptor (w ++ rest) → Accepts acceptor w
  prefix_accepted w rest accepts = is_accepted w (prefix_representative structure w rest (accepted_is (w ++ rest) accepts))

  accepted_on : (w : List ℕ) → IsLive acceptor.table (state_after acceptor.table w) → Accepts acceptor w
  accepted_on w live =
      let P : ℕ → Type 0 = λ s. IsTrue (is_accepting acceptor.table s) in
      prefix_accepted w live.0 (subst P (sym (after-append acceptor.table acceptor.table.initial w live.0)) live.1)

  -- a canonical acceptor accepts each word that leads to a state
  pub each_state_accepts : IsCanonical acceptor.table → AcceptsEachState acceptor
  each_state_accepts canonical w some = let trim = canonical.trim in elim trim [
    | inl live ↦ accepted_on w (live (state_after acceptor.table w) is_state)
    | inr nothing ↦ absurd (nothing.1.1 ([], first))
  ]
    where
      is_state : IsState acceptor.table (state_after acceptor.table w)
      is_state =
          let table = own.words.table in
          record {
            positive = omega (arith, some);
            within = after_within acceptor.table acceptor.table.initial w table table.initial;
          }

      first : IsTrue (is_accepting acceptor.table 1)
      first =
          let P : ℕ → Type 0 = λ s. IsTrue (is_accepting acceptor.table s) in
          subst P canonical.initial (is_accepted [] (empty_representative structure))

-- by shortlex the right side of a reduced rule is no longer than the left side
pub reduced_no_longer : (relations : List Sides) (left right : List ℕ) → IsReducedRule (Below ShortLex) relations (left, right)
    → length right ≤ length left
reduced_no_longer relations left right is =
    elim (cases_lt (length left) (length right)) [
      | inl longer ↦ (let least = is.least in absurd (least.least left (congruent_reflexive left) (shorter longer)))
      | inr low ↦ low
    ]
