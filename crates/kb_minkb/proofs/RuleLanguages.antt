-- The rules that the machine of rules accepts.
use Rattle.std.proofs.Common.{◌≡◌, ◌↔◌, ℕ, suc, true, All, List, [], sym, ap, subst, refl}
use Rattle.std.proofs.lemmas.Option.{get_or_from_slice_get, slice_get_within}
use Rattle.kb_word.specs.Relations.{IsOver}
use Rattle.kb_fsa.specs.declared.alphabet.Alphabet.TheVariants.{Pair}
use Rattle.kb_fsa.specs.Table.{Table, HasSymbols}
use Rattle.kb_fsa.specs.Padding.{padded, IsPadded}
use Rattle.kb_fsa.specs.Language.{Automaton, IsAutomaton, AcceptsPair, AcceptsText, SameLanguage, generators, symbols}
use Rattle.kb_fsa.proofs.Paddings.{padded-injective, IsPadded-from_pair}
use Rattle.kb_explore.specs.Machine.{MachineAccepts}
use Rattle.kb_explore.specs.Exploration.{IsExploration}
use Rattle.kb_explore.proofs.ExplorationLemmas.{accepts_same}
use Rattle.kb_structure.specs.StructureOf.{FitTogether}
use Rattle.kb_minkb.specs.declared.place.LeftPlace.TheVariants.{End}
use Rattle.kb_minkb.specs.declared.pair_place.PairPlace.{PairPlace}
use Rattle.kb_minkb.specs.LeftSides.{LeadsSomewhere, AcceptsEachState}
use Rattle.kb_minkb.specs.LeftMachine.{is_end}
use Rattle.kb_minkb.specs.Rules.{IsRuleOf, IsRule, HasPairPlace}
use Rattle.kb_minkb.specs.Rules.HasPairPlace.{on_the_way, at_rule}
use Rattle.kb_minkb.specs.RuleMachine.{rules}
use Rattle.kb_minkb.proofs.Items.{explored_automaton}
use Rattle.kb_minkb.proofs.LeftLanguages.{just_outside_alike, leads_and_accepts, end_of_accepting}
use Rattle.kb_minkb.proofs.PairPlaces.{IsStructure}
use Rattle.kb_minkb.proofs.RuleFollowing.{leads_to_pair_place}

rule_alike : {n : ℕ} {Given Other : List ℕ → Type 0} {multipliers : List Automaton} {u v : List ℕ}
    → ((w : List ℕ) → Given w ↔ Other w) → IsRuleOf n Given multipliers u v → IsRuleOf n Other multipliers u v
rule_alike alike is = record {
  left_side = just_outside_alike alike is.left_side;
  right_letters = is.right_letters;
  no_longer = is.no_longer;
  front = is.front;
  letter = is.letter;
  multiplier = is.multiplier;
  is_left = is.is_left;
  of_letter = is.of_letter;
  multiplied = is.multiplied;
}

-- the text of a pair has the place of a rule where the pair is one
rule_of_place : {acceptor : Automaton} {multipliers : List Automaton} (u v : List ℕ) (place : PairPlace)
    → IsOver (generators acceptor.alphabet) u → IsOver (generators acceptor.alphabet) v
    → HasPairPlace acceptor multipliers (padded (generators acceptor.alphabet) u v) place → is_end place.left ≡ true
    → IsRuleOf (generators acceptor.alphabet) (LeadsSomewhere acceptor) multipliers u v
rule_of_place u v place first second (on_the_way {left = left} is short has not_end some) holds = absurd (not_end (end_of_accepting left holds))
rule_of_place {acceptor} {multipliers} u v place first second (at_rule {left = left} {right = right} is rule) holds =
    let n = generators acceptor.alphabet in
    let words = padded-injective n left right u v is.first_over is.second_over first second (sym is.is_text) in
    let P : List ℕ → Type 0 = λ w. IsRuleOf n (LeadsSomewhere acceptor) multipliers w right in
    let Q : List ℕ → Type 0 = λ w. IsRuleOf n (LeadsSomewhere acceptor) multipliers u w in
    subst Q words.1 (subst P words.0 rule)

pub rules_accepted : {acceptor : Automaton} {multipliers : List Automaton} → IsStructure acceptor multipliers → AcceptsEachState acceptor
    → (u v : List ℕ) → IsOver (generators acceptor.alphabet) u → IsOver (generators acceptor.alphabet) v
    → MachineAccepts (rules acceptor multipliers) (padded (generators acceptor.alphabet) u v) ↔ IsRule acceptor multipliers u v
rules_accepted {acceptor} {multipliers} given each u v first second =
    let n = generators acceptor.alphabet in (
      λ accepts.
          let has = (leads_to_pair_place given (padded n u v) accepts.state).0 accepts.leads_there in
          rule_alike (leads_and_accepts acceptor each) (rule_of_place u v accepts.state first second has accepts.accepts),
      λ rule. record {
        state = record { left = End; states = [] };
        leads_there = (leads_to_pair_place given (padded n u v) (record { left = End; states = [] })).1
            (at_rule (record { first_over = first; second_over = second; is_text = refl })
            (rule_alike (λ w. let both = leads_and_accepts acceptor each w in (both.1, both.0)) rule));
        accepts = refl;
      },
    )

-- ---- the explored machine

-- automata that fit together are a structure
pub structure_from : {acceptor : Automaton} {multipliers : List Automaton} → FitTogether acceptor multipliers → IsAutomaton acceptor
    → All IsAutomaton multipliers → IsStructure acceptor multipliers
structure_from {acceptor} {multipliers} fit is all = record {
  words = record { is = is; plain = (generators acceptor.alphabet, fit.words) };
  automata = λ place multiplier at. record {
    is = subst IsAutomaton (get_or_from_slice_get multipliers place multiplier multiplier at)
        (all place multiplier (slice_get_within multipliers place multiplier at));
    pairs = fit.pairs (suc place) multiplier at;
  };
}

module _ {acceptor : Automaton} {multipliers : List Automaton} (given : IsStructure acceptor multipliers) {table : Table}
    {states : List PairPlace} {origins : List (ℕ × ℕ)} (explored : IsExploration (rules acceptor multipliers) table states origins) where
  padded_of_place : (text : List ℕ) (place : PairPlace) → HasPairPlace acceptor multipliers text place
      → IsPadded (generators acceptor.alphabet) text
  padded_of_place text _ (on_the_way is short has not_end some) = IsPadded-from_pair is
  padded_of_place text _ (at_rule is rule) = IsPadded-from_pair is

  pub rule_automaton : HasSymbols (symbols (Pair (generators acceptor.alphabet))) table
      → IsAutomaton (record { alphabet = Pair (generators acceptor.alphabet); table = table })
  rule_automaton low =
      explored_automaton (rules acceptor multipliers) (HasPairPlace acceptor multipliers) (leads_to_pair_place given)
      (Pair (generators acceptor.alphabet)) explored given.words.is.generators low padded_of_place

  pub rule_language : AcceptsEachState acceptor → (made : Automaton) → made.alphabet ≡ Pair (generators acceptor.alphabet)
      → SameLanguage (record { alphabet = Pair (generators acceptor.alphabet); table = table }) made
      → (u v : List ℕ) → IsOver (generators acceptor.alphabet) u → IsOver (generators acceptor.alphabet) v
      → AcceptsPair made u v ↔ IsRule acceptor multipliers u v
  rule_language each made alphabet same u v first second =
      let n = generators acceptor.alphabet in
      let table_accepts = accepts_same explored (padded n u v) in
      let means = rules_accepted given each u v first second in
      let alike = same (padded n u v) in
      let P : ℕ → Type 0 = λ k. AcceptsText made (padded k u v) in
      let is : generators made.alphabet ≡ n = ap generators alphabet in (
        λ accepts. means.0 (table_accepts.0 (alike.1 (subst P is accepts))),
        λ rule. subst P (sym is) (alike.0 (table_accepts.1 (means.1 rule))),
      )
