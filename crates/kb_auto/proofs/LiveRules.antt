-- Live rules, and those of a reduced complete system, are rules of the group.
use Rattle.std.proofs.Common.{◌≡◌, ◌⊎◌, ℕ, false, inl, inr, List, [], length, Some, refl, sym, ap, ◌∙◌, subst, arith}
use Rattle.std.specs.Prelude.{slice_get, map}
use Rattle.std.specs.Option.{option_map}
use Rattle.std.specs.List.{Contains}
use Rattle.std.proofs.lemmas.Option.{slice_get-map, slice_get_read}
use Rattle.kb_word.specs.Words.{Pair, OneOf}
use Rattle.kb_word.specs.Congruence.{SameCongruence}
use Rattle.kb_word.specs.Presentations.{parts_of}
use Rattle.kb_word.specs.Relations.{IsOver, relations_of}
use Rattle.kb_word.specs.declared.presentation.Presentation.{Presentation}
use Rattle.kb_word.proofs.PathLemmas.{congruent_implied}
use Rattle.kb_diff.specs.Groups.{AreRulesOver}
use Rattle.kb_machine.specs.Course.{IsSound}
use Rattle.kb_machine.specs.Letters.{IsStateOver}
use Rattle.kb_machine.specs.States.{Problem, State, live_rules, rule_numbered, IsLiveRule, IsPendingPair}
use Rattle.kb_machine.proofs.Numbers.{numbered_one}
use Rattle.kb_machine.proofs.Relations.{relations_over}
use Rattle.kb_share.proofs.LiveRules.{live_rule_is, one_of_live}
use Rattle.kb_structure.specs.Structure.{Structure}
use Rattle.kb_structure.proofs.Words.{equal_over}
use Rattle.kb_system.specs.Completed.{IsReducedSystem}
use Rattle.kb_system.specs.Evidence.{AreLiveRules}

one_of_map : (f : ℕ → Pair) (numbers : List ℕ) (k : ℕ) → Contains numbers k → OneOf (map f numbers) (f k)
one_of_map f numbers k found =
    let at : slice_get numbers found.0 ≡ Some k = slice_get_read numbers (length numbers) found.0 k refl found.1 (sym found.2) in
    (found.0, slice_get-map f numbers found.0 ∙ ap (option_map f) at)

-- the live rules are those of the log
pub are_live : (problem : Problem) (state : State) → IsSound problem state → AreLiveRules state.lines (live_rules state)
are_live problem state sound = record {
  numbers = state.live;
  within = sound.numbers;
  ascending = sound.ascending;
  are = refl;
  cover = λ index line is.
      let found = sound.covered index line is in
      (rule_numbered state.lines found.0, one_of_map (rule_numbered state.lines) state.live found.0 found.1, found.2);
}

none_pending : {X : Type 0} (xs : List X) (x : X) → xs ≡ [] → Contains xs x → ⊥
none_pending xs x none at =
    let count = ap length none in
    let within = at.1 in
    omega (arith, count, within)

live_or_pending : (problem : Problem) (state : State) → IsSound problem state → state.pending ≡ [] → (rule : Pair)
    → (IsLiveRule state rule ⊎ IsPendingPair problem state rule) → OneOf (live_rules state) rule
live_or_pending problem state sound none rule (inl live) = one_of_live problem state sound rule live
live_or_pending problem state sound none rule (inr pending) = absurd (none_pending state.pending pending.0 none pending.1)

-- where nothing is pending they generate the congruence
pub live_same : (problem : Problem) (state : State) (relations : List Pair) → problem.relations ≡ relations → IsSound problem state
    → state.pending ≡ [] → SameCongruence relations (live_rules state)
live_same problem state relations same sound none =
    let P : List Pair → Type 0 = λ r. SameCongruence r (live_rules state) in
    subst P same (record {
      covered = λ pair one.
          congruent_implied (λ (rule : Pair) (allowed : IsLiveRule state rule ⊎ IsPendingPair problem state rule).
          live_or_pending problem state sound none rule allowed) (sound.congruence.covered pair one);
      covers = λ pair one. sound.congruence.rules_hold pair (live_rule_is problem state pair sound one);
    })

-- they have no other letters than the relations
pub live_are_over : (n : ℕ) (problem : Problem) (state : State) → IsSound problem state → IsStateOver n problem state
    → AreRulesOver n (live_rules state)
live_are_over n problem state sound over rule one =
    let live = live_rule_is problem state rule sound one in
    over.lines rule (numbered_one _ live.0 rule live.2)

-- nor has a reduced complete system
pub reduced_are_over : (presentation : Presentation) (rules : List Pair) → IsReducedSystem (parts_of presentation) rules
    → ((rule : Pair) → OneOf rules rule → IsOver presentation.n rule.0) → AreRulesOver presentation.n rules
reduced_are_over presentation rules reduced lefts rule one =
    let structure : Structure = record {
      n = presentation.n;
      order = presentation.order;
      relations = relations_of presentation.inv presentation.eqs;
      acceptor = λ w. false;
      multiplier = λ x u v. false;
    } in
    let left = lefts rule one in
    let least = (reduced.each rule one).least in
    (left, equal_over structure (relations_over presentation.is_presentation) rule.0 rule.1 least.congruent left)
