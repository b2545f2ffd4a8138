-- What is kept makes a state sound.
use Rattle.std.proofs.Common.{◌≡◌, ℕ, [], Some, sym, ap, subst, ◌∙◌}
use Rattle.std.specs.Prelude.{slice_get, unwrap_or}
use Rattle.std.proofs.lemmas.Option.{slice_get-map}
use Rattle.kb_word.specs.Words.{Pair, OneOf, IsFactor}
use Rattle.kb_word.specs.Congruence.{Congruent}
use Rattle.kb_word.proofs.PathLemmas.{congruent_sides}
use Rattle.kb_machine.specs.Lines.{rule_of, rules_of}
use Rattle.kb_machine.specs.declared.line.Line.{Line}
use Rattle.kb_machine.proofs.Numbers.{numbered_one}
use Rattle.kb_machine.proofs.Consequences.{pair_congruent}
use Rattle.kb_machine.proofs.Logs.{justified_rules}
use Rattle.kb_machine.specs.States.{Problem, State, rule_numbered, IsLiveRule, IsPendingPair}
use Rattle.kb_machine.specs.Machine.{IsLive}
use Rattle.kb_machine.specs.Course.{IsSound}
use Rattle.kb_machine.proofs.Invariant.{Invariant}

-- the sides of a live rule are congruent by the relations
pub live_holds : {problem : Problem} {state : State} → Invariant problem state → (rule : Pair) → IsLiveRule state rule
    → Congruent (OneOf problem.relations) rule.0 rule.1
live_holds {state = state} inv rule live =
    justified_rules inv.justified rule (numbered_one (rules_of state.lines) live.0 rule live.2)

pending_holds : {problem : Problem} {state : State} → Invariant problem state → (pair : Pair)
    → IsPendingPair problem state pair
    → Congruent (OneOf problem.relations) pair.0 pair.1
pending_holds {problem = problem} {state = state} inv pair pending =
    pair_congruent problem.relations (rules_of state.lines) pending.0 pair
    (λ relation one. congruent_sides relation one)
    (justified_rules inv.justified) pending.2

-- a line's left side has a live one as a factor
line_covered : {problem : Problem} {state : State} → Invariant problem state → (index : ℕ) (line : Line)
    → slice_get state.lines index ≡ Some line
    → (k : ℕ) × IsLive state k × IsFactor line.left (rule_numbered state.lines k).0
line_covered {state = state} inv index line is_line =
    let at : slice_get (rules_of state.lines) index ≡ Some (rule_of line) =
    slice_get-map rule_of state.lines index ∙ cc is_line in
    let has = inv.factors (rule_of line) (index, at) in
    let live = has.1 in
    let same : has.0 ≡ rule_numbered state.lines live.0 = sym (ap (λ found. unwrap_or found ([], [])) live.2) in
    let P : Pair → Type 0 = λ rule. IsFactor line.left rule.0 in
    (live.0, live.1, subst P same has.2)

pub sound : {problem : Problem} {state : State} → Invariant problem state → IsSound problem state
sound inv = record {
  congruence = record { covered = inv.kept; rules_hold = live_holds inv; pairs_hold = pending_holds inv };
  justified = inv.justified;
  covered = line_covered inv;
  few = inv.few;
  ascending = inv.ascending;
  numbers = inv.numbers;
  halted = inv.halted;
}
