-- What a sound state says at a halt, as evidence.
use Rattle.std.proofs.Common.{◌≡◌, ◌≢◌, ℕ, ◌<◌, ◌≤◌, inl, inr, ⊎_elim, arith, get_or, List, [], ◌∷◌, ◌++◌, length, map, Option, Some, IfSome, refl, sym, ap, ◌∙◌, subst}
use Rattle.std.specs.Prelude.{slice_get}
use Rattle.std.specs.Option.{option_map}
use Rattle.std.specs.List.{Contains}
use Rattle.std.proofs.lemmas.Bool.{cases_lt}
use Rattle.std.proofs.lemmas.List.{get_or_default, length-map}
use Rattle.std.proofs.lemmas.Option.{slice_get-map, slice_get_read, slice_get_within}
use Rattle.kb_word.specs.Rewriting.{IsIrreducible}
use Rattle.kb_word.specs.Words.{Pair, OneOf}
use Rattle.kb_word.specs.Presentations.{PresentationParts}
use Rattle.kb_machine.specs.Justified.{IsJustified}
use Rattle.kb_machine.specs.declared.line.Line.{Line}
use Rattle.kb_machine.specs.declared.origin.Origin.{Origin}
use Rattle.kb_machine.specs.Lines.{numbered, rules_of}
use Rattle.kb_machine.specs.States.{Problem, State, live_rules, rule_numbered, IsLiveRule}
use Rattle.kb_machine.specs.Machine.{IsLive}
use Rattle.kb_machine.specs.declared.event.Event.{Event}
use Rattle.kb_book.specs.Answers.{IsOtherLiveRule}
use Rattle.kb_share.specs.Interreduced.{LeftSidesAreReduced, RightSidesAreReduced}
use Rattle.kb_share.proofs.LiveRules.{live_rule_at, live_rule_is}
use Rattle.kb_complete.specs.Completing.{AreReduced}
use Rattle.kb_machine.specs.Course.{Course, AreApart, Waits, HaltSays, IsSound, waiting_line}
use Rattle.kb_machine.specs.declared.halt.Halt.{Halt}
use Rattle.kb_machine.specs.declared.halt.Halt.TheVariants.{Rules, Length}
use Rattle.kb_system.specs.Completed.{relations, below}
use Rattle.kb_system.specs.Evidence.{Limits, AnotherOf, AreInterreduced, AreLiveRules, WaitsIn, IsReached, IsHalted}
use Rattle.kb_system.specs.Problems.{problem_of, reached_by}
use Rattle.kb_system.specs.declared.ending.Reached.{Reached}

-- what a function makes of an element is one of the mapped list
one_of_map : (f : ℕ → Pair) (numbers : List ℕ) (k : ℕ) → Contains numbers k → OneOf (map f numbers) (f k)
one_of_map f numbers k found =
    let at : slice_get numbers found.0 ≡ Some k = slice_get_read numbers (length numbers) found.0 k refl found.1 (sym found.2) in
    (found.0, slice_get-map f numbers found.0 ∙ ap (option_map f) at)

-- the live rules of a sound state cover its lines
pub are_live : {problem : Problem} (state : State) → IsSound problem state → AreLiveRules state.lines (live_rules state)
are_live state sound = record {
  numbers = state.live;
  within = sound.numbers;
  ascending = sound.ascending;
  are = refl;
  cover = λ index line is.
      let found = sound.covered index line is in
      (rule_numbered state.lines found.0, one_of_map (rule_numbered state.lines) state.live found.0 found.1, found.2);
}

-- what is irreducible by some rules is so by fewer
by_fewer : (K L : Pair → Type 0) (w : List ℕ) → ((rule : Pair) → L rule → K rule) → IsIrreducible K w → IsIrreducible L w
by_fewer K L w into irreducible before rule after allowed = irreducible before rule after (into rule allowed)

module _ (problem : Problem) (state : State) (sound : IsSound problem state) where
  -- the live number at the index of a live rule
  abbrev number_at : (i : ℕ) → ℕ
  number_at i = get_or state.live i 0

  live_within : (i : ℕ) (rule : Pair) → slice_get (live_rules state) i ≡ Some rule → i < length state.live
  live_within i rule is =
      let within = slice_get_within (live_rules state) i rule is in
      let count = length-map state.live (rule_numbered state.lines) in
      omega (arith, within, count)

  is_numbered : (i : ℕ) (rule : Pair) → slice_get (live_rules state) i ≡ Some rule
      → numbered (rules_of state.lines) (number_at i) ≡ Some rule
  is_numbered i rule is =
      live_rule_at problem state i (number_at i) rule sound is
      (get_or_default state.live i 0 (number_at i) (live_within i rule is))

  -- at other indices other numbers stand
  numbers_differ : (i j : ℕ) → j < length state.live → i < length state.live → j ≢ i → number_at j ≢ number_at i
  numbers_differ i j within_j within_i apart same = elim (cases_lt i j) [
    | inl before ↦
        let low : number_at i < number_at j = sound.ascending i j 0 before within_j in
        let no : ⊥ = omega (arith, low, same) in no
    | inr from ↦
        let low : number_at j < number_at i = sound.ascending j i 0 (omega (arith, from, apart)) within_i in
        let no : ⊥ = omega (arith, low, same) in no
  ]

  another_is_live : (i : ℕ) (rule pair : Pair) → slice_get (live_rules state) i ≡ Some rule → AnotherOf (live_rules state) i pair
      → IsOtherLiveRule state (number_at i) pair
  another_is_live i rule pair is another =
      let j = another.0 in
      let within = live_within j pair another.2 in (
        number_at j,
        (j, within, sym (get_or_default state.live j 0 (number_at j) within)),
        numbers_differ i j within (live_within i rule is) another.1,
        is_numbered j pair another.2,
      )

  -- the live rules are interreduced, by the list
  pub are_interreduced : (limits : Limits) (course : Course) → course.state ≡ state → course.problem ≡ problem
      → problem.most_lines ≡ limits.lines → AreReduced course → AreInterreduced limits state.lines (live_rules state)
  are_interreduced limits course is_state is_problem most reduced =
      let lefts : LeftSidesAreReduced state = subst (λ (s : State). LeftSidesAreReduced s) is_state reduced.lefts in
      record {
        lefts = λ i rule is.
            let k = number_at i in
            let within = live_within i rule is in
            let live : IsLive state k = (i, within, sym (get_or_default state.live i 0 k within)) in
            by_fewer (IsOtherLiveRule state k) (AnotherOf (live_rules state) i) rule.0
            (λ pair another. another_is_live i rule pair is another)
            (lefts k rule live (is_numbered i rule is));
        rights = λ room. ⊎_elim
            (λ (rights : RightSidesAreReduced course.state).
            let mine : RightSidesAreReduced state = subst (λ (s : State). RightSidesAreReduced s) is_state rights in
            λ rule one. by_fewer (IsLiveRule state) (OneOf (live_rules state)) rule.1
            (λ pair other. live_rule_is problem state pair sound other)
            (mine rule (live_rule_is problem state rule sound one)))
            (λ (full : course.problem.most_lines ≤ length course.state.lines).
            let lines = ap (λ (s : State). length s.lines) is_state in
            let bound = ap (λ (p : Problem). p.most_lines) is_problem in
            absurd (let no : ⊥ = omega (arith, room, full, lines, bound, most) in no))
            reduced.rights;
      }

-- what a halt says, at a sound state that is halted
pub halt_says : {problem : Problem} (state : State) (halt : Halt) → IsSound problem state → state.halt ≡ Some halt
    → HaltSays problem state halt
halt_says {problem = problem} state halt sound is =
    let P : Option Halt → Type 0 = λ o. IfSome o (HaltSays problem state) in subst P is sound.halted

-- a pair waits
pub it_waits : (problem : Problem) (state : State) (halt : Halt) → HaltSays problem state halt → Waits problem state halt
it_waits problem state (Rules u v first second) says = says.1
it_waits problem state (Length u v first second) says = says.2

-- so something is pending
pub is_pending : {problem : Problem} {state : State} {halt : Halt} → Waits problem state halt → state.pending ≢ []
is_pending waits none = absurd (cc (sym waits.pending ∙ none))

same_first : {origin other : Origin} {rest more : List Origin} → origin ∷ rest ≡ other ∷ more → origin ≡ other
same_first e = cc e

module _ (limits : Limits) (parts : PresentationParts) (state : State) (halt : Halt) where
  -- the limit that the halt names is reached
  limit_reached : (origin : Origin) → HaltSays (problem_of limits parts) state halt
      → IsReached limits state.lines (waiting_line origin halt) (reached_by halt)
  limit_reached origin says = by_limit halt says
    where
      by_limit : (halt : Halt) → HaltSays (problem_of limits parts) state halt
          → IsReached limits state.lines (waiting_line origin halt) (reached_by halt)
      by_limit (Rules u v first second) says = says.0
      by_limit (Length u v first second) says = (says.0, says.1)

  -- the line of the first pending pair waits
  waits_in : (origin : Origin) → (waits : Waits (problem_of limits parts) state halt) → waits.origin ≡ origin
      → WaitsIn parts state.lines (waiting_line origin halt)
  waits_in origin waits same =
      let Justified : Origin → Type 0 = λ o. IsJustified (below parts) (relations parts) (state.lines ++ waiting_line o halt ∷ []) in
      let Apart : Origin → Type 0 = λ o.
      AreApart (problem_of limits parts) state (waiting_line o halt).left (waiting_line o halt).right in
      let apart : AreApart (problem_of limits parts) state (waiting_line origin halt).left (waiting_line origin halt).right =
      subst Apart same waits.apart in
      record {
        justified = subst Justified same waits.justified;
        congruent = apart.congruent;
        left_is_irreducible = apart.u_is_irreducible;
        right_is_irreducible = apart.v_is_irreducible;
      }

  -- the evidence at a halt
  pub is_halted : (origin : Origin) (rest : List Origin) → IsSound (problem_of limits parts) state → state.halt ≡ Some halt
      → state.pending ≡ origin ∷ rest → AreInterreduced limits state.lines (live_rules state)
      → IsHalted limits parts state.lines (waiting_line origin halt) (live_rules state) (reached_by halt)
  is_halted origin rest sound is pending interreduced =
      let says = halt_says state halt sound is in
      let waits = it_waits (problem_of limits parts) state halt says in
      record {
        waits = waits_in origin waits (same_first (sym waits.pending ∙ pending));
        is_reached = limit_reached origin says;
        live = are_live state sound;
        interreduced = interreduced;
      }

-- The end of a completion at a halt, where the problem, the log, the line that waits, the rules and the limit have
-- names of their own.
pub ends_halted : (limits : Limits) (parts : PresentationParts) (problem : Problem) (state : State) (journal : List Event) (halt : Halt) (origin : Origin)
    (rest : List Origin) (lines : List Line) (waiting : Line) (rules : List Pair) (reached : Reached)
    → problem ≡ problem_of limits parts → IsSound problem state → state.halt ≡ Some halt → state.pending ≡ origin ∷ rest
    → AreReduced (record { problem = problem; state = state; journal = journal })
    → lines ≡ state.lines → waiting ≡ waiting_line origin halt → rules ≡ live_rules state → reached ≡ reached_by halt
    → IsHalted limits parts lines waiting rules reached
ends_halted limits parts problem state journal halt origin rest lines waiting rules reached same sound is pending reduced are_lines is_waiting are_rules is_limit =
    let Sound : Problem → Type 0 = λ p. IsSound p state in
    let Lines : List Line → Type 0 = λ l. IsHalted limits parts l waiting rules reached in
    let Waiting : Line → Type 0 = λ w. IsHalted limits parts state.lines w rules reached in
    let Live : List Pair → Type 0 = λ r. IsHalted limits parts state.lines (waiting_line origin halt) r reached in
    let Limit : Reached → Type 0 = λ l. IsHalted limits parts state.lines (waiting_line origin halt) (live_rules state) l in
    subst Lines (sym are_lines) (subst Waiting (sym is_waiting) (subst Live (sym are_rules) (subst Limit (sym is_limit)
    (is_halted limits parts state halt origin rest (subst Sound same sound) is pending
    (are_interreduced problem state sound limits (record { problem = problem; state = state; journal = journal }) refl refl
    (ap (λ (p : Problem). p.most_lines) same) reduced)))))
