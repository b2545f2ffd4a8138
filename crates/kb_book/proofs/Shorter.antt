-- A line whose right side is reduced: its own rule is never used, and the right side gets less.
use Rattle.std.proofs.Common.{◌≡◌, ◌≢◌, ℕ, List, [], ◌∷◌, ◌++◌, get_or, map, Some, sym, ap, ◌∙◌, subst}
use Rattle.std.specs.List.{Contains}
use Rattle.std.proofs.lemmas.Option.{same_Some}
use Rattle.kb_word.specs.Words.{Pair, OneOf}
use Rattle.kb_word.specs.Order.{Accessible, IsReductionOrder}
use Rattle.kb_word.specs.Order.Accessible.{accessible}
use Rattle.kb_word.specs.WordOrders.{Below}
use Rattle.kb_word.specs.WordOrderLaws.{word_orders}
use Rattle.kb_word.specs.declared.word_order.WordOrder.{WordOrder}
use Rattle.kb_word.specs.Congruence.{Replaces}
use Rattle.kb_word.specs.Rewriting.{AreDecreasing, IsIrreducible}
use Rattle.kb_rules.specs.declared.trace.Step.{Step}
use Rattle.kb_rules.specs.Steps.{IsStep, Leads}
use Rattle.kb_rules.proofs.Reducts.{replaced_below}
use Rattle.kb_machine.specs.declared.line.Line.{Line}
use Rattle.kb_machine.specs.Lines.{numbered, rules_of}
use Rattle.kb_machine.specs.States.{State, rule_numbered, live_rules}
use Rattle.kb_book.specs.Answers.{CanBeShortened, IsOtherLiveRule}
use Rattle.kb_book.proofs.Lists.{numbered_one}
use Rattle.kb_book.proofs.Derived.{AreNumbers, IsStepAt, Reduces, step_by, one_of_live}

-- no word is above a word that it is a factor of
descent : {below : List ℕ → List ℕ → Type 0} → IsReductionOrder below → (before after u : List ℕ) → Accessible below u
    → ¬ below (before ++ u ++ after) u
descent order before after u (accessible lower) less =
    let next = before ++ u ++ after in
    descent order before after next (lower next less) (order.kept before after next u less)

-- a step goes down
step_lower : (order : WordOrder) (allowed : ℕ → Type 0) (rules : List Pair) → AreDecreasing (Below order) rules
    → (u : List ℕ) (place number : ℕ) (v : List ℕ) → IsStepAt allowed rules u place number v → Below order v u
step_lower order allowed rules falling u place number v is =
    let replaced : Replaces (OneOf rules) u v = record {
      before = is.before;
      pair = is.rule;
      after = is.after;
      is_allowed = numbered_one rules number is.rule is.is_rule;
      from = is.from;
      to = is.to;
    } in
    replaced_below (word_orders order) falling replaced

-- so do some steps
pub reduced_below : (order : WordOrder) (allowed : ℕ → Type 0) (rules : List Pair) (live : List ℕ) → AreDecreasing (Below order) rules
    → (u : List ℕ) (step : Step) (rest : List Step) (v : List ℕ) → Reduces allowed rules live u (step ∷ rest) v → Below order v u
reduced_below order allowed rules live falling u step [] v leads =
    let lower : Below order leads.0 u = step_lower order allowed rules falling u step.place (get_or live step.rule 0) leads.0 leads.1 in
    let P : List ℕ → Type 0 = λ w. Below order w u in
    subst P leads.2 lower
reduced_below order allowed rules live falling u step (next ∷ rest) v leads =
    let lower : Below order leads.0 u = step_lower order allowed rules falling u step.place (get_or live step.rule 0) leads.0 leads.1 in
    let less = reduced_below order allowed rules live falling leads.0 next rest v leads.2 in
    (word_orders order).transitive v leads.0 u less lower

-- a step from a word that is below a left side is by another rule
pub another_rule : (order : WordOrder) (allowed : ℕ → Type 0) (rules : List Pair) (k : ℕ) (own : Pair)
    → numbered rules k ≡ Some own → (u : List ℕ) (place number : ℕ) (v : List ℕ) → IsStepAt allowed rules u place number v
    → Below order u own.0 → number ≢ k
another_rule order allowed rules k own is_own u place number v is less same =
    let one : is.rule ≡ own = same_Some is.rule own (sym is.is_rule ∙ ap (numbered rules) same ∙ is_own) in
    let whole : u ≡ is.before ++ own.0 ++ is.after = is.from ∙ ap (λ (r : Pair). is.before ++ r.0 ++ is.after) one in
    let P : List ℕ → Type 0 = λ w. Below order w own.0 in
    descent (word_orders order) is.before is.after own.0 ((word_orders order).well_founded own.0) (subst P whole less)

-- so reductions of a word that is below are by the other live lines
pub derives_other : (order : WordOrder) (lines : List Line) (live : List ℕ) (k : ℕ) (own : Pair) → AreNumbers lines live
    → AreDecreasing (Below order) (rules_of lines) → numbered (rules_of lines) k ≡ Some own
    → (u : List ℕ) (steps : List Step) (v : List ℕ) → Below order u own.0
    → Leads (IsStep (map (rule_numbered lines) live)) u steps v
    → Reduces (λ j. Contains live j × (j ≢ k)) (rules_of lines) live u steps v
derives_other order lines live k own numbers falling is_own u [] v less leads = leads
derives_other order lines live k own numbers falling is_own u (step ∷ rest) v less leads =
    let rules = rules_of lines in
    let next = leads.0 in
    let number = get_or live step.rule 0 in
    let by : IsStepAt (λ j. Contains live j) rules u step.place number next = step_by lines live numbers u step next leads.1 in
    let another : number ≢ k =
    another_rule order (λ j. Contains live j) rules k own is_own u step.place number next by less in
    let lower : Below order next u = step_lower order (λ j. Contains live j) rules falling u step.place number next by in
    let below_left : Below order next own.0 = (word_orders order).transitive next u own.0 lower less in (
      next,
      record {
        before = by.before;
        rule = by.rule;
        after = by.after;
        is_allowed = (by.is_allowed, another);
        is_rule = by.is_rule;
        at = by.at;
        from = by.from;
        to = by.to;
      },
      derives_other order lines live k own numbers falling is_own next rest v below_left leads.2,
    )

-- a line whose right side a step by another live line reduces
pub can_be_shortened : (state : State) (k : ℕ) (own : Pair) (place number : ℕ) (v : List ℕ) → Contains state.live k
    → numbered (rules_of state.lines) k ≡ Some own
    → IsStepAt (λ j. Contains state.live j × (j ≢ k)) (rules_of state.lines) own.1 place number v → CanBeShortened state k
can_be_shortened state k own place number v is_live is_own by = record {
  is_live = is_live;
  own = own;
  is_own = is_own;
  reducible = λ irreducible.
      irreducible by.before by.rule by.after (number, by.is_allowed.0, by.is_allowed.1, by.is_rule) by.from;
}

-- a line whose right side is its own normal form
pub cannot_be_shortened : (state : State) (k : ℕ) (own : Pair) → numbered (rules_of state.lines) k ≡ Some own
    → IsIrreducible (OneOf (live_rules state)) own.1 → ¬ CanBeShortened state k
cannot_be_shortened state k own is_own irreducible can =
    let same : can.own ≡ own = same_Some can.own own (sym can.is_own ∙ is_own) in
    let P : Pair → Type 0 = λ p. ¬ IsIrreducible (IsOtherLiveRule state k) p.1 in
    subst P same can.reducible (λ before pair after other.
    irreducible before pair after (one_of_live state pair (other.0, other.1, other.3)))
