-- The line that a pending pair gives.
use Rattle.std.proofs.Common.{◌≡◌, ◌≢◌, ℕ, ◌⊎◌, List, ◌<◌, All, length, map, sym, ap, ◌∙◌, subst, inl, inr}
use Rattle.std.proofs.lemmas.Option.{same_Some}
use Rattle.kb_word.specs.Words.{Pair}
use Rattle.kb_word.specs.Overlap.{critical_pair}
use Rattle.kb_overlap.specs.Joining.{JoinSays}
use Rattle.kb_overlap.proofs.Joined.{apart_given, joined_given}
use Rattle.kb_overlap.specs.declared.pair.Joinability.{Joinability}
use Rattle.kb_overlap.specs.declared.pair.Joinability.TheVariants.{Joined, Apart}
use Rattle.kb_word.specs.Rewriting.{NormalForm}
use Rattle.kb_rules.proofs.Unique.{normal_form_unique}
use Rattle.kb_machine.specs.Lines.{rule_of, rules_of, IsPairOf}
use Rattle.kb_machine.specs.declared.origin.Origin.{Origin}
use Rattle.kb_machine.specs.declared.origin.Origin.TheVariants.{Relation, Overlap, Killed, Shortened}
use Rattle.kb_machine.specs.declared.line.LogStep.{LogStep}
use Rattle.kb_machine.specs.Derivations.{Derives, DerivesBoth}
use Rattle.kb_machine.specs.States.{live_rules}
use Rattle.kb_machine.specs.Machine.{IsLive}
use Rattle.kb_machine.specs.Course.{Course}
use Rattle.kb_book.specs.Answers.{PendingNormalForms, AreNormalForms}
use Rattle.kb_word.specs.declared.word_order.WordOrder.{WordOrder}
use Rattle.kb_book.specs.Books.{IsBook}
use Rattle.kb_book.specs.Lives.{VersionsParts}
use Rattle.kb_book.specs.Normal.{HasPair, PairIsJoined, PairIsApart, IsNext, IsNextLine, AreByLines, by_line}
use Rattle.kb_machine.specs.declared.line.Line.{Line}
use Rattle.kb_rules.specs.declared.trace.Step.{Step}
use Rattle.kb_rules.specs.Steps.{IsFirstStep, IsStep, Leads}
use Rattle.kb_rules.proofs.Tracing.{leads_implied, first_step_is_step}
use Rattle.kb_word.specs.Rewriting.{IsIrreducible}
use Rattle.kb_machine.specs.States.{below, rule_numbered, IsLiveRule}
use Rattle.kb_book.proofs.Derived.{AreNumbers, derives_by, derives_live, irreducible_live, steps_within}
use Rattle.std.proofs.lemmas.List.{length-map}

-- an origin names one pair at most
pub pair_unique : (relations rules : List Pair) (origin : Origin) (one other : Pair) → IsPairOf relations rules origin one
    → IsPairOf relations rules origin other → one ≡ other
pair_unique relations rules (Relation k) one other p q = same_Some one other (sym p ∙ q)
pair_unique relations rules (Overlap i j place) one other p q =
    let first : p.first ≡ q.first = same_Some p.first q.first (sym p.overlap.is_first ∙ q.overlap.is_first) in
    let second : p.second ≡ q.second = same_Some p.second q.second (sym p.overlap.is_second ∙ q.overlap.is_second) in
    p.is ∙ ap (λ (r : Pair). critical_pair r p.second place) first ∙ ap (λ (r : Pair). critical_pair q.first r place) second ∙ sym q.is
pair_unique relations rules (Killed k) one other p q = same_Some one other (sym p ∙ q)
pair_unique relations rules (Shortened k) one other p q = same_Some one other (sym p ∙ q)

-- the words that are read of the origin's pair
pub pair_of_words : (relations rules : List Pair) (origin : Origin) (pair : Pair) (u v : List ℕ) → IsPairOf relations rules origin pair
    → u ≡ pair.0 → v ≡ pair.1 → IsPairOf relations rules origin (u, v)
pair_of_words relations rules origin pair u v is first second =
    let P : List ℕ → Type 0 = λ w. IsPairOf relations rules origin (w, pair.1) in
    let Q : List ℕ → Type 0 = λ w. IsPairOf relations rules origin (u, w) in
    subst Q (sym second) (subst P (sym first) is)

-- what the reduction of the origin's pair by a book says of it
pub origin_joined : {course : Course} {rules : List Pair} {order : WordOrder} {versions : VersionsParts}
    (book : IsBook course rules order versions) (origin : Origin)
    (relations' : List Pair) (lines : List Line) (pair reduced : Pair) (answer : Joinability) → relations' ≡ course.problem.relations
    → lines ≡ course.state.lines
    → IsPairOf relations' (rules_of lines) origin pair → answer ≡ Joined → JoinSays rules pair reduced answer → PairIsJoined course origin
origin_joined {course} {rules} book origin relations' lines pair reduced answer are is_lines is_pair is says =
    let P : List Pair → Type 0 = λ l. IsPairOf l (rules_of lines) origin pair in
    let Q : List Line → Type 0 = λ l. IsPairOf course.problem.relations (rules_of l) origin pair in
    let named = subst Q is_lines (subst P are is_pair) in
    let joined = joined_given rules (live_rules course.state) pair reduced answer book.reduces is says in
    (joined.joint, record { pair = pair; is_pair = named; first = joined.left; second = joined.right })

pub origin_apart : {course : Course} {rules : List Pair} {order : WordOrder} {versions : VersionsParts}
    (book : IsBook course rules order versions) (origin : Origin)
    (relations' : List Pair) (lines : List Line) (pair reduced : Pair) (answer : Joinability) → relations' ≡ course.problem.relations
    → lines ≡ course.state.lines
    → IsPairOf relations' (rules_of lines) origin pair → answer ≡ Apart → JoinSays rules pair reduced answer → PairIsApart course origin
origin_apart {course} {rules} book origin relations' lines pair reduced answer are is_lines is_pair is says =
    let P : List Pair → Type 0 = λ l. IsPairOf l (rules_of lines) origin pair in
    let Q : List Line → Type 0 = λ l. IsPairOf course.problem.relations (rules_of l) origin pair in
    let named = subst Q is_lines (subst P are is_pair) in
    let parts = apart_given rules (live_rules course.state) pair reduced answer book.reduces is says in
    (reduced.0, reduced.1, record { pair = pair; is_pair = named; first = parts.left; second = parts.right }, parts.different)

-- normal forms of the pair's words are different, where some are
pub forms_differ : (course : Course) (origin : Origin) → PairIsApart course origin
    → (relations' : List Pair) (pair : Pair) (rules : List Pair) (u v : List ℕ)
    → relations' ≡ course.problem.relations → rules ≡ live_rules course.state
    → IsPairOf relations' (rules_of course.state.lines) origin pair → NormalForm rules pair.0 u → NormalForm rules pair.1 v → u ≢ v
forms_differ course origin different relations' pair rules u v are live is first second same =
    let lines = rules_of course.state.lines in
    let have = different.2 in
    let P : List Pair → Type 0 = λ l. IsPairOf l lines origin pair in
    let one : pair ≡ have.pair = pair_unique course.problem.relations lines origin pair have.pair (subst P are is) have.is_pair in
    let F : Pair → Type 0 = λ p. NormalForm rules p.0 u in
    let S : Pair → Type 0 = λ p. NormalForm rules p.1 v in
    let G : List Pair → Type 0 = λ l. NormalForm l have.pair.0 u in
    let T : List Pair → Type 0 = λ l. NormalForm l have.pair.1 v in
    let left : u ≡ different.0 = normal_form_unique (subst G live (subst F one first)) have.first in
    let right : v ≡ different.1 = normal_form_unique (subst T live (subst S one second)) have.second in
    different.3 (sym left ∙ same ∙ right)

-- the normal forms, the greater one first
pub forms_in_order : {course : Course} {origin : Origin} (next : IsNext course origin) (pair : Pair) (u v : List ℕ) (sides : Pair)
    → IsPairOf course.problem.relations (rules_of course.state.lines) origin pair
    → NormalForm (live_rules course.state) pair.0 u → NormalForm (live_rules course.state) pair.1 v
    → (sides ≡ (u, v)) ⊎ (sides ≡ (v, u)) → AreNormalForms course sides.0 sides.1
forms_in_order {course = course} {origin = origin} next pair u v sides is first second both =
    let forms : PendingNormalForms course.problem course.state u v = record {
      origin = origin;
      rest = next.rest;
      pending = next.pending;
      pair = pair;
      is_pair = is;
      first = first;
      second = second;
    } in
    let P : Pair → Type 0 = λ s. AreNormalForms course s.0 s.1 in
    elim both [ inl same ↦ subst P (sym same) (inl forms) | inr turned ↦ subst P (sym turned) (inr forms) ]

-- and the derivations of them
pub derives_in_order : (allowed : ℕ → Type 0) (rules : List Pair) (pair : Pair) (first_steps second_steps : List LogStep) (u v : List ℕ)
    (sides : Pair) → Derives allowed rules pair.0 first_steps u → Derives allowed rules pair.1 second_steps v
    → (sides ≡ (u, v)) ⊎ (sides ≡ (v, u)) → DerivesBoth allowed rules pair first_steps second_steps sides.0 sides.1
derives_in_order allowed rules pair first_steps second_steps u v sides first second both = record {
  one = u;
  other = v;
  first = first;
  second = second;
  ends = elim both [
    | inl same ↦ inl (ap (λ (s : Pair). s.0) (sym same), ap (λ (s : Pair). s.1) (sym same))
    | inr turned ↦ inr (ap (λ (s : Pair). s.1) (sym turned), ap (λ (s : Pair). s.0) (sym turned))
  ];
}

-- the origin of different normal forms names a pair
pub has_pair : (course : Course) (origin : Origin) (relations' : List Pair) (lines : List Line)
    → relations' ≡ course.problem.relations → lines ≡ course.state.lines → PairIsApart course origin
    → HasPair relations' (rules_of lines) origin
has_pair course origin relations' lines are same different =
    let P : List Pair → Type 0 = λ l. HasPair l (rules_of lines) origin in
    let Q : List Line → Type 0 = λ l. HasPair course.problem.relations (rules_of l) origin in
    subst P (sym are) (subst Q (sym same) (different.2.pair, different.2.is_pair))

sides_irreducible : (allowed : Pair → Type 0) (u v : List ℕ) (sides : Pair) → IsIrreducible allowed u → IsIrreducible allowed v
    → (sides ≡ (u, v)) ⊎ (sides ≡ (v, u)) → IsIrreducible allowed sides.0 × IsIrreducible allowed sides.1
sides_irreducible allowed u v sides one other both =
    let P : Pair → Type 0 = λ s. IsIrreducible allowed s.0 × IsIrreducible allowed s.1 in
    elim both [ inl same ↦ subst P (sym same) (one, other) | inr turned ↦ subst P (sym turned) (other, one) ]

-- the line of the normal forms
pub next_line_is : (course : Course) (origin : Origin) (relations' : List Pair) (lines : List Line) (live : List ℕ) (pair : Pair)
    (rules : List Pair) (u v : List ℕ) (first second : List Step) (line : Line)
    → IsNext course origin → AreNumbers course.state.lines course.state.live
    → relations' ≡ course.problem.relations → lines ≡ course.state.lines → live ≡ course.state.live → rules ≡ live_rules course.state
    → IsPairOf relations' (rules_of lines) origin pair
    → NormalForm rules pair.0 u → NormalForm rules pair.1 v
    → Leads (IsFirstStep rules) pair.0 first u → Leads (IsFirstStep rules) pair.1 second v
    → line.origin ≡ origin → (rule_of line ≡ (u, v)) ⊎ (rule_of line ≡ (v, u))
    → below course.problem line.right line.left
    → AreByLines live first line.first_steps.items → AreByLines live second line.second_steps.items
    → IsNextLine course line
next_line_is course origin relations' lines live pair rules u v first second line next numbers are is_lines is_live is_rules is_pair
    n m f s is_origin both less is_first is_second =
    let state = course.state in
    let allowed : ℕ → Type 0 = λ k. IsLive state k in
    let all = rules_of state.lines in
    let A : List Pair → Type 0 = λ l. IsPairOf l (rules_of lines) origin pair in
    let B : List Line → Type 0 = λ l. IsPairOf course.problem.relations (rules_of l) origin pair in
    let named : IsPairOf course.problem.relations all origin pair = subst B is_lines (subst A are is_pair) in
    let N : List Pair → Type 0 = λ l. NormalForm l pair.0 u in
    let M : List Pair → Type 0 = λ l. NormalForm l pair.1 v in
    let normal_u : NormalForm (live_rules state) pair.0 u = subst N is_rules n in
    let normal_v : NormalForm (live_rules state) pair.1 v = subst M is_rules m in
    let F : List Pair → Type 0 = λ l. Leads (IsFirstStep l) pair.0 first u in
    let S : List Pair → Type 0 = λ l. Leads (IsFirstStep l) pair.1 second v in
    let one : Leads (IsStep (live_rules state)) pair.0 first u =
    leads_implied (λ x step y. first_step_is_step) pair.0 first u (subst F is_rules f) in
    let other : Leads (IsStep (live_rules state)) pair.1 second v =
    leads_implied (λ x step y. first_step_is_step) pair.1 second v (subst S is_rules s) in
    let first_is : AreByLines state.live first line.first_steps.items = is_first ∙ ap (λ (l : List ℕ). map (by_line l) first) is_live in
    let second_is : AreByLines state.live second line.second_steps.items =
    is_second ∙ ap (λ (l : List ℕ). map (by_line l) second) is_live in
    let by_first : Derives allowed all pair.0 line.first_steps.items u =
    derives_by allowed all state.live pair.0 first line.first_steps.items u first_is
    (derives_live state.lines state.live numbers pair.0 first u one) in
    let by_second : Derives allowed all pair.1 line.second_steps.items v =
    derives_by allowed all state.live pair.1 second line.second_steps.items v second_is
    (derives_live state.lines state.live numbers pair.1 second v other) in
    let O : Origin → Type 0 = λ o. IsNext course o in
    let Q : Origin → Type 0 = λ o. IsPairOf course.problem.relations all o pair in
    let irreducible = sides_irreducible (IsLiveRule state) u v (rule_of line)
    (irreducible_live state u normal_u.irreducible) (irreducible_live state v normal_v.irreducible) both in
    record {
      next = subst O (sym is_origin) next;
      apart = record {
        pair = pair;
        is_pair = subst Q (sym is_origin) named;
        derived = derives_in_order allowed all pair line.first_steps.items line.second_steps.items u v (rule_of line)
            by_first by_second both;
        less = less;
        u_is_irreducible = irreducible.0;
        v_is_irreducible = irreducible.1;
      };
      normal = forms_in_order next pair u v (rule_of line) named normal_u normal_v both;
    }

-- the places of rules that the steps of a reduction name are those of live lines
pub steps_fit : (lines : List Line) (live live' : List ℕ) (rules : List Pair) (u : List ℕ) (steps steps' : List Step) (v : List ℕ)
    → rules ≡ map (rule_numbered lines) live → live' ≡ live → steps' ≡ steps → Leads (IsFirstStep rules) u steps v
    → All (λ step. step.rule < length live') steps'
steps_fit lines live live' rules u steps steps' v are is_live is_steps leads =
    let within : All (λ (step : Step). step.rule < length rules) steps =
    steps_within rules u steps v (leads_implied (λ x step y. first_step_is_step) u steps v leads) in
    let long : length rules ≡ length live' = ap length are ∙ length-map live (rule_numbered lines) ∙ ap length (sym is_live) in
    let P : ℕ → Type 0 = λ n. All (λ (step : Step). step.rule < n) steps in
    let Q : List Step → Type 0 = λ l. All (λ (step : Step). step.rule < length live') l in
    subst Q (sym is_steps) (subst P long within)
