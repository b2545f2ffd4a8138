-- The right side of a live line, reduced by the live rules: the other lines do it.
use Rattle.std.proofs.Common.{◌≡◌, ◌≢◌, ℕ, ◌<◌, ◌≤◌, List, [], ◌∷◌, length, get_or, map, Option, Some, None, slice_get, true, false, refl, sym, ap, ◌∙◌, subst, arith}
use Rattle.std.specs.Option.{is_some}
use Rattle.std.proofs.lemmas.Option.{none-some, slice_get_within, get_or_from_slice_get}
use Rattle.kb_word.specs.Words.{Pair, OneOf}
use Rattle.kb_word.specs.WordOrders.{Below}
use Rattle.kb_word.specs.WordOrderLaws.{word_orders}
use Rattle.kb_word.specs.Rewriting.{AreDecreasing, IsIrreducible, NormalForm}
use Rattle.kb_rules.specs.declared.trace.Step.{Step}
use Rattle.kb_rules.specs.Steps.{IsFirstStep, IsStep, Leads}
use Rattle.kb_rules.proofs.Tracing.{leads_implied, first_step_is_step}
use Rattle.kb_machine.specs.declared.line.Line.{Line}
use Rattle.kb_machine.specs.declared.origin.Origin.TheVariants.{Shortened}
use Rattle.kb_machine.specs.Lines.{numbered, rule_of, rules_of}
use Rattle.kb_machine.specs.Derivations.{Derives}
use Rattle.kb_machine.specs.States.{below, rule_numbered, live_rules}
use Rattle.kb_machine.specs.Machine.{IsLive}
use Rattle.kb_machine.specs.declared.halt.Halt.{Halt}
use Rattle.kb_machine.specs.Course.{Course, IsCourse}
use Rattle.kb_book.specs.Answers.{CanBeShortened}
use Rattle.kb_book.specs.Normal.{AreByLines, by_line}
use Rattle.kb_book.specs.Shorter.{IsShorter}
use Rattle.kb_book.proofs.Courses.{course_keeps}
use Rattle.kb_book.proofs.Lists.{contains_at, numbered_one}
use Rattle.kb_book.proofs.Derived.{Reduces, derives_by, numbered_within}
use Rattle.kb_book.proofs.Shorter.{reduced_below, derives_other, can_be_shortened, cannot_be_shortened}

-- a live number has its rule
pub live_number : (course : Course) (k place : ℕ) (lines : List Line) (live : List ℕ) → IsCourse course
    → lines ≡ course.state.lines → live ≡ course.state.live → slice_get live place ≡ Some k
    → numbered (rules_of lines) k ≡ Some (rule_numbered lines k)
live_number course k place lines live is_course is_lines is_live at =
    let A : List ℕ → Type 0 = λ l. slice_get l place ≡ Some k in
    let N : ℕ → Type 0 = λ n. (0 < n) × (n ≤ length course.state.lines) in
    let R : List Line → Type 0 = λ l. numbered (rules_of l) k ≡ Some (rule_numbered l k) in
    let there : slice_get course.state.live place ≡ Some k = subst A is_live at in
    let same : get_or course.state.live place 0 ≡ k = get_or_from_slice_get course.state.live place k 0 there in
    let number = subst N same ((course_keeps course is_course).numbers place 0 (slice_get_within course.state.live place k there)) in
    subst R (sym is_lines) (numbered_within course.state.lines k number.0 number.1)

-- live line k stands at the place, and the steps, which are by other live lines, lead from its right side to the normal form
pub record IsReduction (course : Course) (k place : ℕ) (own : Pair) (steps : List Step) (word : List ℕ) : Type 0 where
  pub at : slice_get course.state.live place ≡ Some k
  pub is_own : numbered (rules_of course.state.lines) k ≡ Some own
  pub falling : AreDecreasing (below course.problem) (rules_of course.state.lines)
  pub normal : NormalForm (live_rules course.state) own.1 word
  pub derived : Reduces (λ j. IsLive course.state j × (j ≢ k)) (rules_of course.state.lines) course.state.live own.1
      steps word

pub reduction : (course : Course) (k place : ℕ) (lines : List Line) (live : List ℕ) (own : Pair) (rules : List Pair) (steps : List Step)
    (word : List ℕ) → IsCourse course → lines ≡ course.state.lines → live ≡ course.state.live → rules ≡ live_rules course.state
    → slice_get live place ≡ Some k → numbered (rules_of lines) k ≡ Some own → NormalForm rules own.1 word
    → Leads (IsFirstStep rules) own.1 steps word → IsReduction course k place own steps word
reduction course k place lines live own rules steps word is_course is_lines is_live are at is_own normal leads =
    let state = course.state in
    let order = course.problem.order in
    let kept = course_keeps course is_course in
    let A : List ℕ → Type 0 = λ l. slice_get l place ≡ Some k in
    let O : List Line → Type 0 = λ l. numbered (rules_of l) k ≡ Some own in
    let N : List Pair → Type 0 = λ l. NormalForm l own.1 word in
    let L : List Pair → Type 0 = λ l. Leads (IsFirstStep l) own.1 steps word in
    let numbered_own : numbered (rules_of state.lines) k ≡ Some own = subst O is_lines is_own in
    let less : Below order own.1 own.0 = kept.falling own (numbered_one (rules_of state.lines) k own numbered_own) in
    let by : Leads (IsStep (live_rules state)) own.1 steps word =
    leads_implied (λ x step y. first_step_is_step) own.1 steps word (subst L are leads) in
    record {
      at = subst A is_live at;
      is_own = numbered_own;
      falling = kept.falling;
      normal = subst N are normal;
      derived = derives_other order state.lines state.live k own kept.numbers kept.falling numbered_own own.1 steps word less by;
    }

-- where it has no steps, the other live rules don't reduce the right side
pub least : (course : Course) (k place : ℕ) (own : Pair) (steps : List Step) (word : List ℕ)
    → IsReduction course k place own steps word → length steps ≡ 0 → ¬ CanBeShortened course.state k
least course k place own [] word r none =
    let I : List ℕ → Type 0 = λ w. IsIrreducible (OneOf (live_rules course.state)) w in
    cannot_be_shortened course.state k own r.is_own (subst I (sym r.derived) r.normal.irreducible)
least course k place own (step ∷ rest) word r none = absurd (omega arith)

-- where it has steps, they do
pub shortenable : (course : Course) (k place : ℕ) (own : Pair) (steps : List Step) (word : List ℕ)
    → IsReduction course k place own steps word → 0 < length steps → CanBeShortened course.state k
shortenable course k place own [] word r some = absurd (omega arith)
shortenable course k place own (step ∷ rest) word r some =
    can_be_shortened course.state k own step.place (get_or course.state.live step.rule 0) r.derived.0
    (contains_at course.state.live place k r.at) r.is_own r.derived.1

-- and what they lead to is another word
changes : (course : Course) (k place : ℕ) (own : Pair) (steps : List Step) (word : List ℕ)
    → IsReduction course k place own steps word → 0 < length steps → word ≢ own.1
changes course k place own [] word r some = absurd (omega arith)
changes course k place own (step ∷ rest) word r some =
    let state = course.state in
    let order = course.problem.order in
    let lower : Below order word own.1 = reduced_below order (λ j. IsLive state j × (j ≢ k)) (rules_of state.lines) state.live r.falling
    own.1 step rest word r.derived in
    let P : List ℕ → Type 0 = λ w. Below order w own.1 in
    λ same. (word_orders order).irreflexive own.1 (subst P same lower)

-- whether a completion is halted
pub running : (halt : Option Halt) → false ≡ is_some halt → halt ≡ None
running None tells = refl
running (Some halt) tells = let wrong : false ≡ true = tells in cc

pub is_halted : (halt : Option Halt) → true ≡ is_some halt → halt ≢ None
is_halted None tells = let wrong : true ≡ false = tells in cc
is_halted (Some halt) tells = λ none. none-some halt (sym none)

-- the line that they give
pub shorter_line : (course : Course) (k place : ℕ) (own line : Line) (live : List ℕ) (steps : List Step) (word : List ℕ)
    → IsReduction course k place (rule_of own) steps word → 0 < length steps → course.state.halt ≡ None
    → length course.state.lines < course.problem.most_lines → live ≡ course.state.live → line.origin ≡ Shortened k
    → line.left ≡ own.left → line.right ≡ word → AreByLines live steps line.first_steps.items
    → line.second_steps.items ≡ [] → IsShorter course k place line
shorter_line course k place own line live steps word r some running room is_live origin left right first second =
    let state = course.state in
    let first_is : AreByLines state.live steps line.first_steps.items = first ∙ ap (λ (l : List ℕ). map (by_line l) steps) is_live in
    let derived = derives_by (λ j. IsLive state j × (j ≢ k)) (rules_of state.lines) state.live own.right steps line.first_steps.items
    word first_is r.derived in
    let E : List ℕ → Type 0 = λ w. Derives (λ j. IsLive state j × (j ≢ k)) (rules_of state.lines) own.right line.first_steps.items w in
    let C : List ℕ → Type 0 = λ w. w ≢ own.right in
    let N : List ℕ → Type 0 = λ w. NormalForm (live_rules state) own.right w in
    record {
      running = running;
      room = room;
      at = r.at;
      own = rule_of own;
      is_own = r.is_own;
      of_origin = origin;
      left = left;
      right = subst E (sym right) derived;
      changed = subst C (sym right) (changes course k place (rule_of own) steps word r some);
      no_second = second;
      normal = subst N (sym right) r.normal;
    }
