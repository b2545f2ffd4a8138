-- The event by which a line is replaced, and the rules that are live then.
use Rattle.std.proofs.Common.{◌≡◌, ℕ, suc, ◌<◌, ◌≤◌, ◌+◌, List, [], ◌∷◌, ◌++◌, length, map, take, drop, Some, refl, sym, subst, inl, inr}
use Rattle.std.specs.List.{remove}
use Rattle.kb_word.specs.Words.{Pair}
use Rattle.kb_word.specs.WordOrders.{Below}
use Rattle.kb_word.specs.WordOrderLaws.{word_orders}
use Rattle.kb_machine.specs.declared.line.Line.{Line}
use Rattle.kb_machine.specs.Lines.{numbered, rule_of, rules_of}
use Rattle.kb_machine.specs.States.{below, rule_numbered}
use Rattle.kb_machine.specs.Course.{Course, IsCourse}
use Rattle.kb_machine.specs.declared.event.Event.{Event}
use Rattle.kb_machine.specs.declared.event.Event.TheVariants.{Shortened}
use Rattle.kb_book.specs.Answers.{ShortensLine}
use Rattle.kb_book.specs.Shorter.{IsShorter}
use Rattle.kb_book.proofs.Lists.{parts_at, All-remove, numbered_one}
use Rattle.kb_book.proofs.Courses.{course_keeps, derived_at_most}
use Rattle.kb_book.proofs.Derived.{AreNumbers}
use Rattle.kb_book.proofs.Removal.{rules_without}
use Rattle.kb_book.proofs.Events.{numbered_last, rules_with}

pub shortened : (before : Course) (k place new : ℕ) (line : Line) (lines : List Line) (live : List ℕ)
    (versions : List (List ℕ)) (journal : List Event) → IsShorter before k place line → new ≡ length before.state.lines + 1
    → lines ≡ before.state.lines ++ line ∷ [] → live ≡ remove before.state.live place ++ new ∷ []
    → versions ≡ before.state.versions → journal ≡ before.journal ++ Shortened k new ∷ []
    → ShortensLine before (record {
      problem = before.problem;
      state = record before.state { lines = lines; live = live; versions = versions };
      journal = journal;
    }) k new
shortened before k place new line lines live versions journal is number is_lines is_live are_versions is_journal =
    let P : List Line → Type 0 = λ l. numbered (rules_of l) new ≡ Some (rule_of line) in
    record {
      takes = record {
        problem = refl;
        journal = is_journal;
        step = record {
          running = is.running;
          earlier = take place before.state.live;
          later = drop (suc place) before.state.live;
          is_live = parts_at before.state.live place k is.at;
          own = is.own;
          is_own = is.is_own;
          line = line;
          number = number;
          room = is.room;
          of_origin = is.of_origin;
          left = is.left;
          right = is.right;
          changed = is.changed;
          no_second = is.no_second;
          is = cc (is_lines, is_live, are_versions);
        };
      };
      own = is.own;
      is_own = is.is_own;
      rule = rule_of line;
      is_rule = subst P (sym is_lines) (numbered_last before.state.lines line new number);
      normal = is.normal;
    }

-- its right side is less than its left side
pub shorter_decreases : (course : Course) (k place : ℕ) (line : Line) → IsCourse course → IsShorter course k place line
    → below course.problem line.right line.left
shorter_decreases course k place line is_course is =
    let order = course.problem.order in
    let falling = (course_keeps course is_course).falling in
    let own : Below order is.own.1 is.own.0 = falling is.own (numbered_one (rules_of course.state.lines) k is.own is.is_own) in
    let P : List ℕ → Type 0 = λ w. Below order line.right w in
    let Q : List ℕ → Type 0 = λ w. Below order w is.own.0 in
    subst P (sym is.left) (elim (derived_at_most order _ (rules_of course.state.lines) falling is.own.1 line.first_steps.items line.right is.right) [
      | inl same ↦ subst Q (sym same) own
      | inr lower ↦ (word_orders order).transitive line.right is.own.1 is.own.0 lower own
    ])

-- the rules without that of the line, and with the new one
pub rules_replaced : (lines : List Line) (live : List ℕ) (place : ℕ) (line : Line) (new : ℕ) (rules removed rules' : List Pair)
    (lines' : List Line) (live' : List ℕ) → AreNumbers lines live → new ≡ length lines + 1
    → rules ≡ map (rule_numbered lines) live → removed ≡ remove rules place → rules' ≡ removed ++ rule_of line ∷ []
    → lines' ≡ lines ++ line ∷ [] → live' ≡ remove live place ++ new ∷ []
    → rules' ≡ map (rule_numbered lines') live'
rules_replaced lines live place line new rules removed rules' lines' live' numbers is are gone pushed is_lines is_live =
    let f = rule_numbered lines in
    rules_with lines (remove live place) line new removed rules' lines' live'
    (All-remove (λ k. (0 < k) × (k ≤ length lines)) live place numbers) is
    (rules_without f live (remove live place) rules removed place are gone refl) pushed is_lines is_live
