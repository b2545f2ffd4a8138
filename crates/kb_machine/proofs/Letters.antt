-- No line brings new letters: derivations, critical pairs, lines and courses over the letters of the relations.
use Rattle.std.proofs.Common.{◌≡◌, ℕ, zero, suc, ◌+◌, ◌-◌, ◌<◌, ◌≤◌, List, [], ◌∷◌, ◌++◌, length, take, drop, Some, refl, sym, subst, inl, inr, arith}
use Rattle.std.specs.Prelude.{slice_get}
use Rattle.std.proofs.lemmas.Option.{IfSome_then}
use Rattle.std.proofs.lemmas.List.Elements.{All-append, All-take, All-drop}
use Rattle.kb_word.specs.Words.{Pair, OneOf}
use Rattle.kb_word.specs.Overlap.{critical_pair}
use Rattle.kb_word.specs.Relations.{IsOver}
use Rattle.kb_rules.proofs.Lists.{All-front, All-rest}
use Rattle.kb_machine.specs.Lines.{rule_of, rules_of, IsPairOf}
use Rattle.kb_machine.specs.Derivations.{Derives, DerivesBoth, Any}
use Rattle.kb_machine.specs.Justified.{ComesFromPair, ShortensRule, FollowsBy, IsJustified}
use Rattle.kb_machine.specs.Letters.{IsPairOver, AreOver, halted_pair, IsStateOver}
use Rattle.kb_machine.specs.States.{Problem, State}
use Rattle.kb_machine.specs.Course.{Waits, HaltSays, IsSound, waiting_line}
use Rattle.kb_machine.specs.declared.line.Line.{Line}
use Rattle.kb_machine.specs.declared.line.LogStep.{LogStep}
use Rattle.kb_machine.specs.declared.origin.Origin.{Origin}
use Rattle.kb_machine.specs.declared.origin.Origin.TheVariants.{Relation, Overlap, Killed, Shortened}
use Rattle.kb_machine.specs.declared.halt.Halt.{Halt}
use Rattle.kb_machine.specs.declared.halt.Halt.TheVariants.{Rules, Length}
use Rattle.kb_machine.proofs.Numbers.{numbered_one, slice_get_last}
use Rattle.kb_machine.proofs.Logs.{slice_get_take, line_of_rule}

-- ---- words

-- where a factor over the letters is replaced by a word over them, the whole stays over them
replaced_over : (n : ℕ) (u v before left right after : List ℕ) → u ≡ before ++ left ++ after → v ≡ before ++ right ++ after
    → IsOver n right → IsOver n u → IsOver n v
replaced_over n u v before left right after from to over_right over_u =
    let P : ℕ → Type 0 = λ x. (0 < x) × (x ≤ n) in
    let Q : List ℕ → Type 0 = λ w. IsOver n w in
    let front = All-front P (before ++ left) u after from over_u in
    let first = All-front P before (before ++ left) left refl front in
    let last = All-rest P after u (before ++ left) from over_u in
    subst Q (sym to) (All-append P (before ++ right) after (All-append P before right first over_right) last)

-- derivations by rules over the letters lead from words over them to words over them
derived_over : (n : ℕ) (allowed : ℕ → Type 0) (rules : List Pair) (u v : List ℕ) (steps : List LogStep) → AreOver n rules
    → Derives allowed rules u steps v → IsOver n u → IsOver n v
derived_over n allowed rules u v [] over same over_u = let Q : List ℕ → Type 0 = λ w. IsOver n w in subst Q same over_u
derived_over n allowed rules u v (step ∷ rest) over leads over_u =
    let first = leads.1 in
    let right = (over first.rule (numbered_one rules step.line first.rule first.is_rule)).1 in
    derived_over n allowed rules leads.0 v rest over leads.2
    (replaced_over n u leads.0 first.before first.rule.0 first.rule.1 first.after first.from first.to right over_u)

both_over : (n : ℕ) (allowed : ℕ → Type 0) (rules : List Pair) (pair : Pair) (first_steps second_steps : List LogStep) (u v : List ℕ)
    → AreOver n rules → IsPairOver n pair → DerivesBoth allowed rules pair first_steps second_steps u v → IsPairOver n (u, v)
both_over n allowed rules pair first_steps second_steps u v over of_pair both =
    let Q : List ℕ → Type 0 = λ w. IsOver n w in
    let one : IsOver n both.one = derived_over n allowed rules pair.0 both.one first_steps over both.first of_pair.0 in
    let other : IsOver n both.other = derived_over n allowed rules pair.1 both.other second_steps over both.second of_pair.1 in
    elim both.ends [
      | inl same ↦ (subst Q same.0 one, subst Q same.1 other)
      | inr same ↦ (subst Q same.1 other, subst Q same.0 one)
    ]

-- critical pairs of rules over the letters are over them
critical_over : (n : ℕ) (first second : Pair) (place : ℕ) → IsPairOver n first → IsPairOver n second
    → IsPairOver n (critical_pair first second place)
critical_over n first second place one other =
    let P : ℕ → Type 0 = λ x. (0 < x) × (x ≤ n) in
    let left = All-append P first.1 (drop (length first.0 - place) second.0) one.1
    (All-drop P (length first.0 - place) second.0 other.0) in
    let front = All-append P (take place first.0) second.1 (All-take P place first.0 one.0) other.1 in
    let back = All-drop P (place + length second.0) first.0 one.0 in
    (left, All-append P (take place first.0 ++ second.1) (drop (place + length second.0) first.0) front back)

-- so is the pair of an origin
pair_over : (n : ℕ) (relations rules : List Pair) (origin : Origin) (pair : Pair) → AreOver n relations → AreOver n rules
    → IsPairOf relations rules origin pair → IsPairOver n pair
pair_over n relations rules (Relation k) pair given over is = given pair (numbered_one relations k pair is)
pair_over n relations rules (Overlap i j place) pair given over is =
    let Q : Pair → Type 0 = λ one. IsPairOver n one in
    subst Q (sym is.is) (critical_over n is.first is.second place
    (over is.first (numbered_one rules i is.first is.overlap.is_first))
    (over is.second (numbered_one rules j is.second is.overlap.is_second)))
pair_over n relations rules (Killed k) pair given over is = over pair (numbered_one rules k pair is)
pair_over n relations rules (Shortened k) pair given over is = over pair (numbered_one rules k pair is)

-- ---- lines

comes_over : (n : ℕ) (relations earlier : List Pair) (line : Line) → AreOver n relations → AreOver n earlier
    → ComesFromPair relations earlier line → IsPairOver n (rule_of line)
comes_over n relations earlier line given over comes =
    both_over n Any earlier comes.pair line.first_steps.items line.second_steps.items line.left line.right over
    (pair_over n relations earlier line.origin comes.pair given over comes.is_pair) comes.derived

shortened_over : (n : ℕ) (earlier : List Pair) (k : ℕ) (line : Line) → AreOver n earlier → ShortensRule earlier k line
    → IsPairOver n (rule_of line)
shortened_over n earlier k line over shortens =
    let Q : List ℕ → Type 0 = λ w. IsOver n w in
    let sides = over shortens.rule (numbered_one earlier k shortens.rule shortens.is_rule) in (
      subst Q (sym shortens.left) sides.0,
      derived_over n Any earlier shortens.rule.1 line.right line.first_steps.items over shortens.right sides.1,
    )

follows_over : (n : ℕ) (relations earlier : List Pair) (origin : Origin) (line : Line) → AreOver n relations → AreOver n earlier
    → FollowsBy relations earlier origin line → IsPairOver n (rule_of line)
follows_over n relations earlier (Relation k) line given over comes = comes_over n relations earlier line given over comes
follows_over n relations earlier (Overlap i j place) line given over comes = comes_over n relations earlier line given over comes
follows_over n relations earlier (Killed k) line given over comes = comes_over n relations earlier line given over comes.0
follows_over n relations earlier (Shortened k) line given over shortens = shortened_over n earlier k line over shortens

-- the lines before an index are over the letters of the relations
lines_before_over : {below : List ℕ → List ℕ → Type 0} (n : ℕ) (relations : List Pair) (lines : List Line) → AreOver n relations
    → IsJustified below relations lines
    → (count index : ℕ) (line : Line) → index < count → slice_get lines index ≡ Some line → IsPairOver n (rule_of line)
lines_before_over n relations lines given justified zero index line within is_line = absurd (omega arith)
lines_before_over n relations lines given justified (suc count) index line within is_line =
    let over : (rule : Pair) → OneOf (take index (rules_of lines)) rule → IsPairOver n rule =
    λ rule one.
    let first = slice_get_take (rules_of lines) index one.0 rule one.1 in
    let less : one.0 < index = first.0 in
    let at = line_of_rule lines one.0 rule first.1 in
    let sides : IsPairOver n (rule_of at.line) =
    lines_before_over n relations lines given justified count one.0 at.line (omega arith) at.is_line in
    subst (λ (pair : Pair). IsPairOver n pair) (sym at.is) sides in
    follows_over n relations (take index (rules_of lines)) line.origin line given over (justified.follows index line is_line)

-- all lines are
pub justified_over : {below : List ℕ → List ℕ → Type 0} (n : ℕ) (relations : List Pair) (lines : List Line) → AreOver n relations
    → IsJustified below relations lines → AreOver n (rules_of lines)
justified_over n relations lines given justified rule one =
    let at = line_of_rule lines one.0 rule one.1 in
    let sides = lines_before_over n relations lines given justified (suc one.0) one.0 at.line (omega arith) at.is_line in
    subst (λ (pair : Pair). IsPairOver n pair) (sym at.is) sides

-- ---- courses

waiting_over : (n : ℕ) (problem : Problem) (state : State) (halt : Halt) → AreOver n problem.relations → (waits : Waits problem state halt)
    → IsPairOver n (rule_of (waiting_line waits.origin halt))
waiting_over n problem state halt given waits =
    let lines = state.lines ++ waiting_line waits.origin halt ∷ [] in
    lines_before_over n problem.relations lines given waits.justified (suc (length state.lines)) (length state.lines)
    (waiting_line waits.origin halt) (omega arith) (slice_get_last state.lines (waiting_line waits.origin halt))

halted_over : (n : ℕ) (problem : Problem) (state : State) (halt : Halt) → AreOver n problem.relations → HaltSays problem state halt
    → IsPairOver n (halted_pair halt)
halted_over n problem state (Rules u v first second) given says =
    waiting_over n problem state (Rules u v first second) given says.1
halted_over n problem state (Length u v first second) given says =
    waiting_over n problem state (Length u v first second) given says.2

-- what is sound is over the letters of the relations
pub sound_over : (n : ℕ) (problem : Problem) (state : State) → AreOver n problem.relations → IsSound problem state
    → IsStateOver n problem state
sound_over n problem state given sound =
    let lines = justified_over n problem.relations state.lines given sound.justified in
    record {
      lines = lines;
      pending =
          λ pair pending. pair_over n problem.relations (rules_of state.lines) pending.0 pair given lines pending.2;
      halted = IfSome_then state.halt sound.halted (λ halt says. halted_over n problem state halt given says);
    }
