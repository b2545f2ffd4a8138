-- What follows from a verdict.
use Rattle.std.specs.Prelude.{Result, Ok, Err, IfOk, ◌↔◌}
use Rattle.std.proofs.Common.{◌≡◌, ℕ, zero, suc, ◌+◌, List, refl, sym, ◌∙◌, subst, add-one}
use Rattle.kb_word.specs.Words.{Pair, OneOf}
use Rattle.kb_word.specs.Congruence.{Congruent}
use Rattle.kb_word.specs.Overlap.{IsResolved, IsUnresolved, IsConfluent, critical_pair, superposition}
use Rattle.kb_word.proofs.PathLemmas.{Replaces-implied, congruent_by_replacement, congruent_symmetric, congruent_transitive}
use Rattle.kb_rules.proofs.Unique.{normal_form_unique}
use Rattle.kb_rules.proofs.Reducts.{normal_form_congruent}
use Rattle.kb_rules.proofs.Superposed.{replaced-by-first, replaced-by-second}
use Rattle.kb_confluence.specs.declared.confluence.Verdict.{Verdict}
use Rattle.kb_confluence.specs.declared.confluence.Verdict.TheVariants.{Yes, No}
use Rattle.kb_confluence.specs.FirstApart.{IsFirstApart, IsCounterexample}
use Rattle.kb_confluence.specs.Answers.{IsVerdict, GivesCounterexample}
use Rattle.kb_confluence.specs.Rows.{IsFirstOfRow, IsRowVerdict}

-- rules are numbered one above their indices
pub no_numbered : (rules : List Pair) (i j place : ℕ) (u v : List ℕ) → IsFirstOfRow rules i j place u v
    → IsRowVerdict rules i (No (i + 1) (j + 1) place u v)
no_numbered rules i j place u v apart = rw (add-one j) (refl, apart)

pub parts_refute : {rules : List Pair} {pair : Pair} {u v : List ℕ} → IsUnresolved rules pair u v → ¬ IsResolved rules pair
parts_refute parts joined = parts.different (normal_form_unique parts.left joined.left ∙ normal_form_unique joined.right parts.right)

pub apart_refutes : (rules : List Pair) (i j place : ℕ) (u v : List ℕ) → IsFirstApart rules i j place u v → ¬ IsConfluent rules
apart_refutes rules i j place u v apart confluent =
    parts_refute apart.parts (confluent i j place apart.first apart.second apart.overlap)

one_of : (rules : List Pair) (rule : Pair) → OneOf rules rule → (pair : Pair) → pair ≡ rule → OneOf rules pair
one_of rules rule is_rule pair e = let P : Pair → Type 0 = λ other. OneOf rules other in subst P (sym e) is_rule

-- both words of an overlap that is apart come from the superposition
pub counterexample : (rules : List Pair) (i j place : ℕ) (u v : List ℕ) → IsFirstApart rules i j place u v → IsCounterexample rules u v
counterexample rules i j place u v apart =
    let first = apart.first in let second = apart.second in let overlap = apart.overlap in
    let whole = superposition first.0 second.0 place in
    let pair : Pair = critical_pair first second place in
    let left : Congruent (OneOf rules) whole u =
    congruent_transitive
    (congruent_by_replacement (Replaces-implied (one_of rules first (i, overlap.is_first)) (replaced-by-first first second place overlap.overlaps)))
    (normal_form_congruent apart.parts.left) in
    let right : Congruent (OneOf rules) whole v =
    congruent_transitive
    (congruent_by_replacement (Replaces-implied (one_of rules second (j, overlap.is_second)) (replaced-by-second first second place overlap.overlaps)))
    (normal_form_congruent apart.parts.right) in
    record {
      different = apart.parts.different;
      left = apart.parts.left.irreducible;
      right = apart.parts.right.irreducible;
      congruent = congruent_transitive (congruent_symmetric left) right;
    }

pub verdict_counterexample : (rules : List Pair) (verdict : Verdict) → IsVerdict rules verdict → GivesCounterexample rules verdict
verdict_counterexample rules Yes holds = tt
verdict_counterexample rules (No zero j place u v) holds = absurd holds
verdict_counterexample rules (No (suc i) zero place u v) holds = absurd holds
verdict_counterexample rules (No (suc i) (suc j) place u v) holds = counterexample rules i j place u v holds

pub yes_confluent : (rules : List Pair) (verdict : Verdict) → IsVerdict rules verdict → verdict ≡ Yes → IsConfluent rules
yes_confluent rules verdict holds e = subst (IsVerdict rules) e holds

pub confluent_yes : (rules : List Pair) (verdict : Verdict) → IsVerdict rules verdict → IsConfluent rules → verdict ≡ Yes
confluent_yes rules Yes holds confluent = refl
confluent_yes rules (No zero j place u v) holds confluent = absurd holds
confluent_yes rules (No (suc i) zero place u v) holds confluent = absurd holds
confluent_yes rules (No (suc i) (suc j) place u v) holds confluent = absurd (apart_refutes rules i j place u v holds confluent)

pub answer_confluent : {E : Type 0} (rules : List Pair) (answer : Result Verdict E) → IfOk answer (IsVerdict rules)
    → IfOk answer (λ verdict. (verdict ≡ Yes) ↔ IsConfluent rules)
answer_confluent rules (Ok verdict) holds = (yes_confluent rules verdict holds, confluent_yes rules verdict holds)
answer_confluent rules (Err error) holds = tt

pub answer_counterexample : {E : Type 0} (rules : List Pair) (answer : Result Verdict E) → IfOk answer (IsVerdict rules)
    → IfOk answer (GivesCounterexample rules)
answer_counterexample rules (Ok verdict) holds = verdict_counterexample rules verdict holds
answer_counterexample rules (Err error) holds = tt
