-- Rules by their numbers, where lines are added.
use Rattle.std.proofs.Common.{◌≡◌, ◌⊎◌, ℕ, zero, suc, ◌+◌, ◌≤◌, List, [], ◌∷◌, ◌++◌, length, take, Some, refl, sym, ap, ◌∙◌, subst, inl, inr, arith}
use Rattle.std.specs.Prelude.{slice_get}
use Rattle.std.proofs.lemmas.List.{map-append, length-map, take-append-le}
use Rattle.std.proofs.lemmas.Grind.{common_steps}
use Rattle.kb_word.specs.Words.{Pair, OneOf}
use Rattle.kb_machine.specs.Lines.{numbered, rule_of, rules_of, IsPairOf}
use Rattle.kb_machine.specs.Justified.{HasAnotherFactor}
use Rattle.kb_machine.specs.declared.line.Line.{Line}
use Rattle.kb_machine.specs.declared.origin.Origin.{Origin}
use Rattle.kb_machine.specs.declared.origin.Origin.TheVariants.{Relation, Overlap, Killed, Shortened}

-- what has a number is one of the list
pub numbered_one : (rules : List Pair) (k : ℕ) (rule : Pair) → numbered rules k ≡ Some rule → OneOf rules rule
numbered_one rules zero rule e = absurd (cc e)
numbered_one rules (suc index) rule e = (index, e)

-- one number names one thing
pub numbered_same : {X : Type 0} (list : List X) (k : ℕ) (x y : X) → numbered list k ≡ Some x
    → numbered list k ≡ Some y → x ≡ y
numbered_same list k x y first second = cc

slice_get_within : {X : Type 0} (xs : List X) (k : ℕ) (x : X) → slice_get xs k ≡ Some x → k + 1 ≤ length xs
slice_get_within [] k x e = absurd (cc e)
slice_get_within (y ∷ xs) zero x e = omega arith
slice_get_within (y ∷ xs) (suc k) x e = let rest = slice_get_within xs k x e in omega arith

-- a number is at most the count
pub numbered_within : (lines : List Line) (k : ℕ) (rule : Pair) → numbered (rules_of lines) k ≡ Some rule
    → k ≤ length lines
numbered_within lines zero rule e = omega arith
numbered_within lines (suc index) rule e =
    let within = slice_get_within (rules_of lines) index rule e in
    omega (arith, length-map lines rule_of)

pub slice_get_front : {X : Type 0} (xs ys : List X) (k : ℕ) (x : X) → slice_get xs k ≡ Some x
    → slice_get (xs ++ ys) k ≡ Some x
slice_get_front [] ys k x e = absurd (cc e)
slice_get_front (y ∷ xs) ys zero x e = e
slice_get_front (y ∷ xs) ys (suc k) x e = slice_get_front xs ys k x e

numbered_front : {X : Type 0} (xs ys : List X) (k : ℕ) (x : X) → numbered xs k ≡ Some x → numbered (xs ++ ys) k ≡ Some x
numbered_front xs ys zero x e = absurd (cc e)
numbered_front xs ys (suc index) x e = slice_get_front xs ys index x e

-- the place after a list is that of what is added
pub slice_get_last : {X : Type 0} (xs : List X) (x : X) → slice_get (xs ++ x ∷ []) (length xs) ≡ Some x
slice_get_last [] x = refl
slice_get_last (y ∷ xs) x = slice_get_last xs x

-- what stands at a place of a list with one more stood there before, or is what was added
pub slice_get_push_cases : {X : Type 0} (xs : List X) (x : X) (k : ℕ) (y : X) → slice_get (xs ++ x ∷ []) k ≡ Some y
    → (slice_get xs k ≡ Some y) ⊎ ((k ≡ length xs) × (x ≡ y))
slice_get_push_cases [] x zero y e = inr (refl, cc e)
slice_get_push_cases [] x (suc k) y e = absurd (cc e)
slice_get_push_cases (z ∷ xs) x zero y e = inl e
slice_get_push_cases (z ∷ xs) x (suc k) y e = elim (slice_get_push_cases xs x k y e) [
  | inl before ↦ inl before
  | inr here ↦ inr (ap suc here.0, here.1)
]

-- rules that keep the numbers of others
abbrev pub Extends : List Pair → List Pair → Type 0
Extends rules more = (k : ℕ) (rule : Pair) → numbered rules k ≡ Some rule → numbered more k ≡ Some rule

-- the rules of lines to which one is added
pub rules_push : (lines : List Line) (line : Line) → rules_of (lines ++ line ∷ []) ≡ rules_of lines ++ rule_of line ∷ []
rules_push lines line = map-append rule_of lines (line ∷ [])

-- where a line is added, the others keep their numbers
pub extends_push : (lines : List Line) (line : Line) → Extends (rules_of lines) (rules_of (lines ++ line ∷ []))
extends_push lines line k rule e =
    let P : List Pair → Type 0 = λ rules. numbered rules k ≡ Some rule in
    subst P (sym (rules_push lines line)) (numbered_front (rules_of lines) (rule_of line ∷ []) k rule e)

-- a rule of these lines is one of the lines before, or that of the line that was added
pub rules_push_cases : (lines : List Line) (line : Line) (rule : Pair) → OneOf (rules_of (lines ++ line ∷ [])) rule
    → OneOf (rules_of lines) rule ⊎ (rule_of line ≡ rule)
rules_push_cases lines line rule one =
    let P : List Pair → Type 0 = λ rules. slice_get rules one.0 ≡ Some rule in
    elim (slice_get_push_cases (rules_of lines) (rule_of line) one.0 rule (subst P (rules_push lines line) one.1)) [
      | inl before ↦ inl (one.0, before)
      | inr here ↦ inr here.1
    ]

-- the number of the line that was added
pub numbered_last : (lines : List Line) (line : Line) (k : ℕ) → k ≡ length lines + 1
    → numbered (rules_of (lines ++ line ∷ [])) k ≡ Some (rule_of line)
numbered_last lines line k is =
    let P : List Pair → Type 0 = λ rules. numbered rules (suc (length lines)) ≡ Some (rule_of line) in
    let Q : ℕ → Type 0 = λ index. slice_get (rules_of lines ++ rule_of line ∷ []) index ≡ Some (rule_of line) in
    let R : ℕ → Type 0 = λ j. numbered (rules_of (lines ++ line ∷ [])) j ≡ Some (rule_of line) in
    let at : suc (length lines) ≡ k = omega arith in
    let last : Q (length lines) = subst Q (length-map lines rule_of) (slice_get_last (rules_of lines) (rule_of line)) in
    subst R at (subst P (sym (rules_push lines line)) last)

-- the first rules stay the same where a line is added
pub take_rules : (lines : List Line) (line : Line) (index : ℕ) → index ≤ length lines
    → take index (rules_of (lines ++ line ∷ [])) ≡ take index (rules_of lines)
take_rules lines line index within =
    ap (take index) (rules_push lines line)
    ∙ take-append-le index (rules_of lines) (rule_of line ∷ []) (omega (arith, length-map lines rule_of))

-- all of them come before the line that was added
pub take_rules_all : (lines : List Line) (line : Line)
    → take (length lines) (rules_of (lines ++ line ∷ [])) ≡ rules_of lines
take_rules_all lines line =
    take_rules lines line (length lines) (omega arith) ∙ grind (arith, common_steps)

-- an origin names the same pair among more rules
pub pair_extends : (relations rules more : List Pair) (origin : Origin) (pair : Pair) → Extends rules more
    → IsPairOf relations rules origin pair → IsPairOf relations more origin pair
pair_extends relations rules more (Relation k) pair extends is = is
pair_extends relations rules more (Overlap i j place) pair extends is = record {
  first = is.first;
  second = is.second;
  overlap = record {
    is_first = extends i is.first is.overlap.is_first;
    is_second = extends j is.second is.overlap.is_second;
    overlaps = is.overlap.overlaps;
    proper = is.overlap.proper;
  };
  is = is.is;
}
pair_extends relations rules more (Killed k) pair extends is = extends k pair is
pair_extends relations rules more (Shortened k) pair extends is = extends k pair is

-- an origin names one pair
pub pair_same : (relations rules : List Pair) (origin : Origin) (pair other : Pair)
    → IsPairOf relations rules origin pair → IsPairOf relations rules origin other → pair ≡ other
pair_same relations rules (Relation k) pair other one two = numbered_same relations k pair other one two
pair_same relations rules (Overlap i j place) pair other one two =
    let first : one.first ≡ two.first = numbered_same rules i one.first two.first one.overlap.is_first
    two.overlap.is_first in
    let second : one.second ≡ two.second =
    numbered_same rules j one.second two.second one.overlap.is_second two.overlap.is_second in
    cc (one.is, two.is)
pair_same relations rules (Killed k) pair other one two = numbered_same rules k pair other one two
pair_same relations rules (Shortened k) pair other one two = numbered_same rules k pair other one two

-- a rule's left side has that of another as a factor among more rules too
pub another_factor_extends : (rules more : List Pair) (k : ℕ) → Extends rules more → HasAnotherFactor rules k
    → HasAnotherFactor more k
another_factor_extends rules more k extends has = record {
  own = has.own;
  other = has.other;
  rule = has.rule;
  is_own = extends k has.own has.is_own;
  is_rule = extends has.other has.rule has.is_rule;
  another = has.another;
  factor = has.factor;
}
