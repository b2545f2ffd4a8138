-- What a finder knows: one line more, and what it finds.
use Rattle.std.proofs.Common.{◌≡◌, ℕ, zero, suc, ◌+◌, ◌<◌, ◌≤◌, List, [], ◌∷◌, ◌++◌, length, Some, sym, ◌∙◌, ap, subst, inl, inr, arith, length-append}
use Rattle.std.specs.Prelude.{slice_get}
use Rattle.std.specs.List.{Contains}
use Rattle.std.proofs.lemmas.Bool.{cases_lt}
use Rattle.std.proofs.lemmas.Option.{slice_get_within}
use Rattle.kb_word.specs.Words.{Pair}
use Rattle.kb_machine.specs.Lines.{numbered, rule_of, rules_of}
use Rattle.kb_machine.specs.declared.line.Line.{Line}
use Rattle.kb_machine.proofs.Numbers.{numbered_same, numbered_within, slice_get_last, slice_get_push_cases}
use Rattle.kb_book.proofs.Lists.{contained}
use Rattle.kb_share.proofs.LiveRules.{rule_of_line}
use Rattle.kb_share.proofs.Marks.{signature_within}
use Rattle.kb_share.specs.Finding.{side_of, row_of, HasAt, IsKeptAt, AgreesWith, KnowsLines, PicksAll, HasFactorAt}
use Rattle.kb_share.specs.Signatures.{HasMarks, IsSignature}
use Rattle.kb_share.specs.declared.finding.Finder.{Finder}
use Rattle.kb_share.specs.declared.finding.Kept.{Kept}
use Rattle.kb_share.specs.declared.finding.Side.{Side}
use Rattle.kb_share.specs.declared.finding.Side.TheVariants.{Left, Right}
use Rattle.kb_share.specs.declared.signature.Signature.{Signature}

none_at : {X : Type 0} (k : ℕ) (x : X) → slice_get [] k ≡ Some x → ⊥
none_at k x e = let within = slice_get_within [] k x e in omega (arith, within)

slice_get_front : {X : Type 0} (xs ys : List X) (k : ℕ) (x : X) → slice_get xs k ≡ Some x → slice_get (xs ++ ys) k ≡ Some x
slice_get_front [] ys k x e = absurd (none_at k x e)
slice_get_front (y ∷ xs) ys zero x e = e
slice_get_front (y ∷ xs) ys (suc k) x e = slice_get_front xs ys k x e

-- nothing is kept
pub agrees_nothing : (rules : List Pair) (kept : Kept) → kept.numbers.items ≡ [] → kept.lefts.items ≡ [] → kept.rights.items ≡ []
    → AgreesWith rules kept
agrees_nothing rules kept numbers lefts rights = record {
  lefts = ap length lefts ∙ sym (ap length numbers);
  rights = ap length rights ∙ sym (ap length numbers);
  each = λ place number at.
      absurd (none_at place number (subst (λ (xs : List ℕ). slice_get xs place ≡ Some number) numbers at));
}

-- a signature stays at its place, and a new one is the last
has_at_more : (row more : List Signature) (signature : Signature) (place : ℕ) (word : List ℕ) → more ≡ row ++ signature ∷ []
    → HasAt row place word → HasAt more place word
has_at_more row more signature place word is has = record {
  signature = has.signature;
  at = ap (λ (xs : List Signature). slice_get xs place) is ∙ slice_get_front row (signature ∷ []) place has.signature has.at;
  marks = has.marks;
}

has_at_last : (row more : List Signature) (signature : Signature) (place : ℕ) (word : List ℕ) → more ≡ row ++ signature ∷ []
    → place ≡ length row → HasMarks word signature.bits → HasAt more place word
has_at_last row more signature place word is last marks = record {
  signature = signature;
  at = ap (λ (xs : List Signature). slice_get xs place) is ∙ ap (slice_get (row ++ signature ∷ [])) last ∙ slice_get_last row signature;
  marks = marks;
}

length_one_more : {X Y : Type 0} (xs xs' : List X) (ys ys' : List Y) (x : X) (y : Y) → xs' ≡ xs ++ x ∷ [] → ys' ≡ ys ++ y ∷ []
    → length xs ≡ length ys → length xs' ≡ length ys'
length_one_more xs xs' ys ys' x y first second same =
    omega (arith, ap length first, ap length second, length-append xs (x ∷ []), length-append ys (y ∷ []), same)

-- a line more is kept
pub kept_more : (rules : List Pair) (before after : Kept) (number : ℕ) (rule : Pair) (left right : Signature)
    → after.numbers.items ≡ before.numbers.items ++ number ∷ [] → after.lefts.items ≡ before.lefts.items ++ left ∷ []
    → after.rights.items ≡ before.rights.items ++ right ∷ [] → HasMarks rule.0 left.bits → HasMarks rule.1 right.bits
    → numbered rules number ≡ Some rule → AgreesWith rules before → AgreesWith rules after
kept_more rules before after number rule left right numbers lefts rights left_marks right_marks is_rule agrees = record {
  lefts = length_one_more before.lefts.items after.lefts.items before.numbers.items after.numbers.items left number lefts numbers agrees.lefts;
  rights = length_one_more before.rights.items after.rights.items before.numbers.items after.numbers.items right number rights numbers agrees.rights;
  each = λ place other at.
      elim (slice_get_push_cases before.numbers.items number place other
      (subst (λ (xs : List ℕ). slice_get xs place ≡ Some other) numbers at)) [
        | inl old ↦
            let kept = agrees.each place other old in
            record {
              rule = kept.rule;
              is_rule = kept.is_rule;
              left = has_at_more before.lefts.items after.lefts.items left place kept.rule.0 lefts kept.left;
              right = has_at_more before.rights.items after.rights.items right place kept.rule.1 rights kept.right;
            }
        | inr new ↦ record {
          rule = rule;
          is_rule = subst (λ (n : ℕ). numbered rules n ≡ Some rule) new.1 is_rule;
          left = has_at_last before.lefts.items after.lefts.items left place rule.0 lefts (new.0 ∙ sym agrees.lefts) left_marks;
          right = has_at_last before.rights.items after.rights.items right place rule.1 rights (new.0 ∙ sym agrees.rights) right_marks;
        }
      ];
}

-- a line more is met
pub met_more : (before after : Finder) (lines : List Line) (live : List ℕ) (line : Line) (number : ℕ) → number ≡ before.met + 1
    → slice_get lines before.met ≡ Some line → KnowsLines before lines live → after.met ≡ number
    → AgreesWith (rules_of lines) after.kept
    → ((other : ℕ) → Contains before.kept.numbers.items other → Contains after.kept.numbers.items other)
    → (Contains live number → Contains after.kept.numbers.items number) → KnowsLines after lines live
met_more before after lines live line number next at knows met agrees old own = record {
  met = let within = slice_get_within lines before.met line at in omega (arith, next, met, within);
  agrees = agrees;
  all = λ other is_live low high. elim (cases_lt before.met other) [
    | inl late ↦
        let same : number ≡ other = omega (arith, next, met, high, late) in
        subst (λ (n : ℕ). Contains after.kept.numbers.items n) same (own (subst (λ (n : ℕ). Contains live n) (sym same) is_live))
    | inr early ↦ old other (knows.all other is_live low early)
  ];
}

-- the rule of a line that is met
pub met_rule : (lines : List Line) (met number : ℕ) (line : Line) → number ≡ met + 1 → slice_get lines met ≡ Some line
    → numbered (rules_of lines) number ≡ Some (rule_of line)
met_rule lines met number line next at =
    let same : number ≡ suc met = omega (arith, next) in
    subst (λ (n : ℕ). numbered (rules_of lines) n ≡ Some (rule_of line)) (sym same) (rule_of_line lines met line at)

-- what has a number isn't of number 0
above_zero : (rules : List Pair) (number : ℕ) (rule : Pair) → numbered rules number ≡ Some rule → 0 < number
above_zero rules zero rule e = absurd (cc e)
above_zero rules (suc index) rule e = omega arith

has_side : (side : Side) (kept : Kept) (rules : List Pair) (place number : ℕ) → (is : IsKeptAt rules kept place number)
    → HasAt (row_of kept side) place (side_of side is.rule)
has_side Left kept rules place number is = is.left
has_side Right kept rules place number is = is.right

-- a live line that has the factor is among those that are picked
pub picked_likely : (finder : Finder) (lines : List Line) (live : List ℕ) (side : Side) (word : List ℕ) (bits : ℕ) (likely : List ℕ)
    → KnowsLines finder lines live → length lines ≤ finder.met → IsSignature word bits → PicksAll finder.kept side bits likely
    → (number : ℕ) → HasFactorAt side lines live word number → Contains likely number
picked_likely finder lines live side word bits likely knows all signature picks number has =
    let kept = finder.kept in
    let rules = rules_of lines in
    let low = above_zero rules number has.rule has.is_rule in
    let high = numbered_within lines number has.rule has.is_rule in
    let stands : Contains kept.numbers.items number = knows.all number has.is_live low (omega (arith, high, all)) in
    let place : ℕ = stands.0 in
    let at = contained kept.numbers.items number stands in
    let is = knows.agrees.each place number at in
    let own = has_side side kept rules place number is in
    let same = numbered_same rules number is.rule has.rule is.is_rule has.is_rule in
    let marks : HasMarks (side_of side has.rule) own.signature.bits =
    subst (λ (rule : Pair). HasMarks (side_of side rule) own.signature.bits) same own.marks in
    picks place number own.signature (slice_get_within (row_of kept side) place own.signature own.at) at own.at
    (signature_within (side_of side has.rule) word own.signature.bits bits has.factor marks signature)
