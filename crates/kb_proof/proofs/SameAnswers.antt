-- Logs that say the same have one answer.
use Rattle.std.proofs.Common.{◌≡◌, ◌∙◌, ℕ, zero, suc, List, [], ◌∷◌, take, Option, Some, None, refl, sym, subst}
use Rattle.std.specs.Prelude.{◌⊎◌, slice_get}
use Rattle.std.specs.List.{AllZip}
use Rattle.std.proofs.lemmas.Option.{none-some, same_Some}
use Rattle.std.proofs.lemmas.Slice.Zip.{AllZip-long}
use Rattle.kb_word.specs.Words.{Pair}
use Rattle.kb_machine.specs.Derivations.{Any, Derives, DerivesBoth}
use Rattle.kb_machine.specs.Justified.{HasAnotherFactor}
use Rattle.kb_machine.specs.Lines.{rules_of, IsPairOf}
use Rattle.kb_machine.specs.declared.line.Line.{Line}
use Rattle.kb_machine.specs.declared.line.LogStep.{LogStep}
use Rattle.kb_machine.specs.declared.origin.Origin.{Origin as LineOrigin}
use Rattle.kb_proof.specs.Printable.{IsShortening}
use Rattle.kb_proof.specs.Same.{AreSameLines, AreSameLogs, WaitSame}
use Rattle.kb_proof.specs.Verifying.{IsUsed, HasOriginFault, ComesFrom, LeadNowhere, HasFailingStep, OfItsPair, HasLeftSide, HasFault, HasWaitingFault, HasFaultAt, IsFirstFault, VerifiedSays}
use Rattle.kb_proof.specs.Verifying.HasOriginFault.{names_none, used_again, replaced_again, killed_alone}
use Rattle.kb_proof.specs.Verifying.ComesFrom.{from_both, from_right}
use Rattle.kb_proof.specs.Verifying.HasFailingStep.{first_fails, second_fails, right_fails, second_given}
use Rattle.kb_proof.specs.Verifying.HasFaultAt.{of_line, of_waiting}
use Rattle.kb_proof.specs.declared.log.Log.{Log}
use Rattle.kb_proof.specs.declared.verified.Why.{Why}
use Rattle.kb_proof.specs.declared.verified.Why.TheVariants as reasons
use Rattle.kb_proof.specs.declared.verified.Verified.{Verified}
use Rattle.kb_proof.specs.declared.verified.Verified.TheVariants.{Yes, No}
use Rattle.kb_proof.proofs.OneAnswer.{no_fault_at, one_answer}

-- ---- lines

line_back : {one other : Line} → AreSameLines one other → AreSameLines other one
line_back same = record {
  origin = sym same.origin;
  left = sym same.left;
  right = sym same.right;
  first_steps = sym same.first_steps;
  second_steps = sym same.second_steps;
}

-- what is said of the origin, the sides and the derivations of a line is said of a line that says the same
kept_along : {one other : Line} → AreSameLines one other
    → (says : LineOrigin → List ℕ → List ℕ → List LogStep → List LogStep → Type 0)
    → says one.origin one.left one.right one.first_steps.items one.second_steps.items
    → says other.origin other.left other.right other.first_steps.items other.second_steps.items
kept_along {one = one} {other = other} same says said =
    let ofOrigin : LineOrigin → Type 0 = λ o. says o one.left one.right one.first_steps.items one.second_steps.items in
    let ofLeft : List ℕ → Type 0 = λ u. says other.origin u one.right one.first_steps.items one.second_steps.items in
    let ofRight : List ℕ → Type 0 = λ v. says other.origin other.left v one.first_steps.items one.second_steps.items in
    let ofFirst : List LogStep → Type 0 = λ steps. says other.origin other.left other.right steps one.second_steps.items in
    let ofSecond : List LogStep → Type 0 = λ steps. says other.origin other.left other.right other.first_steps.items steps in
    subst ofSecond same.second_steps
    (subst ofFirst same.first_steps
    (subst ofRight same.right (subst ofLeft same.left (subst ofOrigin same.origin said))))

-- ---- derivations

module _ (rules : List Pair) {one other : Line} (same : AreSameLines one other) where
  longer_kept : ¬ IsShortening one.origin → ¬ IsShortening other.origin
  longer_kept not = kept_along same (λ o u v first second. ¬ IsShortening o) not

  shorter_kept : IsShortening one.origin → IsShortening other.origin
  shorter_kept is = kept_along same (λ o u v first second. IsShortening o) is

  comes_kept : (pair : Pair) → ComesFrom rules pair one → ComesFrom rules pair other
  comes_kept pair (from_both not derives) =
      from_both (longer_kept not) (kept_along same (λ o u v first second. DerivesBoth Any rules pair first second u v) derives)
  comes_kept pair (from_right is left derives changed none) =
      from_right (shorter_kept is) (kept_along same (λ o u v first second. u ≡ pair.0) left)
      (kept_along same (λ o u v first second. Derives Any rules pair.1 first v) derives)
      (kept_along same (λ o u v first second. ¬ (v ≡ pair.1)) changed)
      (kept_along same (λ o u v first second. second ≡ []) none)

  fails_kept : (pair : Pair) → HasFailingStep rules pair one → HasFailingStep rules pair other
  fails_kept pair (first_fails not fails) =
      first_fails (longer_kept not) (kept_along same (λ o u v first second. LeadNowhere rules pair.0 first) fails)
  fails_kept pair (second_fails not fails) =
      second_fails (longer_kept not) (kept_along same (λ o u v first second. LeadNowhere rules pair.1 second) fails)
  fails_kept pair (right_fails is fails) =
      right_fails (shorter_kept is) (kept_along same (λ o u v first second. LeadNowhere rules pair.1 first) fails)
  fails_kept pair (second_given is given) =
      second_given (shorter_kept is) (kept_along same (λ o u v first second. ¬ (second ≡ [])) given)

  pair_kept : (relations : List Pair) (pair : Pair) → IsPairOf relations rules one.origin pair → IsPairOf relations rules other.origin pair
  pair_kept relations pair is = kept_along same (λ o u v first second. IsPairOf relations rules o pair) is

-- ---- a line with a fault

module _ (below : List ℕ → List ℕ → Type 0) (relations : List Pair) (earlier : List Line) {one other : Line} (same : AreSameLines one other) where
  fault_of_line : (why : Why) → HasFault below relations earlier one why → HasFault below relations earlier other why
  fault_of_line reasons.Origin fault = kept_along same (λ o u v first second. HasOriginFault relations earlier o) fault
  fault_of_line reasons.Step fault = record {
    pair = fault.pair;
    is_pair = pair_kept (rules_of earlier) same relations fault.pair fault.is_pair;
    said = fails_kept (rules_of earlier) same fault.pair fault.said;
  }
  fault_of_line reasons.Result fault = record {
    pair = fault.pair;
    is_pair = pair_kept (rules_of earlier) same relations fault.pair fault.is_pair;
    said = λ comes. fault.said (comes_kept (rules_of earlier) (line_back same) fault.pair comes);
  }
  fault_of_line reasons.Order fault = kept_along same (λ o u v first second. ¬ below v u) fault
  fault_of_line reasons.Earlier fault =
      (kept_along same (λ o u v first second. ¬ IsShortening o) fault.0, kept_along same (λ o u v first second. HasLeftSide (rules_of earlier) u) fault.1)

  waiting_of_line : (why : Why) → HasWaitingFault below relations earlier one why → HasWaitingFault below relations earlier other why
  waiting_of_line reasons.Origin fault = fault_of_line reasons.Origin fault
  waiting_of_line reasons.Step fault = fault_of_line reasons.Step fault
  waiting_of_line reasons.Result fault = fault_of_line reasons.Result fault
  waiting_of_line reasons.Order fault = fault_of_line reasons.Order fault
  waiting_of_line reasons.Earlier fault =
      kept_along same (λ o u v first second. HasLeftSide (rules_of earlier) u ⊎ HasLeftSide (rules_of earlier) v) fault

-- ---- lines before it

lines_back : (xs ys : List Line) → AllZip AreSameLines xs ys → AllZip AreSameLines ys xs
lines_back [] [] all = tt
lines_back [] (y ∷ ys) all = absurd all
lines_back (x ∷ xs) [] all = absurd all
lines_back (x ∷ xs) (y ∷ ys) all = (line_back all.0, lines_back xs ys all.1)

-- lines that say the same have the same rules
pub rules_same : (xs ys : List Line) → AllZip AreSameLines xs ys → rules_of xs ≡ rules_of ys
rules_same [] [] all = refl
rules_same [] (y ∷ ys) all = absurd all
rules_same (x ∷ xs) [] all = absurd all
rules_same (x ∷ xs) (y ∷ ys) all =
    let rest = rules_same xs ys all.1 in
    let left = all.0.left in
    let right = all.0.right in
    cc (left, right, rest)

fronts_same : (index : ℕ) (xs ys : List Line) → AllZip AreSameLines xs ys → AllZip AreSameLines (take index xs) (take index ys)
fronts_same zero xs ys all = tt
fronts_same (suc index) [] [] all = tt
fronts_same (suc index) [] (y ∷ ys) all = absurd all
fronts_same (suc index) (x ∷ xs) [] all = absurd all
fronts_same (suc index) (x ∷ xs) (y ∷ ys) all = (all.0, fronts_same index xs ys all.1)

-- the line at the index says the same
record IsBeside (ys : List Line) (index : ℕ) (line : Line) : Type 0 where
  other : Line
  at : slice_get ys index ≡ Some other
  same : AreSameLines line other

beside : (xs ys : List Line) → AllZip AreSameLines xs ys → (index : ℕ) (line : Line) → slice_get xs index ≡ Some line → IsBeside ys index line
beside [] ys all index line at = absurd (none-some line at)
beside (x ∷ xs) [] all index line at = absurd all
beside (x ∷ xs) (y ∷ ys) all zero line at =
    let P : Line → Type 0 = λ l. AreSameLines l y in
    record { other = y; at = refl; same = subst P (same_Some x line at) all.0 }
beside (x ∷ xs) (y ∷ ys) all (suc index) line at =
    let there = beside xs ys all.1 index line at in
    record { other = there.other; at = there.at; same = there.same }

used_kept : (used : LineOrigin → Option ℕ) (xs ys : List Line) → AllZip AreSameLines xs ys → (k : ℕ) → IsUsed used xs k → IsUsed used ys k
used_kept used xs ys all k is =
    let there = beside xs ys all is.index is.line is.at in
    record {
      index = is.index;
      line = there.other;
      at = there.at;
      uses = kept_along there.same (λ o u v first second. used o ≡ Some k) is.uses;
    }

module _ (below : List ℕ → List ℕ → Type 0) (relations : List Pair) (xs ys : List Line) (all : AllZip AreSameLines xs ys) where
  -- what is said of the rules of the lines
  by_rules : (says : List Pair → Type 0) → says (rules_of xs) → says (rules_of ys)
  by_rules says said = subst says (rules_same xs ys all) said

  origin_behind : (origin : LineOrigin) → HasOriginFault relations xs origin → HasOriginFault relations ys origin
  origin_behind origin (names_none none) = names_none (by_rules (λ rules. (pair : Pair) → ¬ IsPairOf relations rules origin pair) none)
  origin_behind origin (used_again k is used) = used_again k is (used_kept _ xs ys all k used)
  origin_behind origin (replaced_again k is used) = replaced_again k is (used_kept _ xs ys all k used)
  origin_behind origin (killed_alone k is alone) = killed_alone k is (by_rules (λ rules. ¬ HasAnotherFactor rules k) alone)

  fault_behind : (line : Line) (why : Why) → HasFault below relations xs line why → HasFault below relations ys line why
  fault_behind line reasons.Origin fault = origin_behind line.origin fault
  fault_behind line reasons.Step fault = by_rules (λ rules. OfItsPair relations rules line (λ pair. HasFailingStep rules pair line)) fault
  fault_behind line reasons.Result fault = by_rules (λ rules. OfItsPair relations rules line (λ pair. ¬ ComesFrom rules pair line)) fault
  fault_behind line reasons.Order fault = fault
  fault_behind line reasons.Earlier fault = (fault.0, by_rules (λ rules. HasLeftSide rules line.left) fault.1)

  waiting_behind : (line : Line) (why : Why) → HasWaitingFault below relations xs line why → HasWaitingFault below relations ys line why
  waiting_behind line reasons.Origin fault = fault_behind line reasons.Origin fault
  waiting_behind line reasons.Step fault = fault_behind line reasons.Step fault
  waiting_behind line reasons.Result fault = fault_behind line reasons.Result fault
  waiting_behind line reasons.Order fault = fault
  waiting_behind line reasons.Earlier fault = by_rules (λ rules. HasLeftSide rules line.left ⊎ HasLeftSide rules line.right) fault

-- ---- logs

-- the pair that waits says the same
record WaitsBeside (waiting : Option Line) (line : Line) : Type 0 where
  other : Line
  is : waiting ≡ Some other
  same : AreSameLines line other

waits_beside : (one other : Option Line) → WaitSame one other → (line : Line) → one ≡ Some line → WaitsBeside other line
waits_beside None other same line is = absurd (none-some line is)
waits_beside (Some one) None same line is = absurd same
waits_beside (Some one) (Some other) same line is =
    let P : Line → Type 0 = λ l. AreSameLines l other in
    record { other = other; is = refl; same = subst P (same_Some one line is) same }

waiting_back : (one other : Option Line) → WaitSame one other → WaitSame other one
waiting_back None None same = tt
waiting_back None (Some other) same = absurd same
waiting_back (Some one) None same = absurd same
waiting_back (Some one) (Some other) same = line_back same

log_back : {one other : Log} → AreSameLogs one other → AreSameLogs other one
log_back {one = one} {other = other} same = record {
  version = sym same.version;
  lines = lines_back one.lines.items other.lines.items same.lines;
  waiting = waiting_back one.waiting other.waiting same.waiting;
}

-- the same lines have the same faults
pub fault_kept : (below : List ℕ → List ℕ → Type 0) (relations : List Pair) (one other : Log) → AreSameLogs one other
    → (index : ℕ) (why : Why) → HasFaultAt below relations one index why → HasFaultAt below relations other index why
fault_kept below relations one other same index why (of_line line at fault) =
    let there = beside one.lines.items other.lines.items same.lines index line at in
    let front = fronts_same index one.lines.items other.lines.items same.lines in
    let behind = fault_behind below relations (take index one.lines.items) (take index other.lines.items) front line why fault in
    of_line there.other there.at (fault_of_line below relations (take index other.lines.items) there.same why behind)
fault_kept below relations one other same index why (of_waiting line end waits fault) =
    let there = waits_beside one.waiting other.waiting same.waiting line waits in
    let count = AllZip-long AreSameLines one.lines.items other.lines.items same.lines in
    let behind = waiting_behind below relations one.lines.items other.lines.items same.lines line why fault in
    of_waiting there.other (end ∙ sym count) there.is (waiting_of_line below relations other.lines.items there.same why behind)

first_kept : (below : List ℕ → List ℕ → Type 0) (relations : List Pair) (one other : Log) → AreSameLogs one other
    → (number : ℕ) (why : Why) → IsFirstFault below relations one number why → IsFirstFault below relations other number why
first_kept below relations one other same number why first =
    let back = fault_kept below relations other one (log_back same) in
    record {
      index = first.index;
      is_number = first.is_number;
      first = record {
        it_holds = fault_kept below relations one other same first.index why first.first.it_holds;
        none_before = λ reason less fault. first.first.none_before reason less (back first.index reason fault);
      };
      least = λ before reason less fault. first.least before reason less (back before reason fault);
    }

-- logs that say the same have one answer
pub same_answer : (below : List ℕ → List ℕ → Type 0) (relations : List Pair) (one other : Log) (answer another : Verified) → AreSameLogs one other
    → VerifiedSays below relations one answer → VerifiedSays below relations other another
    → answer ≡ another
same_answer below relations one other Yes Yes same first second = refl
same_answer below relations one other Yes (No number why) same first second =
    absurd (no_fault_at first second.index why (fault_kept below relations other one (log_back same) second.index why second.first.it_holds))
same_answer below relations one other (No number why) Yes same first second =
    absurd (no_fault_at second first.index why (fault_kept below relations one other same first.index why first.first.it_holds))
same_answer below relations one other (No number why) (No place reason) same first second =
    one_answer below relations other (No number why) (No place reason) (first_kept below relations one other same number why first) second
