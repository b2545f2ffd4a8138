-- A line that may stand behind others has no fault there, and makes a justified log with them.
use Rattle.std.proofs.Common.{◌≡◌, ℕ, zero, suc, ◌<◌, List, [], ◌∷◌, ◌++◌, take, Some, refl, sym, ap, subst, inl, inr, arith}
use Rattle.std.specs.Prelude.{slice_get}
use Rattle.kb_word.specs.Words.{Pair, OneOf}
use Rattle.kb_word.specs.Rewriting.{IsIrreducible}
use Rattle.kb_machine.specs.Justified.{ComesFromPair, FollowsBy, HasAnotherFactor, IsJustified, ShortensRule}
use Rattle.kb_machine.specs.Lines.{numbered, rules_of, replaced, IsPairOf}
use Rattle.kb_machine.specs.declared.line.Line.{Line}
use Rattle.kb_machine.specs.declared.origin.Origin.{Origin}
use Rattle.kb_machine.specs.declared.origin.Origin.TheVariants.{Relation, Overlap, Killed, Shortened}
use Rattle.kb_machine.proofs.Appending.{MayCome, justified_push}
use Rattle.kb_machine.proofs.Numbers.{pair_same}
use Rattle.kb_proof.specs.Printable.{IsShortening}
use Rattle.kb_proof.specs.Verifying.{relation_used, IsUsed, ComesFrom, HasFailingStep, HasFault, HasLeftSide, HasOriginFault, HasWaitingFault, OfItsPair}
use Rattle.kb_proof.specs.Verifying.ComesFrom.{from_both, from_right}
use Rattle.kb_proof.specs.Verifying.HasFailingStep.{first_fails, second_fails, right_fails, second_given}
use Rattle.kb_proof.specs.Verifying.HasOriginFault.{names_none, used_again, replaced_again, killed_alone}
use Rattle.kb_proof.specs.Checking.{IsFresh, IsNotAlone, MayName, MayStand, MayWait}
use Rattle.kb_proof.specs.declared.verified.Why.{Why}
use Rattle.kb_proof.specs.declared.verified.Why.TheVariants as reasons
use Rattle.kb_proof.proofs.Listed.{rules_take}

-- ---- what may stand has no fault

pub no_origin_fault : {relations : List Pair} {earlier : List Line} {origin : Origin} {pair : Pair}
    → MayName relations earlier origin pair → HasOriginFault relations earlier origin
    → ⊥
no_origin_fault {pair = pair} may (names_none none) = none pair may.is_pair
no_origin_fault may (used_again k is used) = may.fresh.not_used k is used
no_origin_fault may (replaced_again k is used) = may.fresh.not_replaced k is used
no_origin_fault may (killed_alone k is alone) = alone (may.not_alone k is)

-- what is said of the pair of the origin is said of this one
pub of_this_pair : {relations : List Pair} {earlier : List Line} {line : Line} {pair : Pair} {says : Pair → Type 0}
    → MayName relations earlier line.origin pair → OfItsPair relations (rules_of earlier) line says
    → says pair
of_this_pair {relations = relations} {earlier = earlier} {line = line} {pair = pair} {says = says} may its =
    subst says (pair_same relations (rules_of earlier) line.origin its.pair pair its.is_pair may.is_pair) its.said

pub no_failing_step : {rules : List Pair} {pair : Pair} {line : Line} → ComesFrom rules pair line
    → HasFailingStep rules pair line
    → ⊥
no_failing_step (from_both is both) (first_fails unshortened nowhere) = nowhere both.one both.first
no_failing_step (from_both is both) (second_fails unshortened nowhere) = nowhere both.other both.second
no_failing_step (from_both is both) (right_fails shortened nowhere) = is shortened
no_failing_step (from_both is both) (second_given shortened some) = is shortened
no_failing_step (from_right is left right changed none) (first_fails unshortened nowhere) = unshortened is
no_failing_step (from_right is left right changed none) (second_fails unshortened nowhere) = unshortened is
no_failing_step {line = line} (from_right is left right changed none) (right_fails shortened nowhere) = nowhere line.right right
no_failing_step (from_right is left right changed none) (second_given shortened some) = some none

pub no_left_side : {rules : List Pair} {w : List ℕ} → IsIrreducible (OneOf rules) w → HasLeftSide rules w → ⊥
no_left_side irreducible has =
    irreducible has.factor.1.before has.rule has.factor.1.after has.is_rule has.factor.1.whole

pub no_fault : {below : List ℕ → List ℕ → Type 0} {relations : List Pair} {earlier : List Line} {line : Line}
    → MayStand below relations earlier line → (why : Why) → HasFault below relations earlier line why
    → ⊥
no_fault may reasons.Origin fault = no_origin_fault may.named fault
no_fault may reasons.Step fault = no_failing_step may.comes (of_this_pair may.named fault)
no_fault may reasons.Result fault = of_this_pair may.named fault may.comes
no_fault may reasons.Order fault = fault may.decreases
no_fault may reasons.Earlier fault = no_left_side (may.irreducible fault.0) fault.1

pub no_waiting_fault : {below : List ℕ → List ℕ → Type 0} {relations : List Pair} {earlier : List Line} {line : Line}
    → MayWait below relations earlier line → (why : Why) → HasWaitingFault below relations earlier line why
    → ⊥
no_waiting_fault may reasons.Origin fault = no_fault may.stands reasons.Origin fault
no_waiting_fault may reasons.Step fault = no_fault may.stands reasons.Step fault
no_waiting_fault may reasons.Result fault = no_fault may.stands reasons.Result fault
no_waiting_fault may reasons.Order fault = no_fault may.stands reasons.Order fault
no_waiting_fault may reasons.Earlier fault = elim fault [
  | inl left ↦ no_left_side (may.stands.irreducible may.not_shortened) left
  | inr right ↦ no_left_side may.irreducible right
]

-- ---- what may stand follows

comes_from_pair : {relations rules : List Pair} {line : Line} {pair : Pair} → (IsShortening line.origin → ⊥)
    → IsPairOf relations rules line.origin pair → ComesFrom rules pair line
    → ((IsShortening line.origin → ⊥) → IsIrreducible (OneOf rules) line.left)
    → ComesFromPair relations rules line
comes_from_pair {pair = pair} unshortened is (from_both other both) irreducible =
    record { pair = pair; is_pair = is; derived = both; left_is_irreducible = irreducible unshortened }
comes_from_pair unshortened is (from_right shortened left right changed none) irreducible = absurd (unshortened shortened)

shortens_rule : {rules : List Pair} {line : Line} {pair : Pair} (k : ℕ) → IsShortening line.origin
    → numbered rules k ≡ Some pair → ComesFrom rules pair line
    → ShortensRule rules k line
shortens_rule k shortened is (from_both unshortened both) = absurd (unshortened shortened)
shortens_rule {pair = pair} k shortened is (from_right other left right changed none) =
    record { rule = pair; is_rule = is; left = left; right = right; changed = changed; no_second = none }

follows_by : (relations rules : List Pair) (line : Line) (pair : Pair) (origin : Origin) → line.origin ≡ origin
    → IsPairOf relations rules line.origin pair → IsNotAlone rules line.origin → ComesFrom rules pair line
    → ((IsShortening line.origin → ⊥) → IsIrreducible (OneOf rules) line.left)
    → FollowsBy relations rules origin line
follows_by relations rules line pair (Relation k) e is others comes irreducible =
    comes_from_pair (λ shortened. subst IsShortening e shortened) is comes irreducible
follows_by relations rules line pair (Overlap i j place) e is others comes irreducible =
    comes_from_pair (λ shortened. subst IsShortening e shortened) is comes irreducible
follows_by relations rules line pair (Killed k) e is others comes irreducible =
    (comes_from_pair (λ shortened. subst IsShortening e shortened) is comes irreducible, others k e)
follows_by relations rules line pair (Shortened k) e is others comes irreducible =
    let P : Origin → Type 0 = λ origin. IsPairOf relations rules origin pair in
    shortens_rule k (subst IsShortening (sym e) tt) (subst P e is) comes

pub may_come : {below : List ℕ → List ℕ → Type 0} {relations : List Pair} {earlier : List Line} {line : Line}
    → MayStand below relations earlier line
    → MayCome below relations earlier line
may_come {relations = relations} {earlier = earlier} {line = line} may = record {
  follows = follows_by relations (rules_of earlier) line may.pair line.origin refl may.named.is_pair may.named.not_alone may.comes
      may.irreducible;
  decreases = may.decreases;
  new_relation = λ index other k at is mine.
      let used : IsUsed relation_used earlier k = record { index = index; line = other; at = at; uses = ap relation_used is } in
      may.named.fresh.not_used k (ap relation_used mine) used;
  new_replaced = λ index other k at is mine.
      let used : IsUsed replaced earlier k = record { index = index; line = other; at = at; uses = is } in
      may.named.fresh.not_replaced k mine used;
}

-- with one line more the log is justified
pub justified_with : {below : List ℕ → List ℕ → Type 0} {relations : List Pair} {earlier : List Line} {line : Line}
    → IsJustified below relations earlier → MayStand below relations earlier line
    → IsJustified below relations (earlier ++ line ∷ [])
justified_with justified may = justified_push justified (may_come may)

-- ---- the lines of a justified log may stand

record Followed (relations rules : List Pair) (line : Line) : Type 0 where
  pub pair : Pair
  pub is_pair : IsPairOf relations rules line.origin pair
  pub not_alone : IsNotAlone rules line.origin
  pub comes : ComesFrom rules pair line
  pub irreducible : (IsShortening line.origin → ⊥) → IsIrreducible (OneOf rules) line.left

followed_pair : {relations rules : List Pair} {line : Line} → (IsShortening line.origin → ⊥)
    → ComesFromPair relations rules line → IsNotAlone rules line.origin
    → Followed relations rules line
followed_pair unshortened from others = record {
  pair = from.pair;
  is_pair = from.is_pair;
  not_alone = others;
  comes = from_both unshortened from.derived;
  irreducible = λ other. from.left_is_irreducible;
}

followed : (relations rules : List Pair) (line : Line) (origin : Origin) → line.origin ≡ origin
    → FollowsBy relations rules origin line
    → Followed relations rules line
followed relations rules line (Relation k) e follows =
    followed_pair (λ shortened. subst IsShortening e shortened) follows (λ j is. absurd (cc (e, is)))
followed relations rules line (Overlap i j place) e follows =
    followed_pair (λ shortened. subst IsShortening e shortened) follows (λ k is. absurd (cc (e, is)))
followed relations rules line (Killed k) e follows =
    followed_pair (λ shortened. subst IsShortening e shortened) follows.0
    (λ j is. let same : k ≡ j = cc (e, is) in let P : ℕ → Type 0 = λ i. HasAnotherFactor rules i in subst P same follows.1)
followed relations rules line (Shortened k) e follows =
    let P : Origin → Type 0 = λ origin. IsPairOf relations rules origin follows.rule in
    let shortened : IsShortening line.origin = subst IsShortening (sym e) tt in
    record {
      pair = follows.rule;
      is_pair = subst P (sym e) follows.is_rule;
      not_alone = λ j is. absurd (cc (e, is));
      comes = from_right shortened follows.left follows.right follows.changed follows.no_second;
      irreducible = λ unshortened. absurd (unshortened shortened);
    }

-- the relation that an origin uses
relation_is : (origin : Origin) (k : ℕ) → relation_used origin ≡ Some k → origin ≡ Relation k
relation_is (Relation j) k e = cc e
relation_is (Overlap i j place) k e = absurd (cc e)
relation_is (Killed j) k e = absurd (cc e)
relation_is (Shortened j) k e = absurd (cc e)

in_front : {X : Type 0} (xs : List X) (n k : ℕ) (x : X) → slice_get (take n xs) k ≡ Some x → (k < n) × (slice_get xs k ≡ Some x)
in_front [] zero k x e = absurd (cc e)
in_front [] (suc n) k x e = absurd (cc e)
in_front (y ∷ xs) zero k x e = absurd (cc e)
in_front (y ∷ xs) (suc n) zero x e = (omega arith, e)
in_front (y ∷ xs) (suc n) (suc k) x e = let rest = in_front xs n k x e in let less = rest.0 in (omega arith, rest.1)

fresh_at : {below : List ℕ → List ℕ → Type 0} {relations : List Pair} {lines : List Line}
    → IsJustified below relations lines → (index : ℕ) (line : Line) → slice_get lines index ≡ Some line
    → IsFresh (take index lines) line.origin
fresh_at {lines = lines} justified index line at = record {
  not_used = λ k is used.
      let before = in_front lines index used.index used.line used.at in
      let less = before.0 in
      let same = justified.relations_once index used.index k line used.line at before.1 (relation_is line.origin k is)
      (relation_is used.line.origin k used.uses) in
      absurd (omega arith);
  not_replaced = λ k is used.
      let before = in_front lines index used.index used.line used.at in
      let less = before.0 in
      let same = justified.replaced_once index used.index k line used.line at before.1 is used.uses in
      absurd (omega arith);
}

pub stands_at_index : {below : List ℕ → List ℕ → Type 0} {relations : List Pair} {lines : List Line}
    → IsJustified below relations lines → (index : ℕ) (line : Line) → slice_get lines index ≡ Some line
    → MayStand below relations (take index lines) line
stands_at_index {relations = relations} {lines = lines} justified index line at =
    let P : List Pair → Type 0 = λ rules. FollowsBy relations rules line.origin line in
    let follows = subst P (rules_take lines index) (justified.follows index line at) in
    let it = followed relations (rules_of (take index lines)) line line.origin refl follows in
    record {
      pair = it.pair;
      named = record { is_pair = it.is_pair; fresh = fresh_at justified index line at; not_alone = it.not_alone };
      comes = it.comes;
      decreases = justified.decreases index line at;
      irreducible = it.irreducible;
    }
