-- The lines of a log have one answer: they decide, or there is one objection to them.
use Rattle.std.proofs.Common.{◌≡◌, ◌<◌, ◌+◌, ℕ, List, Option, Some, None, slice_get, refl, sym, ◌∙◌, ap, subst, arith}
use Rattle.std.proofs.lemmas.Option.{none-some, same_Some}
use Rattle.kb_word.specs.Words.{Pair}
use Rattle.kb_word.specs.WordOrders.{Below}
use Rattle.kb_word.specs.Rewriting.{NormalForm}
use Rattle.kb_word.specs.Overlap.{IsConfluent}
use Rattle.kb_word.specs.Presentations.{PresentationParts}
use Rattle.kb_rules.proofs.Unique.{normal_form_unique}
use Rattle.kb_confluence.specs.FirstApart.{IsFirstApart}
use Rattle.kb_proof.proofs.SameAnswers.{rules_same, same_answer}
use Rattle.kb_proof.specs.Same.{AreSameLogs}
use Rattle.kb_proof.specs.Verifying.{IsFirstFault, VerifiedSays}
use Rattle.kb_proof.specs.declared.log.Log.{Log}
use Rattle.kb_proof.specs.declared.verified.Verified.{Verified}
use Rattle.kb_proof.specs.declared.verified.Verified.TheVariants as verdicts
use Rattle.kb_proof.specs.declared.verified.Why.{Why}
use Rattle.kb_cmd_words.specs.Confluence.{relations}
use Rattle.kb_cmd_words.specs.ByRelationsLaws.{not_apart, one_first_apart}
use Rattle.kb_bylog.specs.LogLines.{AreJoined, IsJustifiedBy, lines_of}
use Rattle.kb_cmd_words.specs.LogLines.{Decides, IsFirstRelationApart, Objects}
use Rattle.kb_cmd_words.specs.declared.objection.Objection.{Objection}
use Rattle.kb_cmd_words.specs.declared.objection.Objection.TheVariants as objections

-- ---- relations by rules

-- where each relation is joined, none is apart
joined_not_apart : {rules pairs : List Pair} {number : ℕ} {u v : List ℕ} → AreJoined rules pairs
    → ¬ IsFirstRelationApart rules pairs number u v
joined_not_apart joined first =
    not_apart (joined first.pair (first.index, first.is_pair)) first.apart

same_index : (i k : ℕ) → (i < k → ⊥) → (k < i → ⊥) → i ≡ k
same_index i k none_before none_after =
    let not_less : i < k → ⊥ = none_before in
    let not_more : k < i → ⊥ = none_after in
    omega arith

-- there is one first relation that is apart
one_relation_apart : {rules pairs : List Pair} {number other_number : ℕ} {u v w x : List ℕ}
    → IsFirstRelationApart rules pairs number u v
    → IsFirstRelationApart rules pairs other_number w x
    → (number ≡ other_number) × (u ≡ w) × (v ≡ x)
one_relation_apart {rules = rules} {pairs = pairs} {w = w} {x = x} one other =
    let index : one.index ≡ other.index =
    same_index one.index other.index
    (λ less. not_apart (other.earlier one.index one.pair less one.is_pair) one.apart)
    (λ less. not_apart (one.earlier other.index other.pair less other.is_pair) other.apart) in
    let pair : one.pair ≡ other.pair =
    same_Some one.pair other.pair
    (sym one.is_pair ∙ (ap (slice_get pairs) index ∙ other.is_pair)) in
    let left = subst (λ (p : Pair). NormalForm rules p.0 w) (sym pair) other.apart.left in
    let right = subst (λ (p : Pair). NormalForm rules p.1 x) (sym pair) other.apart.right in (
      one.is_number ∙ (ap (λ (k : ℕ). k + 1) index ∙ sym other.is_number),
      normal_form_unique one.apart.left left,
      normal_form_unique one.apart.right right,
    )

-- ---- logs that say the same

-- the lines decide, or this objection stands against them
abbrev pub IsFound : PresentationParts → Log → Option Objection → Type 0
IsFound parts log None = Decides parts log
IsFound parts log (Some objection) = Objects parts log objection

-- what the check of a log objects to
abbrev objection_of : Verified → Option Objection
objection_of verdicts.Yes = None
objection_of (verdicts.No number why) = Some (objections.Unjustified number why)

module _ (parts : PresentationParts) (log other : Log) (same : AreSameLogs log other) where
  same_lines : lines_of log ≡ lines_of other
  same_lines = rules_same log.lines.items other.lines.items same.lines

  -- what is said of the lines of one log is said of those of the other
  carried : (says : List Pair → Type 0) → says (lines_of log) → says (lines_of other)
  carried says said = subst says same_lines said

  one_check : (one another : Verified)
      → VerifiedSays (Below parts.order) (relations parts) log one
      → VerifiedSays (Below parts.order) (relations parts) other another
      → one ≡ another
  one_check one another says also =
      same_answer (Below parts.order) (relations parts) log other one another same says also

  justified_not_faulty : (number : ℕ) (why : Why) → IsJustifiedBy parts log
      → ¬ IsFirstFault (Below parts.order) (relations parts) other number why
  justified_not_faulty number why justified fault =
      none-some (objections.Unjustified number why)
      (ap objection_of (one_check verdicts.Yes (verdicts.No number why) justified fault))

  faulty_not_justified : (number : ℕ) (why : Why)
      → IsFirstFault (Below parts.order) (relations parts) log number why
      → ¬ IsJustifiedBy parts other
  faulty_not_justified number why fault justified =
      none-some (objections.Unjustified number why)
      (sym (ap objection_of (one_check (verdicts.No number why) verdicts.Yes fault justified)))

  -- what is found of them is the same
  pub one_finding : (one another : Option Objection) → IsFound parts log one
      → IsFound parts other another
      → one ≡ another
  one_finding None None a b = refl
  one_finding None (Some (objections.Unjustified number why)) a b =
      absurd (justified_not_faulty number why a.justified b)
  one_finding None (Some (objections.RelationApart number u v)) a b =
      absurd (joined_not_apart (carried (λ r. AreJoined r (relations parts)) a.joined) b.first)
  one_finding None (Some (objections.NotConfluent u v)) a b =
      let confluent : IsConfluent (lines_of other) = carried IsConfluent a.confluent in
      let first = b.first in
      absurd (not_apart (confluent b.i b.j b.place first.first first.second first.overlap)
      first.parts)
  one_finding (Some (objections.Unjustified number why)) None a b =
      absurd (faulty_not_justified number why a b.justified)
  one_finding (Some (objections.Unjustified number why))
      (Some (objections.Unjustified place reason)) a b =
      ap objection_of (one_check (verdicts.No number why) (verdicts.No place reason) a b)
  one_finding (Some (objections.Unjustified number why))
      (Some (objections.RelationApart place u v)) a b =
      absurd (faulty_not_justified number why a b.justified)
  one_finding (Some (objections.Unjustified number why)) (Some (objections.NotConfluent u v)) a b =
      absurd (faulty_not_justified number why a b.justified)
  one_finding (Some (objections.RelationApart number u v)) None a b =
      let first = carried (λ r. IsFirstRelationApart r (relations parts) number u v) a.first in
      absurd (joined_not_apart b.joined first)
  one_finding (Some (objections.RelationApart number u v))
      (Some (objections.Unjustified place why)) a b =
      absurd (justified_not_faulty place why a.justified b)
  one_finding (Some (objections.RelationApart number u v))
      (Some (objections.RelationApart place w x)) a b =
      let first = carried (λ r. IsFirstRelationApart r (relations parts) number u v) a.first in
      let words = one_relation_apart first b.first in
      ap (λ (n : ℕ). Some (objections.RelationApart n u v)) words.0
      ∙ (ap (λ (m : List ℕ). Some (objections.RelationApart place m v)) words.1
      ∙ ap (λ (m : List ℕ). Some (objections.RelationApart place w m)) words.2)
  one_finding (Some (objections.RelationApart number u v))
      (Some (objections.NotConfluent w x)) a b =
      let first = carried (λ r. IsFirstRelationApart r (relations parts) number u v) a.first in
      absurd (joined_not_apart b.joined first)
  one_finding (Some (objections.NotConfluent u v)) None a b =
      let first = carried (λ r. IsFirstApart r a.i a.j a.place u v) a.first in
      absurd (not_apart (b.confluent a.i a.j a.place first.first first.second first.overlap)
      first.parts)
  one_finding (Some (objections.NotConfluent u v)) (Some (objections.Unjustified number why)) a b =
      absurd (justified_not_faulty number why a.justified b)
  one_finding (Some (objections.NotConfluent u v))
      (Some (objections.RelationApart number w x)) a b =
      absurd (joined_not_apart (carried (λ r. AreJoined r (relations parts)) a.joined) b.first)
  one_finding (Some (objections.NotConfluent u v)) (Some (objections.NotConfluent w x)) a b =
      let first = carried (λ r. IsFirstApart r a.i a.j a.place u v) a.first in
      let words = one_first_apart first b.first in
      ap (λ (m : List ℕ). Some (objections.NotConfluent m v)) words.0
      ∙ ap (λ (m : List ℕ). Some (objections.NotConfluent w m)) words.1
