-- What the lines of a log have to do with the relations, and what is found of them step by step.
use Rattle.std.proofs.Common.{◌≡◌, ◌∙◌, ℕ, ◌+◌, ◌<◌, zero, suc, List, length, get_or, slice_get, Some, None, refl, sym, subst}
use Rattle.std.proofs.lemmas.Option.{slice_get_read}
use Rattle.kb_word.specs.Words.{Pair, OneOf}
use Rattle.kb_word.specs.WordOrderLaws.{word_orders}
use Rattle.kb_word.specs.Congruence.{SameCongruence}
use Rattle.kb_word.specs.Presentations.{PresentationParts}
use Rattle.kb_word.specs.Rewriting.{NormalForm}
use Rattle.kb_word.proofs.PathLemmas.{IsLeast-same, congruent_covered}
use Rattle.kb_rules.proofs.Reducts.{normal_form_congruent}
use Rattle.kb_confluence.proofs.LeastWords.{normal_form_least}
use Rattle.kb_confluence.specs.Answers.{MatchVerdict}
use Rattle.kb_confluence.specs.FirstApart.{IsCounterexample, IsFirstApart}
use Rattle.kb_confluence.specs.declared.confluence.Verdict.TheVariants as verdicts
use Rattle.kb_proof.specs.declared.log.Log.{Log}
use Rattle.kb_bylog.specs.LogLines.{AreJoined, IsJustifiedBy, lines_of}
use Rattle.kb_bylog.proofs.LineLemmas.{JoinedBefore, lines_decrease, lines_follow, lines_generate as congruence_of_lines}
use Rattle.kb_cmd_words.specs.Confluence.{IsLeastIn, relations}
use Rattle.kb_cmd_words.specs.LogLines.{Decides, IsFirstRelationApart, IsNotConfluent, Objects, RelationSays, RelationsSay}
use Rattle.kb_cmd_words.specs.declared.objection.Objection.{Objection}
use Rattle.kb_cmd_words.specs.declared.objection.Objection.TheVariants as objections

-- ---- the congruence

-- where both sides of each relation have one normal form by the lines, they generate the congruence of the relations
pub lines_generate : (parts : PresentationParts) (log : Log) → IsJustifiedBy parts log → AreJoined (lines_of log) (relations parts)
    → SameCongruence (lines_of log) (relations parts)
lines_generate parts log justified joined =
    let same = congruence_of_lines parts log justified joined in
    record { covered = same.covers; covers = same.covered }

-- where they decide, normal forms are least words
pub decides_least : (parts : PresentationParts) (log : Log) (w m : List ℕ) → Decides parts log → NormalForm (lines_of log) w m
    → IsLeastIn parts w m
decides_least parts log w m decides normal =
    let decreasing = lines_decrease parts log decides.justified in
    IsLeast-same (lines_generate parts log decides.justified decides.joined) w m
    (record {
      congruent = normal_form_congruent normal;
      least = normal_form_least (word_orders parts.order) (lines_of log) decreasing decides.confluent w m normal;
    })

-- ---- one relation after another

-- an objection to a relation names the first
named_first : (rules pairs : List Pair) (place number : ℕ) (next : Pair) (objection : Objection) → slice_get pairs place ≡ Some next
    → number ≡ place + 1 → JoinedBefore rules pairs place → RelationSays rules number next (Some objection)
    → RelationsSay rules pairs (Some objection)
named_first rules pairs place number next (objections.RelationApart found u v) at is before says = record {
  index = place;
  is_number = says.0 ∙ is;
  pair = next;
  is_pair = at;
  apart = says.1;
  earlier = λ index other less there. before index other less there;
}
named_first rules pairs place number next (objections.Unjustified line why) at is before says = absurd says
named_first rules pairs place number next (objections.NotConfluent u v) at is before says = absurd says

pub apart_found : (rules pairs : List Pair) (place number : ℕ) (next : Pair) (objection : Objection) → place < length pairs
    → next ≡ get_or pairs place next → number ≡ place + 1 → JoinedBefore rules pairs place → RelationSays rules number next (Some objection)
    → RelationsSay rules pairs (Some objection)
apart_found rules pairs place number next objection within read is before says =
    named_first rules pairs place number next objection (slice_get_read pairs (length pairs) place next refl within read) is before says

-- both sides have one normal form
pub sides_joined : (rules : List Pair) (number : ℕ) (pair : Pair) (u v : List ℕ) → NormalForm rules pair.0 u → NormalForm rules pair.1 v → u ≡ v
    → RelationSays rules number pair None
sides_joined rules number pair u v left right same =
    let To : List ℕ → Type 0 = λ m. NormalForm rules pair.1 m in
    record { joint = u; left = left; right = subst To (sym same) right }

-- or they haven't
pub sides_apart : (rules : List Pair) (number : ℕ) (pair : Pair) (u v : List ℕ) → NormalForm rules pair.0 u → NormalForm rules pair.1 v
    → (u ≡ v → ⊥) → RelationSays rules number pair (Some (objections.RelationApart number u v))
sides_apart rules number pair u v left right different =
    (refl, record { left = left; right = right; different = different })

-- ---- objections

-- what is found of the relations by the lines
pub relation_objects : (parts : PresentationParts) (log : Log) (rules : List Pair) (objection : Objection) → IsJustifiedBy parts log
    → rules ≡ lines_of log → RelationsSay rules (relations parts) (Some objection) → Objects parts log objection
relation_objects parts log rules (objections.RelationApart number u v) justified same says =
    let Says : List Pair → Type 0 = λ r. IsFirstRelationApart r (relations parts) number u v in
    record { justified = justified; first = subst Says same says }
relation_objects parts log rules (objections.Unjustified line why) justified same says = absurd says
relation_objects parts log rules (objections.NotConfluent u v) justified same says = absurd says

pub relations_joined : (parts : PresentationParts) (log : Log) (rules : List Pair) → rules ≡ lines_of log
    → RelationsSay rules (relations parts) None → AreJoined (lines_of log) (relations parts)
relations_joined parts log rules same says =
    let Says : List Pair → Type 0 = λ r. AreJoined r (relations parts) in
    subst Says same says

-- what a no says of the lines' confluence
pub no_objects : (parts : PresentationParts) (log : Log) (rules : List Pair) (when_yes : Type 0) (i j place : ℕ) (u v : List ℕ)
    → IsJustifiedBy parts log → AreJoined (lines_of log) (relations parts) → rules ≡ lines_of log
    → MatchVerdict when_yes rules (verdicts.No i j place u v) → IsCounterexample rules u v → IsNotConfluent parts log u v
no_objects parts log rules when_yes zero j place u v justified joined same first counterexample = absurd first
no_objects parts log rules when_yes (suc i) zero place u v justified joined same first counterexample = absurd first
no_objects parts log rules when_yes (suc i) (suc j) place u v justified joined same first counterexample =
    let First : List Pair → Type 0 = λ r. IsFirstApart r i j place u v in
    let Shows : List Pair → Type 0 = λ r. IsCounterexample r u v in
    let shown : IsCounterexample (lines_of log) u v = subst Shows same counterexample in
    record {
      justified = justified;
      joined = joined;
      i = i;
      j = j;
      place = place;
      first = subst First same first;
      counterexample = shown;
      congruent = congruent_covered {allowed = OneOf (lines_of log)} {others = OneOf (relations parts)} (λ pair one. lines_follow parts log pair justified one) shown.congruent;
    }
