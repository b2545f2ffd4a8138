-- Congruent words act alike.
use Rattle.std.proofs.Common.{◌≡◌, ℕ, List, ◌++◌, sym, subst, inl, inr}
use Rattle.kb_word.specs.Words.{OneOf}
use Rattle.kb_word.specs.Congruence.{Touches}
use Rattle.kb_word.specs.Relations.{IsOver}
use Rattle.kb_word.proofs.PathLemmas.{path_keeps}
use Rattle.kb_structure.specs.Structure.{Structure, AreOverGenerators, AreEqual, Accepts, Follows}
use Rattle.kb_structure.specs.Axioms.{SatisfiesAxioms, ActAlike}
use Rattle.kb_structure.proofs.Letters.{over_front, over_replaced}
use Rattle.kb_structure.proofs.Following.{follows_join, follows_split, leads_somewhere, leads_inside}

-- the word over the generators leads from u to v
pub record Leads (structure : Structure) (u v w : List ℕ) : Type 0 where
  pub letters : IsOver structure.n w
  pub follows : Follows structure w u v

module _ (structure : Structure) (over : AreOverGenerators structure) (axioms : SatisfiesAxioms structure)
    (u v : List ℕ) (accepted : Accepts structure u) where
  -- a part of a word may be replaced by what acts alike
  leads_between : (before left right after : List ℕ) → IsOver structure.n right → ActAlike structure left right
      → Leads structure u v (before ++ left ++ after) → Leads structure u v (before ++ right ++ after)
  leads_between before left right after letters alike leads =
      let n = structure.n in
      let to_after = follows_split structure (before ++ left) after u v leads.follows in
      let to_part = follows_split structure before left u to_after.0 to_after.1.0 in
      let first = over_front n before left (over_front n (before ++ left) after leads.letters) in
      let inside = leads_inside structure axioms before u to_part.0 first accepted to_part.1.0 in
      let image = leads_somewhere structure axioms right to_part.0 letters inside in
      let same : to_after.0 ≡ image.0 = alike to_part.0 to_after.0 image.0 inside to_part.1.1 image.1 in
      let P : List ℕ → Type 0 = λ z. Follows structure right to_part.0 z in
      let part : Follows structure right to_part.0 to_after.0 = subst P (sym same) image.1 in
      record {
        letters = over_replaced n before left right after leads.letters letters;
        follows = follows_join structure (before ++ right) after u to_after.0 v
            (follows_join structure before right u to_part.0 to_after.0 to_part.1.0 part) to_after.1.1;
      }

  leads_replaced : (w other before left right after : List ℕ) → w ≡ before ++ left ++ after → other ≡ before ++ right ++ after
      → IsOver structure.n right → ActAlike structure left right → Leads structure u v w → Leads structure u v other
  leads_replaced w other before left right after from to letters alike leads =
      let P : List ℕ → Type 0 = Leads structure u v in
      subst P (sym to) (leads_between before left right after letters alike (subst P from leads))

  -- one replacement, in one direction or the other
  leads_touched : (w other : List ℕ) → Touches (OneOf structure.relations) w other
      → Leads structure u v w → Leads structure u v other
  leads_touched w other (inl forth) leads =
      let relation = forth.pair in
      leads_replaced w other forth.before relation.0 relation.1 forth.after forth.from forth.to
      (over relation forth.is_allowed).1 (axioms.relations_act_alike relation forth.is_allowed) leads
  leads_touched w other (inr back) leads =
      let relation = back.pair in
      let alike = axioms.relations_act_alike relation back.is_allowed in
      leads_replaced w other back.before relation.1 relation.0 back.after back.to back.from
      (over relation back.is_allowed).0 (λ start a b inside left right. sym (alike start b a inside right left)) leads

  -- the action is constant on classes: equal words lead from an accepted word to the same word
  pub leads_equally : (w other : List ℕ) → AreEqual structure w other → Leads structure u v w → Leads structure u v other
  leads_equally w other equal leads = path_keeps (Leads structure u v) leads_touched equal leads
