-- A normal form by confluent rules is the least congruent word. Proved of any reduction order.
use Rattle.std.proofs.Common.{ℕ, List, subst, inl, inr}
use Rattle.kb_word.specs.Words.{Pair, OneOf}
use Rattle.kb_word.specs.Order.{IsReductionOrder}
use Rattle.kb_word.specs.Congruence.{Congruent}
use Rattle.kb_word.specs.Rewriting.{AreDecreasing, IsIrreducible, ReducesTo, NormalForm}
use Rattle.kb_word.specs.Overlap.{IsConfluent}
use Rattle.kb_word.proofs.PathLemmas.{path_keeps}
use Rattle.kb_rules.proofs.Reducts.{IsAtMost, normal_form_reduct, reduct_at_most}
use Rattle.kb_overlap.proofs.Connected.{HasOneEnd, kept_by_touch}
use Rattle.kb_overlap.proofs.Criterion.{one_normal_form}

module _ {below : List ℕ → List ℕ → Type 0} (order : IsReductionOrder below) (rules : List Pair)
    (falling : AreDecreasing below rules) (confluent : IsConfluent rules) where
  -- where each overlap's critical pair is joined, each prime one's is
  has_one_end : (w : List ℕ) → HasOneEnd rules w
  has_one_end =
      one_normal_form order rules falling (λ i j place first second o prime. confluent i j place first second o)

  -- congruent words have one irreducible reduct
  pub congruent_reduces : (w v m : List ℕ) → Congruent (OneOf rules) w v → ReducesTo (OneOf rules) w m
      → IsIrreducible (OneOf rules) m → ReducesTo (OneOf rules) v m
  congruent_reduces w v m congruent reduces irreducible =
      path_keeps (λ u. ReducesTo (OneOf rules) u m)
      (λ u v step. kept_by_touch order rules falling m irreducible u v (has_one_end u) step) congruent reduces

  -- what m is at most isn't below m
  not_below_end : (v m : List ℕ) → IsAtMost below m v → ¬ below v m
  not_below_end v m (inl same) lower = let P : List ℕ → Type 0 = λ u. below v u in order.irreflexive v (subst P same lower)
  not_below_end v m (inr above) lower = order.irreflexive v (order.transitive v m v lower above)

  -- no congruent word is below a normal form
  pub normal_form_least : (w m : List ℕ) → NormalForm rules w m → (v : List ℕ) → Congruent (OneOf rules) w v → ¬ below v m
  normal_form_least w m normal v congruent =
      let reduces : ReducesTo (OneOf rules) v m = congruent_reduces w v m congruent (normal_form_reduct normal) normal.irreducible in
      not_below_end v m (reduct_at_most order falling reduces)
