-- The least words of right cosets tell the cosets apart.
use Rattle.std.proofs.Common.{◌≡◌, ◌↔◌, ℕ, List, length}
use Rattle.std.specs.List.{All}
use Rattle.kb_word.specs.Relations.{IsOver}
use Rattle.kb_word.specs.WordOrderLaws.{word_orders}
use Rattle.kb_coset.specs.Cosets.{SameCoset}
use Rattle.kb_coset.specs.Marked.{ArePresentation, relations}
use Rattle.kb_coset.specs.Subgroups.{EachInverts}
use Rattle.kb_coset.proofs.LeastWords.{told_by_least}
use Rattle.kb_coset.proofs.Marks.{marked_cosets}
use Rattle.kb_coset.proofs.SubgroupCosets.{subgroup_cosets}
use Rattle.kb_coset.specs.CosetWords.{Cosets, IsLeastOf}
use Rattle.kb_cmd_elements.specs.CosetsTold.{TellCosets}

module _ (cosets : Cosets) where
  one_coset : (u v m k : List ℕ) → IsLeastOf cosets u m → IsLeastOf cosets v k
      → SameCoset (relations cosets.parts) cosets.generators u v ↔ (m ≡ k)
  one_coset u v m k one other =
      told_by_least (word_orders cosets.parts.order) (relations cosets.parts) cosets.generators u v m k one other

  pub tell_cosets : ArePresentation (length cosets.parts.names) cosets.parts → EachInverts (length cosets.parts.names) cosets.parts.inverses
      → All (IsOver (length cosets.parts.names)) cosets.generators → TellCosets cosets
  tell_cosets presents each over = record {
    marked = λ u v m k u_over one other.
        let same = one_coset u v m k one other in
        let marks = marked_cosets (length cosets.parts.names) cosets.generators cosets.parts presents over u v u_over in
        (λ equal. marks.1 (same.1 equal), λ congruent. same.0 (marks.0 congruent));
    subgroup = λ u v inverse m k inverts one other.
        let same = one_coset u v m k one other in
        let products = subgroup_cosets (length cosets.parts.names) cosets.generators cosets.parts presents each over u v inverse inverts in
        (λ equal. products.0 (same.1 equal), λ inside. same.0 (products.1 inside));
  }
