use Rattle.std.proofs.Common.{ℕ, List, ◌∙◌, sym, subst}
use Rattle.kb_trie.specs.FailureTrees.{AreFailureChildren}
use Rattle.kb_trie.specs.Steps.{AreLinks, AreSteps}
use Rattle.kb_trie.specs.Tries.{AreDepths}
use Rattle.kb_trie.proofs.steps.Steps.copy.Goals as goal

pub returns : goal.returns
returns c words has =
    let old = c.args.self.now.tree in
    let new = c.in_ok-tree.tree in
    let e = c.in_ok-tree.ensures in
    let A : ℕ → Type 0 = λ n. AreFailureChildren n new.links.items new.firsts.items new.nexts.items new.previous.items in
    let B : List ℕ → Type 0 = λ l. AreFailureChildren old.count l new.firsts.items new.nexts.items new.previous.items in
    let C : List ℕ → Type 0 = λ f. AreFailureChildren old.count old.links.items f new.nexts.items new.previous.items in
    let D : List ℕ → Type 0 = λ n. AreFailureChildren old.count old.links.items old.firsts.items n new.previous.items in
    let E : List ℕ → Type 0 = λ p. AreFailureChildren old.count old.links.items old.firsts.items old.nexts.items p in
    let W : ℕ → Type 0 = λ w. AreSteps words w c.in_ok-table.table.rows.items in
    let R : List ℕ → Type 0 = λ rows. AreSteps words c.args.self.now.table.width rows in
    record {
      count = e.count ∙ has.count;
      tree =
          subst A (sym e.count)
          (subst B (sym e.links) (subst C (sym e.firsts) (subst D (sym e.nexts) (subst E (sym e.previous) has.tree))));
      links = subst (AreLinks words) (sym e.links) has.links;
      rows = subst W (sym c.in_ok-table.ensures.width) (subst R (sym c.in_ok-table.ensures.rows) has.rows);
      depths = subst (AreDepths words) (sym (c.in_ok-depths.ensures.items ∙ c.deref.ensures.value)) has.depths;
    }
