use Rattle.std.proofs.Common.{◌≡◌, ℕ, List, get_or, sym, subst, arith}
use Rattle.kb_trie.specs.Edges.{words_of}
use Rattle.kb_trie.specs.Steps.{IsStep}
use Rattle.kb_trie.proofs.Longest.{link_shorter, step_at_root, step_child, step_linked}
use Rattle.kb_trie.proofs.child.step_by_links.Goals as goal

pub returns-in-Some : goal.returns-in-Some
returns-in-Some c =
    c.loop-at.invariant.same c.in-Some.child
    (step_child (words_of c.args.edges.now.keys) c.loop-at.at c.args.letter c.in-Some.child c.in-Some.ensures.some)

pub loop-at-preserved : goal.loop-at-preserved
loop-at-preserved c =
    let words : List (List ℕ) = words_of c.args.edges.now.keys in
    let at : ℕ = c.loop-at.at in
    let is = c.requires.links at c.loop-at.invariant.within in
    record {
      within = is.within;
      same = λ after step.
          c.loop-at.invariant.same after
          (step_linked words c.requires.states.are at c.args.letter (get_or c.args.links.now at 0) after c.in_default.ensures.none is step);
    }

pub loop-at-smaller : goal.loop-at-smaller
loop-at-smaller c =
    let at : ℕ = c.loop-at.at in
    link_shorter (words_of c.args.edges.now.keys) c.requires.states.are at (get_or c.args.links.now at 0) (omega arith)
    c.loop-at.invariant.within (c.requires.links at c.loop-at.invariant.within)

pub returns : goal.returns
returns c =
    let words : List (List ℕ) = words_of c.args.edges.now.keys in
    let at_root : 0 ≡ c.loop-at.at = omega arith in
    let P : ℕ → Type 0 = λ after. IsStep words 0 c.args.letter after in
    let Q : ℕ → Type 0 = λ at. IsStep words at c.args.letter c.unwrap_or.result in
    c.loop-at.invariant.same c.unwrap_or.result
    (subst Q at_root (subst P (sym c.unwrap_or.ensures)
    (step_at_root words c.requires.states.are c.args.letter c.child-2.result c.child-2.ensures.some c.child-2.ensures.none)))
