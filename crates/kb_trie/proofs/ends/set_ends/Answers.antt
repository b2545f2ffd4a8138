use Rattle.std.proofs.Common.{ℕ, ◌<◌, List, length, get_or, sym, ◌∙◌, arith, length-set}
use Rattle.std.proofs.lemmas.List.{get_or-set_other}
use Rattle.kb_trie.proofs.FailureLists.{moved_more}
use Rattle.kb_trie.proofs.ends.set_ends.Goals as goal

pub loop-state-preserved : goal.loop-state-preserved
loop-state-preserved c =
    let states : List ℕ = c.args.states.now in
    let index : ℕ = c.loop-state.state-index in
    let state : ℕ = get_or states index 0 in
    let ends : List ℕ = c.loop-state.ends in
    let before = c.loop-state.invariant in
    let in_states : index < length states = omega arith in
    let within : state < length ends = omega (arith, c.requires index in_states, before.count) in
    record {
      count = length-set ends state c.args.end ∙ before.count;
      moved = moved_more ends states index c.args.end within before.moved;
      others = λ one apart.
          get_or-set_other ends state one c.args.end 0 (λ same. apart index (omega arith) (sym same))
          ∙ before.others one (λ i early. apart i (omega arith));
    }
