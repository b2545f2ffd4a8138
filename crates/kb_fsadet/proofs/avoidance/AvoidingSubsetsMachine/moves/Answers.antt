use Rattle.std.proofs.Common.{rules}
use Rattle.std.proofs.lemmas.Fn.{filter_same}
use Rattle.kb_fsa.specs.Language.{symbols}
use Rattle.kb_fsadet.proofs.Avoided.{group_rejects, moves_kept}
use Rattle.kb_fsadet.proofs.avoidance.AvoidingSubsetsMachine.moves.Goals as goal

pub returns : goal.returns
returns c =
    let nfa = c.args.self.now.subsets.nfa.now in
    let groups = c.in_ok-moves.moves.items in
    let kept = c.retain.new.self.items in
    let filtered =
    filter_same _ (group_rejects nfa) _ (λ x b f' k. search rules) groups kept c.retain.ensures.filtered in
    moves_kept nfa (symbols nfa.alphabet) c.args.state.now groups kept c.in_ok-moves.ensures filtered
