use Rattle.std.proofs.Common.{refl}
use Rattle.std.proofs.lemmas.Result.{on_ok_weaker}
use Rattle.kb_overlap.proofs.Gaining.{gains_adds}
use Rattle.kb_overlap.proofs.Sweeping.{goes_on, goes_nowhere}
use Rattle.kb_overlap.proofs.prefixes.Prefixes.go_on.Goals as goal

pub returns-then-is_ended : goal.returns-then-is_ended
returns-then-is_ended c =
    let prefixes = c.args.self.now in
    goes_nowhere prefixes.rules.now prefixes.automaton.now.words c.args.state c.args.beyond c.args.next.now.items
    (c.if-is_ended.ensures.yes refl)

pub returns : goal.returns
returns c =
    let prefixes = c.args.self.now in
    on_ok_weaker c.add_steps_beyond.result
    (λ adds.
    goes_on prefixes.rules.now prefixes.automaton.now.words c.args.state c.args.beyond c.args.next.now.items c.add_steps_beyond.new.found.items
    (c.if-is_ended.ensures.no refl) (gains_adds _ _ _ adds))
    c.add_steps_beyond.ensures
