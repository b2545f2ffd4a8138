use Rattle.std.proofs.Common.{◌≡◌, ◌≢◌, sym, subst}
use Rattle.kb_word.specs.Presentations.{PresentationParts}
use Rattle.kb_system.specs.declared.ending.Reached.{Reached}
use Rattle.kb_system.specs.declared.ending.Reached.TheVariants.{Lines, Letters}
use Rattle.kb_task.specs.Limits.{undecided_words_line}
use Rattle.kb_task.specs.Stores.{texts_of}
use Rattle.kb_task.specs.declared.status.Construction.TheVariants.{Acceptor}
use Rattle.kb_task.specs.declared.status.Limit.{Limit}
use Rattle.kb_task.specs.declared.status.Limit.TheVariants.{States}
use Rattle.kb_evidence.specs.Files.{halted_texts, limit_of}
use Rattle.kb_evidence.specs.declared.evidence.Evidence.{Evidence}
use Rattle.kb_evidence.proofs.ShownLemmas.{shown-halted}
use Rattle.kb_cmd_elements.specs.CosetAnswers.{marked_of, subgroup_file}
use Rattle.kb_cmd_elements.specs.Kbcos.{kbcos_limits}
use Rattle.kb_cmd_elements.proofs.coset_outcome.shown.Goals as goal

-- a limit of the log is none of an automaton's states
limit_of_log : (reached : Reached) (limit : Limit) → limit ≡ limit_of reached → limit ≢ States Acceptor
limit_of_log Lines limit is states = cc
limit_of_log Letters limit is states = cc

pub returns : goal.returns
returns g c = λ given cosets same_name same_parts same_problem.
    let halt = c.in_ok-halt.halt in
    let shown : Evidence = c.in_ok-evidence.evidence in
    let Are : PresentationParts → Type 0 =
    λ p. (shown.limit ≡ limit_of halt.reached)
    × (texts_of shown.files.items ≡ halted_texts c.args.name.now p halt.lines.items halt.waiting halt.rules.rules)
    × (shown.line.items ≡ undecided_words_line p.names (limit_of halt.reached) halt.waiting.left halt.waiting.right) in
    let are = subst Are same_parts c.in_ok-evidence.ensures in
    let halts = c.in_ok-halt.ensures.shows (kbcos_limits given) (marked_of cosets) same_problem in (
      shown-halted (kbcos_limits given) (subgroup_file given.file) (marked_of cosets) c.args.name.now (sym same_name) shown halt.lines.items
          halt.waiting halt.rules.rules halt.reached halts.1 are,
      limit_of_log halt.reached shown.limit are.0,
    )
