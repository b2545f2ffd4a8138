use Rattle.std.proofs.Common.{◌≡◌, ℕ, List, ap, subst}
use Rattle.std.specs.Prelude.{Ok, IfOk}
use Rattle.kb_word.specs.Presentations.{parts_of}
use Rattle.kb_word.specs.Words.{OneOf, Pair}
use Rattle.kb_fsa.specs.Language.{Automaton}
use Rattle.kb_structure.specs.Structure.{IsAutomaticStructure}
use Rattle.kb_axioms.specs.Answered.{AxiomsSay, checked_in}
use Rattle.kb_axioms.specs.Checked.{own_structure}
use Rattle.kb_axioms.specs.declared.answers.Axioms.TheVariants as answers
use Rattle.kb_cmd_structures.specs.Given.{CheckGiven}
use Rattle.kb_cmd_structures.proofs.LinesLemmas.{confluent_rules, lines_say}
use Rattle.kb_cmd_structures.proofs.by_lines.check_by_lines.Goals as goal

pub index_of-requires-clause-justified : goal.index_of-requires-clause-justified
index_of-requires-clause-justified g c = c.requires.justified

pub check-requires-clause-confluent : goal.check-requires-clause-confluent
check-requires-clause-confluent g c = λ lifetimes outlive is_yes.
    let loaded = c.args.loaded.now in
    confluent_rules loaded.presentation c.args.log.now c.in_ok-index.index.rules c.in_ok-index.ensures.rules
    (λ joined. c.lines_that_settle_generate_the_congruence.ensures (parts_of loaded.presentation) c.args.log.now c.requires.justified joined)
    (c.in_ok-settled.ensures.0 is_yes)

pub returns : goal.returns
returns g c =
    let given : CheckGiven = c.args.task.now in
    let loaded = c.args.loaded.now in
    let rules : List Pair = c.in_ok-index.index.rules in
    let states : c.task.inside.limits.states ≡ given.limits.states = ap (λ (it : CheckGiven). it.limits.states) c.task.view_is in
    let Says : ℕ → List Automaton → Type 0 = λ most list.
    IfOk c.check.result (AxiomsSay loaded.presentation rules c.in_ok-settled.settled loaded.acceptor list most) in
    let Owns : ℕ → List Automaton → Type 0 = λ most list. c.check.result ≡ Ok answers.Yes
    → IsAutomaticStructure (own_structure (checked_in loaded.presentation loaded.acceptor list most)) in
    let list = c.deref.ensures.value in
    let SaysOf : List Automaton → Type 0 = λ l. Says c.task.inside.limits.states l in
    let OwnsOf : List Automaton → Type 0 = λ l. Owns c.task.inside.limits.states l in
    let SaysBy : ℕ → Type 0 = λ most. Says most loaded.multipliers.items in
    let OwnsBy : ℕ → Type 0 = λ most. Owns most loaded.multipliers.items in
    let follow : (rule : Pair) → OneOf rules rule → _ = λ rule one.
    let Among : List Pair → Type 0 = λ r. OneOf r rule in
    c.the_lines_of_a_justified_log_follow.ensures (parts_of loaded.presentation) c.args.log.now rule c.requires.justified
    (subst Among c.in_ok-index.ensures.rules one) in
    lines_say given loaded.presentation c.args.log.now loaded.acceptor loaded.multipliers.items rules c.in_ok-settled.settled
    c.in_ok-index.ensures.rules c.in_ok-settled.ensures c.check.result
    (subst SaysBy states (subst SaysOf list c.check.ensures.says))
    (subst OwnsBy states (subst OwnsOf list (λ is_yes. c.check.ensures.own is_yes follow)))
