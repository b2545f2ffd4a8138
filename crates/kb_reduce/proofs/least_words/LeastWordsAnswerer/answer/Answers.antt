use Rattle.std.proofs.Common.{◌∙◌, ℕ, List, [], length, sym, ap, subst}
use Rattle.std.specs.Prelude.{OnOk}
use Rattle.std.proofs.lemmas.Result.{on_ok_weaker}
use Rattle.kb_word.specs.Congruence.{IsLeast}
use Rattle.kb_word.specs.Presentations.{PresentationParts}
use Rattle.kb_word.specs.Relations.{IsOver, relations_of}
use Rattle.kb_word.specs.WordOrders.{Below}
use Rattle.kb_fsa.specs.Language.{Automaton, generators}
use Rattle.kb_structure.specs.Structure.{Follows}
use Rattle.kb_structure.specs.StructureOf.{structure_of, OfAutomata}
use Rattle.kb_reduce.proofs.least_words.LeastWordsAnswerer.answer.Goals as goal

pub returns : goal.returns
returns c =
    let presentation = c.self.inside.reader.presentation in
    let acceptor = c.self.inside.acceptor in
    let multipliers = c.self.inside.multipliers.items in
    let relations = relations_of presentation.inv presentation.eqs in
    let lead = c.self.invariant in
    let word = c.args.word.now in
    let end = c.reduce.new.word in
    let Leads : List Automaton → Type 0 = λ by. OnOk c.reduce.result (OfAutomata acceptor by (λ structure. Follows structure word [] end)) in
    let follows = subst Leads c.deref.ensures.value c.reduce.ensures in
    let Over : ℕ → Type 0 = λ n. IsOver n word in
    let over = subst (λ (parts : PresentationParts). IsOver (length parts.names) word) (sym c.self.view_is) c.requires.over in
    let generators_over = subst Over (presentation.is_presentation.one_name_each ∙ sym (ap generators lead.alphabet)) over in
    let Answers : PresentationParts → Type 0 = λ parts. OnOk c.reduce.result (IsLeast (Below parts.order) (relations_of parts.inverses parts.equations) word end) in
    subst Answers c.self.view_is
    (on_ok_weaker c.reduce.result
    (λ (leads : OfAutomata acceptor multipliers (λ structure. Follows structure word [] end)).
    c.own_structures_lead_to_least_words.ensures (structure_of presentation.order relations acceptor multipliers) lead.own word end generators_over
    (leads presentation.order relations)) follows)
