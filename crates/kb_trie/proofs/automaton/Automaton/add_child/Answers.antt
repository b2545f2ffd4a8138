use Rattle.std.proofs.Common.{ℕ, List, refl, sym, ◌∙◌, subst}
use Rattle.std.proofs.lemmas.Bool.{true≢false}
use Rattle.kb_trie.specs.Adding.{Adds, IsThis}
use Rattle.kb_trie.specs.Children.{IsLed, LeadsToChild}
use Rattle.kb_trie.specs.Edges.{words_of}
use Rattle.kb_trie.proofs.Adding.{adds_none, adds_push}
use Rattle.kb_trie.proofs.Connecting.{child_some}
use Rattle.kb_trie.proofs.automaton.Automaton.add_child.Goals as goal

pub leads-requires-clause-some : goal.leads-requires-clause-some
leads-requires-clause-some c =
    child_some (words_of c.args.self.now.edges.keys) c.requires.automaton.states.are c.args.parent c.requires.child.letter c.args.child
    c.requires.child.child

pub returns-else-leads : goal.returns-else-leads
returns-else-leads c =
    adds_none (IsThis c.args.child (LeadsToChild (words_of c.args.self.now.edges.keys) c.args.state c.args.parent)) c.args.found.now.items
    (λ number this.
    let P : ℕ → Type 0 = λ n. IsLed (words_of c.args.self.now.edges.keys) c.args.state n in
    true≢false (sym (c.leads.ensures.1 (subst P this.is this.such.led)) ∙ c.if-leads.false))

pub returns-in_ok-push : goal.returns-in_ok-push
returns-in_ok-push c =
    let P : List ℕ → Type 0 = λ l. Adds (IsThis c.args.child (LeadsToChild (words_of c.args.self.now.edges.keys) c.args.state c.args.parent)) c.args.found.now.items l in
    subst P (sym c.in_ok-push.ensures.items)
    (adds_push (IsThis c.args.child (LeadsToChild (words_of c.args.self.now.edges.keys) c.args.state c.args.parent)) c.args.found.now.items c.args.child
    (record { is = refl; such = record { led = c.leads.ensures.0 c.if-leads.true; child = c.requires.child } }) (λ number this. this.is))
