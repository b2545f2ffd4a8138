use Rattle.std.proofs.Common.{◌↔◌, ℕ, List, sym, ap, subst}
use Rattle.kb_fsa.specs.Table.{Table, AcceptsFrom}
use Rattle.kb_fsa.specs.Language.{IsAutomaton}
use Rattle.kb_fsa.specs.declared.alphabet.Alphabet.{Alphabet}
use Rattle.kb_certificates.specs.Cascade.{AcceptsLed}
use Rattle.kb_certificates.proofs.LedRuns.{led_automaton, led_language}
use Rattle.kb_certificates.proofs.cascade.product.cascade_product.Goals as goal

pub new-requires : goal.new-requires
new-requires g c =
    let leader = c.args.leader.now in
    let follower = g.F.Follower.follower c.args.follower.now in
    let is = led_automaton leader follower c.in-Ok.ensures.explored c.alphabet.ensures.automaton c.in-Ok.ensures.symbols in
    let P : Alphabet → Type 0 = λ alphabet. IsAutomaton (record { alphabet = alphabet; table = c.in-Ok.exploration.table }) in
    subst P (sym c.alphabet.ensures.alphabet) is

pub returns-in-Ok-clause-language : goal.returns-in-Ok-clause-language
returns-in-Ok-clause-language g c =
    let leader = c.args.leader.now in
    let follower = g.F.Follower.follower c.args.follower.now in
    let P : Table → Type 0 = λ table. (text : List ℕ) → AcceptsFrom table table.initial text ↔ AcceptsLed leader.table follower text in
    subst P (ap (λ fsa. fsa.table) (sym c.new.ensures)) (led_language leader follower c.in-Ok.ensures.explored)
